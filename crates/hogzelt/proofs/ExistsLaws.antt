-- There are calls as any list of calls asks for them (Trace.antt): each contract allows what the definition gives.
use mathlib.Core.Path.{◌≡◌, refl, ap, sym, ◌∙◌}
use Prim.Native.Nat.{ℕ}
use mathlib.Core.List.{List, [], ◌∷◌}
use mathlib.Core.Bool.{Bool, true, false}
use lib.ListN.{length, take, replicate, length-replicate}
use denote.Ref.{Bor, MutBor}
use contract.Lifetimes.{Lfts}
use borrow.Fn.World.{ArgsD}
use borrow.Fn.Kinds.{ended_of}
use denote.Triple.Clauses.{AtExit}
use Rattle.base.specs.Put.{padded}
use Rattle.record.specs.Tree.{IsBytes}
use Rattle.semilinear.specs.Form.{Form, term_count, encode_form, valid_form}
use Rattle.base.specs.Outcome.{Outcome, accepted, refusal_of, numbers_of, written_of, Gives, flag_number}
use Rattle.semilinear.specs.Answers.{InNumbers, refused_answer, GivesNumbers}
use Rattle.atom_table.proofs.MadeLaws.{Made, made, not_made}
use Rattle.semilinear.proofs.OutcomeLaws.{form_answer, gives_form, gives_refused, gives_two}
use Rattle.atom_table.proofs.PassLaws.{gives_same}
use Rattle.normalizer_laws.specs.Normalize.{normalize_to_semilinear}
use Rattle.normalizer_laws.proofs.NormalizeLaws.{Normalized, normalize_form}
use Rattle.rules_laws.specs.Rules.{normalize_by_rules}
use Rattle.rules_laws.proofs.RulesLaws.{rules_form}
use Rattle.claims.specs.Calls.{Pass, Call, refine_terms_pass, recover_structure_pass, coalesce_terms_pass, flatten_complex_atoms_pass}
use Rattle.claims.specs.Calls.{compact_atom_table_pass, pass_gives, after_call}
use Rattle.claims.proofs.CallsLaws.{pass_keeps, call_keeps}
use Rattle.hogzelt.proofs.Trace.{Returned, CallOf, refines, recovers, coalesces, flattens, compacts, in_use_after}
use Rattle.hogzelt.proofs.Trace.{Trace, none, then, Traced, plain, by_rules, Accepted, Started, Learns}
use Rattle.hogzelt.proofs.TraceLaws.{call_bytes, begun}
use Rattle.hogzelt.specs.contracts.hogzelt_compact_atom_table as writer
use Rattle.hogzelt.proofs.hogzelt_compact_atom_table.Kinds as writer-kinds
use Rattle.hogzelt.proofs.hogzelt_compact_atom_table.Reads as compact-reads
use Rattle.hogzelt.proofs.hogzelt_refine_terms.Reads as refine-reads
use Rattle.hogzelt.proofs.hogzelt_recover_structure.Reads as recover-reads
use Rattle.hogzelt.proofs.hogzelt_coalesce_terms.Reads as coalesce-reads
use Rattle.hogzelt.proofs.hogzelt_normalize_to_semilinear.Reads as normalize-reads

-- what a pass may hand over
record Handed (o : Outcome) (len : ℕ) : Type 0 where
  answer : InNumbers
  out : List ℕ
  given : GivesNumbers o len answer out

handed : {f : Form} {o : Outcome} (len : ℕ) → Made f o → Handed o len
handed len (made g flag k new e) =
    record {
      answer = form_answer g flag;
      out = padded len (encode_form g);
      given = gives_same e len (form_answer g flag) _ (gives_form g flag len (form_answer g flag) _ refl refl);
    }
handed len (not_made n pos e) =
    record {
      answer = refused_answer n;
      out = replicate len 0;
      given = gives_same e len (refused_answer n) _ (gives_refused n len (refused_answer n) _ refl refl);
    }

-- a reference to a value, shared or mutable
abbrev ref : {A : Type 0} → A → Bor A
ref x = record { ref_ptr = (0, 0); now = x }

abbrev mut_ref : {A : Type 0} → A → MutBor A
mut_ref x = record { ref_ptr = (0, 0); ghost_name = 0; now = x }

-- a writer that handed over an answer and a slice, where its contract allows it
abbrev lifetimes : Lfts 4
lifetimes = ([], ([], ([], ([], tt))))

abbrev given_args : List ℕ → ℕ → ArgsD writer.signature lifetimes
given_args s len = (ref s, (mut_ref (replicate len 0), (mut_ref 0, (mut_ref 0, tt))))

abbrev left_args : List ℕ → InNumbers → List ℕ → AtExit (ended_of 4 writer-kinds.ps writer-kinds.r) lifetimes
left_args s a out = (ref s, (mut_ref out, (mut_ref a.used, (mut_ref a.terms, tt))))

returned : (L : Learns) (s : List ℕ) (len : ℕ) (a : InNumbers) (out : List ℕ)
    → L lifetimes (given_args s len) a.refusal (left_args s a out) → Returned L s len a.refusal a.used out
returned L s len a out h =
    record {
      κs = lifetimes;
      args = given_args s len;
      exit = left_args s a out;
      learnt = h;
      reads = refl;
      sized = length-replicate len 0;
      uses = refl;
      writes = refl;
    }

call_handed : (p : Pass) (s : List ℕ) (len : ℕ) (h : Handed (pass_gives p s len) len)
    → CallOf s len h.answer.refusal h.answer.used h.out p
unfolding pass_gives
call_handed refine_terms_pass s len h =
    refines (returned refine-reads.Learnt s len h.answer h.out
    (rw (length-replicate {A = ℕ} len 0) (gives_two _ _ _ _ _ _ _ h.given)))
call_handed recover_structure_pass s len h =
    recovers (returned recover-reads.Learnt s len h.answer h.out
    (rw (length-replicate {A = ℕ} len 0) (gives_two _ _ _ _ _ _ _ h.given)))
call_handed coalesce_terms_pass s len h =
    coalesces (returned coalesce-reads.Learnt s len h.answer h.out
    (rw (length-replicate {A = ℕ} len 0) (gives_two _ _ _ _ _ _ _ h.given)))
call_handed flatten_complex_atoms_pass s len h =
    let a = h.answer in
    flattens (record {
      κs = ([], lifetimes);
      args = (ref s, (mut_ref (replicate len 0), (mut_ref 0, (mut_ref 0, (mut_ref 0, tt)))));
      exit = (ref s, (mut_ref h.out, (mut_ref a.used, (mut_ref a.terms, (mut_ref (flag_number a.flag), tt)))));
      learnt = rw (length-replicate {A = ℕ} len 0) h.given;
      reads = refl;
      sized = length-replicate len 0;
      uses = refl;
      writes = refl;
    })
call_handed compact_atom_table_pass s len h =
    compacts (returned compact-reads.Learnt s len h.answer h.out
    (rw (length-replicate {A = ℕ} len 0) (gives_two _ _ _ _ _ _ _ h.given)))

form_traced : (f : Form) → valid_form f ≡ true → (calls : List Call) (s : List ℕ)
    → s ≡ encode_form f → Traced s calls
form_traced f ok [] s e = record { last = s; trace = none }
form_traced f ok (c ∷ l) s e =
    let m : Made f (pass_gives c.pass s c.len) = rw e (pass_keeps f ok c.len c.pass) in
    let call = call_handed c.pass s c.len (handed c.len m) in
    let next = call_keeps f ok c in
    let rest =
    form_traced next.form next.kept.valid l _
    (call_bytes f ok c e call ∙ ap (after_call c) e ∙ next.encoded) in
    record { last = rest.last; trace = then call rest.trace }

-- the answer of normalising that gave the bytes b of a form
abbrev answer_of : {s b ns : List ℕ} → Normalized s b ns → InNumbers
answer_of {b = b} n = record { refusal = 0; used = length b; terms = term_count n.form.rows; flag = false }

normal_given : {o : Outcome} {s b ns : List ℕ} (n : Normalized s b ns) (len : ℕ) → o ≡ accepted b ns
    → Gives o len 0 ((answer_of n).used ∷ (answer_of n).terms ∷ []) (padded len b)
unfolding refusal_of numbers_of written_of
normal_given n len e = rw e (record { number = refl; beside = sym (ap (take 2) n.counted); written = refl })

-- normalising itself
pub started : (s : List ℕ) → IsBytes s → (len : ℕ) (b ns : List ℕ) → normalize_to_semilinear s len ≡ accepted b ns
    → Started 1 s len
started s h len b ns e =
    let n = normalize_form s h len b ns e in
    record {
      used = length b;
      out = padded len b;
      accepts =
          record {
            are_bytes = h;
            returned =
                plain (returned normalize-reads.Learnt s len (answer_of n) (padded len b)
                (rw (length-replicate {A = ℕ} len 0) (normal_given n len e)));
          };
    }

-- and by rules
pub started_by : (rules : ℕ) (s : List ℕ) → IsBytes s → (len : ℕ) (b ns : List ℕ)
    → normalize_by_rules rules s len ≡ accepted b ns → Started rules s len
started_by rules s h len b ns e =
    let n = rules_form rules s len h b ns e in
    record {
      used = length b;
      out = padded len b;
      accepts =
          record {
            are_bytes = h;
            returned =
                by_rules
                (record {
                  κs = lifetimes;
                  args = (rules, given_args s len);
                  exit = (rules, left_args s (answer_of n) (padded len b));
                  learnt = rw (length-replicate {A = ℕ} len 0) (normal_given n len e);
                  named = refl;
                  reads = refl;
                  sized = length-replicate len 0;
                  uses = refl;
                  writes = refl;
                });
          };
    }

-- from an expression that normalising accepted
pub traced : {rules : ℕ} {s : List ℕ} {len used : ℕ} {out : List ℕ} → Accepted rules s len used out
    → (calls : List Call) → Traced (take used out) calls
traced {rules} {s} {len} a calls =
    let b = begun a in
    let n = rules_form rules s len a.are_bytes b.first b.numbers b.normal in
    form_traced n.form n.valid calls _ (b.taken ∙ n.encoded)
