-- Any list of calls of the exported functions keeps the value (Trace.antt): what each call's contract says is what the
-- definitions give, and the rest is the theorem about the definitions (`list_keeps`).
use mathlib.Core.Path.{◌≡◌, refl, ap, sym, subst, ◌∙◌}
use Prim.Native.Nat.{ℕ, zero, suc, ◌<◌}
use native.Mathlib.Omega.{arith}
use mathlib.Core.List.{List, [], ◌∷◌}
use mathlib.Core.Bool.{Bool, true}
use lib.ListN.{length, get_or, take, replicate}
use lib.Dec.{eqb}
use borrow.Author.Tests.{ne_eqb}
use Rattle.record.specs.Tree.{IsBytes}
use Rattle.base.specs.Put.{padded}
use Rattle.base.proofs.PutLaws.{take_padded}
use Rattle.semilinear.specs.Form.{Form, encode_form, valid_form}
use Rattle.semilinear.specs.DecodeForm.{decode_form}
use Rattle.base.specs.Outcome.{Outcome, accepted, refused, refusal_of, numbers_of, written_of, Gives}
use Rattle.semilinear.specs.Outcome.{form_outcome}
use Rattle.semilinear_value.specs.Value.{semilinear_value}
use Rattle.semilinear.proofs.EncodeFormLaws.{form_decode, bytes_form}
use Rattle.atom_table.proofs.MadeLaws.{Made, made, not_made}
use Rattle.semilinear.proofs.OutcomeLaws.{gives_two}
use Rattle.semilinear_value.proofs.ValueLaws.{encoded_value}
use Rattle.normalizer_laws.specs.Normalize.{normalize_to_semilinear}
use Rattle.rules_laws.specs.Rules.{normalize_by_rules}
use Rattle.rules_laws.proofs.RulesLaws.{rules_one, rules_refused, rules_form}
use Rattle.partition_laws.specs.Columns.{atom_tree}
use Rattle.partition_laws.specs.Partition.{compute_partitions}
use Rattle.partition_laws.proofs.ColumnsLaws.{row_is}
use Rattle.bit_partitioner.proofs.EntryLaws.{columns_of_call}
use Rattle.claims.specs.Calls.{Pass, Call, refine_terms_pass, recover_structure_pass, coalesce_terms_pass, flatten_complex_atoms_pass}
use Rattle.claims.specs.Calls.{compact_atom_table_pass, pass_gives, use_of, after_call, in_use}
use Rattle.claims.proofs.AtomsLaws.{valid_atoms}
use Rattle.claims.proofs.CallsLaws.{pass_keeps, call_keeps, list_keeps}
use Rattle.hogzelt.proofs.Trace.{Learns, Returned, Flattened, Parted, CallOf, refines, recovers, coalesces}
use Rattle.hogzelt.proofs.Trace.{flattens, compacts, in_use_after}
use Rattle.hogzelt.proofs.Trace.{Trace, none, then, sheet_after, ColumnsOf, Claimed, Accepted}
use Rattle.hogzelt.proofs.Trace.{Normalizes, plain, by_rules}

-- ---- what the contracts say

-- some count of terms stands beside the count of bytes
record GivesUsed (o : Outcome) (len r used : ℕ) (out : List ℕ) : Type 0 where
  terms : ℕ
  given : Gives o len r (used ∷ terms ∷ []) out

-- the number behind terms that a writer gives
abbrev terms_of : {L : Learns} {s : List ℕ} {len r used : ℕ} {out : List ℕ} → Returned L s len r used out → ℕ
terms_of k = k.exit.1.1.1.0.now

-- what is said of the lists and numbers that a call names
given_as : (o : List ℕ → ℕ → Outcome) {s s' out out' : List ℕ} {len len' r used used' terms : ℕ} → s' ≡ s → len' ≡ len
    → used' ≡ used → out' ≡ out → Gives (o s' len') len' r (used' ∷ terms ∷ []) out'
    → Gives (o s len) len r (used ∷ terms ∷ []) out
given_as o reads sized uses writes g = rw (sym reads, sym sized, sym uses, sym writes) g

call_gives : {s : List ℕ} {len r used : ℕ} {out : List ℕ} (p : Pass) → CallOf s len r used out p
    → GivesUsed (pass_gives p s len) len r used out
unfolding pass_gives
call_gives refine_terms_pass (refines k) =
    record {
      terms = terms_of k;
      given = given_as (pass_gives refine_terms_pass) k.reads k.sized k.uses k.writes k.learnt;
    }
call_gives recover_structure_pass (recovers k) =
    record {
      terms = terms_of k;
      given = given_as (pass_gives recover_structure_pass) k.reads k.sized k.uses k.writes k.learnt;
    }
call_gives coalesce_terms_pass (coalesces k) =
    record {
      terms = terms_of k;
      given = given_as (pass_gives coalesce_terms_pass) k.reads k.sized k.uses k.writes k.learnt;
    }
call_gives flatten_complex_atoms_pass (flattens k) =
    record {
      terms = k.exit.1.1.1.0.now;
      given =
          given_as (pass_gives flatten_complex_atoms_pass) k.reads k.sized k.uses k.writes
          (gives_two _ _ _ _ _ _ _ k.learnt);
    }
call_gives compact_atom_table_pass (compacts k) =
    record {
      terms = terms_of k;
      given = given_as (pass_gives compact_atom_table_pass) k.reads k.sized k.uses k.writes k.learnt;
    }

normalize_gives : {rules : ℕ} {s : List ℕ} {len used : ℕ} {out : List ℕ} → Normalizes s len used out rules
    → GivesUsed (normalize_by_rules rules s len) len 0 used out
normalize_gives {rules} {s} {len} {used} {out} (plain k) =
    let given : Gives (normalize_to_semilinear s len) len 0 (used ∷ terms_of k ∷ []) out =
    given_as normalize_to_semilinear k.reads k.sized k.uses k.writes k.learnt in
    record { terms = terms_of k; given = rw (rules_one s len) given }
normalize_gives {rules} {s} {len} {used} {out} (by_rules k) =
    record {
      terms = k.exit.1.1.1.1.0.now;
      given =
          subst (λ (n : ℕ). Gives (normalize_by_rules n s len) len 0 (used ∷ k.exit.1.1.1.1.0.now ∷ []) out) k.named
          (given_as (normalize_by_rules k.args.0) k.reads k.sized k.uses k.writes k.learnt);
    }

-- the partition classes of any bytes
pub parted_columns : (s : List ℕ) → IsBytes s → (len count : ℕ) (out : List ℕ) → Parted s len 0 count out
    → ColumnsOf (decode_form s) out count
parted_columns s h len count out k =
    let given : Gives (compute_partitions s len) len 0 (count ∷ []) out =
    rw (sym k.reads, sym k.sized, sym k.counts, sym k.writes) k.learnt in
    record {
      columns = columns_of_call s len h given;
      row_is = λ i p vars. row_is (atom_tree (decode_form s) i) p vars;
    }

-- ---- the bytes in use

used_of : {o p : Outcome} {len r used : ℕ} {out : List ℕ} → GivesUsed o len r used out → o ≡ p
    → used ≡ get_or (take 2 (numbers_of 2 p)) 0 0
used_of g e = ap (λ (l : List ℕ). get_or l 0 0) (g.given.beside ∙ ap (λ (x : Outcome). take 2 (numbers_of 2 x)) e)

-- the used part of a slice that holds the bytes b
take_written : {o : Outcome} {len r used : ℕ} {out b ns : List ℕ} → GivesUsed o len r used out → o ≡ accepted b ns
    → used ≡ length b → take used out ≡ b
unfolding written_of
take_written {len = len} {out = out} {b = b} g e k =
    ap (λ (n : ℕ). take n out) k
    ∙ ap (take (length b)) (g.given.written ∙ ap (written_of len) e)
    ∙ take_padded len b

after_gives : (s : List ℕ) {f : Form} {o : Outcome} {len r used : ℕ} {out : List ℕ} → Made f o
    → GivesUsed o len r used out → in_use_after r used out s ≡ use_of s o
unfolding in_use_after use_of refusal_of numbers_of form_outcome
after_gives s {r = r} (made f flag k new e) g =
    let zero : r ≡ 0 = g.given.number ∙ ap refusal_of e in
    rw (zero, e) (take_written g e (used_of g e))
after_gives s {r = r} (not_made n pos e) g =
    let number : r ≡ n = g.given.number ∙ ap refusal_of e in
    rw (number, ne_eqb n 0 (λ z. omega arith), e)

-- one call from the bytes of a valid form
pub call_bytes : (f : Form) → valid_form f ≡ true → (c : Call) {s out : List ℕ} {r used : ℕ} → s ≡ encode_form f
    → CallOf s c.len r used out c.pass → in_use_after r used out s ≡ after_call c s
unfolding after_call
call_bytes f ok c {s} e k =
    let m : Made f (pass_gives c.pass s c.len) = rw e (pass_keeps f ok c.len c.pass) in
    after_gives s m (call_gives c.pass k)

pub trace_bytes : (f : Form) → valid_form f ≡ true → {s t : List ℕ} {calls : List Call} → s ≡ encode_form f
    → Trace s calls t → t ≡ in_use calls s
unfolding in_use
trace_bytes f ok e none = refl
trace_bytes f ok {s} e (then {c = c} {l = l} k rest) =
    let one = call_bytes f ok c e k in
    let next = call_keeps f ok c in
    trace_bytes next.form next.kept.valid (one ∙ ap (after_call c) e ∙ next.encoded) rest ∙ ap (in_use l) one

-- the trace of the first n calls
pub trace_cut : {s t : List ℕ} {calls : List Call} (n : ℕ) (tr : Trace s calls t)
    → Trace s (take n calls) (sheet_after n tr)
unfolding sheet_after
trace_cut zero none = none
trace_cut (suc n) none = none
trace_cut zero (then k rest) = none
trace_cut {s = s} (suc n) (then {out = out} {r = r} {used = used} k rest) =
    then k (trace_cut {s = in_use_after r used out s} n rest)

-- ---- from an expression

-- what the definitions give for the list is as claimed
pub definition_claimed : (rules : ℕ) (s : List ℕ) → IsBytes s → (len : ℕ) (b ns : List ℕ)
    → normalize_by_rules rules s len ≡ accepted b ns → (calls : List Call) (t : List ℕ) → t ≡ in_use calls b
    → Claimed rules s len calls t
definition_claimed rules s h len b ns e calls t bytes =
    let n = rules_form rules s len h b ns e in
    let last = list_keeps calls n.form n.valid in
    let f : Form = last.form in
    let ok : valid_form f ≡ true = last.kept.valid in
    let encoded : t ≡ encode_form f = bytes ∙ ap (in_use calls) n.encoded ∙ last.encoded in
    let same : decode_form t ≡ f = ap decode_form encoded ∙ form_decode f ok in
    record {
      first = b;
      numbers = ns;
      normal = e;
      bytes = bytes;
      form = f;
      encoded = encoded;
      valid = ok;
      wide = last.kept.wide ∙ n.wide;
      atoms = valid_atoms f ok;
      value = λ vars.
          ap (λ (x : List ℕ). semilinear_value x vars) encoded
          ∙ encoded_value f ok vars
          ∙ last.kept.value vars
          ∙ n.kept vars;
      columns = λ m count out k. rw (sym same) (parted_columns t (rw encoded (bytes_form f ok)) m count out k);
    }

-- what normalising gave: the first bytes in use
pub record Begun (rules : ℕ) (s : List ℕ) (len used : ℕ) (out : List ℕ) : Type 0 where
  pub first : List ℕ
  pub numbers : List ℕ
  pub normal : normalize_by_rules rules s len ≡ accepted first numbers
  pub taken : take used out ≡ first

pub begun : {rules : ℕ} {s : List ℕ} {len used : ℕ} {out : List ℕ} → Accepted rules s len used out
    → Begun rules s len used out
unfolding refusal_of numbers_of
begun {rules} {s} {len} {used} {out} a = go (normalize_by_rules rules s len) refl
  where
    go : (o : Outcome) → normalize_by_rules rules s len ≡ o → Begun rules s len used out
    go (accepted b ns) e =
        let g = normalize_gives a.returned in
        let n = rules_form rules s len a.are_bytes b ns e in
        let count : used ≡ length b = used_of g e ∙ ap (λ (l : List ℕ). get_or (take 2 l) 0 0) n.counted in
        record { first = b; numbers = ns; normal = e; taken = take_written g e count }
    go (refused n) e =
        let number : 0 ≡ n = (normalize_gives a.returned).given.number ∙ ap refusal_of e in
        absurd (omega (arith, number, rules_refused rules s len n e))

pub trace_claimed : {rules : ℕ} {s : List ℕ} {len used : ℕ} {out : List ℕ} → Accepted rules s len used out
    → {calls : List Call} {t : List ℕ} → Trace (take used out) calls t → Claimed rules s len calls t
trace_claimed {rules} {s} {len} a {calls} {t} tr =
    let b = begun a in
    let n = rules_form rules s len a.are_bytes b.first b.numbers b.normal in
    definition_claimed rules s a.are_bytes len b.first b.numbers b.normal calls t
    (trace_bytes n.form n.valid (b.taken ∙ n.encoded) tr ∙ ap (in_use calls) b.taken)
