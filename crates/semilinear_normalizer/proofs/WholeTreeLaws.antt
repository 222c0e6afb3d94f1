-- Normalising a whole accepted file (normalizer_laws/specs/Normalize.antt): the descent from its root with the
-- coefficient 1 collects what the definition says, and refusal 8 is found where it is defined.
use mathlib.Core.Path.{◌≡◌, refl, ap, ap₂, sym, subst, ◌∙◌}
use Prim.Native.Nat.{ℕ, ◌+◌, ◌*◌, ◌^◌, ◌≤◌, ◌<◌, min}
use native.Mathlib.Omega.{arith}
use native.Mathlib.Nat.{mod-eq_of_lt, zero-add, sub-zero}
use mathlib.Core.List.{List, []}
use mathlib.Core.Bool.{Bool, true, false}
use lib.ListN.{length, take}
use lib.Dec.{lit<}
use lib.Seq.{take_all}
use lib.Pow.{pow_pos, pow_mono}
use Rattle.arith.proofs.WidthLaws.{mod_add_lem}
use Rattle.record.specs.Fields.{size}
use Rattle.record.specs.Tree.{Tree, size_of, IsBytes}
use Rattle.record.specs.Decode.{decode}
use Rattle.base.specs.Put.{put}
use Rattle.base.proofs.PutLaws.{take_put}
use Rattle.record.proofs.SizedLaws.{sized_length}
use Rattle.expr_refusal.specs.Refusal.{is_expr, tree_refusal}
use Rattle.expr_refusal.proofs.RefusalLaws.{accepted_root, sized_accepted}
use Rattle.expr.proofs.AcceptLaws.{accept_expr}
use Rattle.std.specs.Prelude.{Result}
use Rattle.base.specs.declared.refusal.Refusal.{Refusal}
use Rattle.semilinear.specs.declared.outcome.Answer.{Answer}
use Rattle.base.specs.Outcome.{Outcome, refused}
use Rattle.semilinear.specs.Answers.{in_numbers, GivesForm}
use Rattle.atom_table.proofs.PassLaws.{gives_same}
use Rattle.ways.specs.declared.side.Spot.{Spot}
use Rattle.std.specs.Prelude.{Option, None, Some}
use Rattle.descent.specs.declared.collect.Atom.{Atom}
use Rattle.descent.specs.declared.collect.Descent.{Descent}
use Rattle.normalizer_laws.specs.Collect.{Collected, nonlinear, linear, join_collected}
use Rattle.rules_laws.specs.Rules.{rewrite_nots}
use Rattle.rules_laws.specs.Descend.{descend}
use Rattle.rules_laws.proofs.NotsLaws.{nots_expr}
use Rattle.rules_laws.proofs.DescendLaws.{descend_one, descend_two}
use Rattle.ways.specs.Marks.{marks_of, Marked}
use Rattle.ways.specs.Spans.{span_of}
use Rattle.descent.specs.Spots.{spots_in, collected_in, SpotsOk, Collects, Ready}
use Rattle.ways.specs.Sides.{tree_at, AtSpot}
use Rattle.normalizer_laws.specs.Normalize.{collected_outcome}
use Rattle.normalizer_laws.proofs.EmittedLaws.{GoodCollected, collect_good}
use Rattle.ways.proofs.MarksLaws.{length_marks}
use Rattle.ways.proofs.SpanOfLaws.{size_sized}

-- what is collected from nothing on
from_nothing : (w : ℕ) (hw : w ≤ 64) (x : Collected) → GoodCollected w hw x → join_collected w (linear 0 []) x ≡ x
unfolding join_collected GoodCollected
from_nothing w hw nonlinear g = refl
from_nothing w hw (linear d m) g =
    ap (λ (n : ℕ). linear n m) (mod_add_lem 0 d w hw ∙ rw zero-add (mod-eq_of_lt g.0))

-- what the descent gives is as registering asks for it, with the rule for Not or without it
descend_good : (nots : Bool) (w : ℕ) (hw : w ≤ 64) (t : Tree) → is_expr t ≡ true → 1 < 2 ^ w
    → GoodCollected w hw (descend nots w 1 t)
descend_good false w hw t e one =
    subst (GoodCollected w hw) (sym (descend_one w hw 1 t (lit< tt))) (collect_good w hw t e 1 one)
descend_good true w hw t e one =
    subst (GoodCollected w hw) (sym (descend_two w hw 1 t (lit< tt)))
    (collect_good w hw (rewrite_nots w t) (nots_expr w hw t e) 1 one)

-- the descent as it starts
abbrev pub nothing : Descent
nothing = record { constant = 0; count = 0 }

module _ (w : ℕ) (t : List ℕ) (h : IsBytes t) (ok : tree_refusal w t ≡ 0) where
  abbrev whole : Spot
  whole = record { coeff = 1; start = 0; end = length t }

  width_le : w ≤ 64
  width_le = (accepted_root w t ok).width_le

  whole_span : span_of t 0 (length t) ≡ t
  unfolding span_of
  whole_span = rw sub-zero (take_all (length t) t (omega arith))

  whole_size : size_of (tree_at t whole) ≡ size t
  whole_size = ap (λ (s : List ℕ). size_of (decode s)) whole_span ∙ sym (size_sized t (sized_accepted w t ok))

  pub whole_at : {m before after : List ℕ} {r n : ℕ} → Marked (decode t) 0 before after r
      → size t ≤ length before → n ≡ size t → m ≡ take n after → AtSpot w t m whole
  whole_at {m} {before} {after} {r} {n} marked room en em =
      let count : length (marks_of (decode t)) ≡ size t =
      length_marks (decode t) ∙ sym (size_sized t (sized_accepted w t ok)) in
      let end : n ≡ 0 + length (marks_of (decode t)) = omega (arith, count) in
      record {
        span = record { rising = omega arith; inside = omega arith; tree = rw whole_span ok };
        marks_are =
            em
            ∙ ap (take n) marked.written
            ∙ ap (λ (k : ℕ). take k (put before 0 (marks_of (decode t)))) end
            ∙ take_put before 0 (marks_of (decode t)) (omega (arith, count))
            ∙ ap (λ (s : List ℕ). marks_of (decode s)) (sym whole_span);
      }

  pub whole_ready : {spots : List Atom} {d : Descent} → size t ≤ length spots → d ≡ nothing
      → Ready w (size_of (tree_at t whole)) spots d
  whole_ready room e =
      rw e (record { width = width_le; fits = pow_pos w; room = omega (arith, whole_size) })

  -- ---- what the descent collects

  module _ (nots : Bool) {d : Descent} (start : d ≡ nothing) where
    abbrev All : List Atom → List Atom → Option Descent → Type 0
    All before after r = Collects w t (size_of (tree_at t whole)) (descend nots w 1 (tree_at t whole)) before d after r

    collected_whole : {before after : List Atom} (r : Option Descent) → All before after r
        → collected_in t after r ≡ descend nots w 1 (decode t)
    unfolding spots_in
    collected_whole {before} {after} r all =
        let hw = width_le in
        let two : 2 ^ 1 ≤ 2 ^ w = pow_mono (accepted_root w t ok).width_pos in
        let one : 1 < 2 ^ w = omega arith in
        let nil : linear d.constant (spots_in t before d.count) ≡ linear 0 [] = rw start refl in
        all.collected
        ∙ ap₂ (join_collected w) nil (ap (λ (s : List ℕ). descend nots w 1 (decode s)) whole_span)
        ∙ from_nothing w hw (descend nots w 1 (decode t)) (descend_good nots w hw (decode t) (accept_expr w t h ok) one)

    abbrev whole_outcome : Outcome
    whole_outcome = collected_outcome w (descend nots w 1 (decode t))

    pub gives_eight : {before after : List Atom} → All before after None → {n : ℕ} → n ≡ 57360 → (a : Result Answer Refusal) {e : List ℕ}
        → GivesForm (refused 8) n a e → GivesForm whole_outcome 57360 a e
    unfolding collected_outcome collected_in
    gives_eight all en a {e} g =
        gives_same (ap (collected_outcome w) (sym (collected_whole None all))) 57360 (in_numbers a) e (rw en at g)

    module _ {before after : List Atom} {r : Descent} (all : All before after (Some r)) where
      pub gives_collected : (a : Result Answer Refusal) {e : List ℕ}
          → GivesForm (collected_outcome w (linear r.constant (spots_in t after r.count))) 57360 a e
          → GivesForm whole_outcome 57360 a e
      unfolding collected_in
      gives_collected a {e} g =
          gives_same (ap (collected_outcome w) (sym (collected_whole (Some r) all))) 57360 (in_numbers a) e g

      count : d.count ≡ 0
      count = ap (λ (x : Descent). x.count) start

      pub spots_whole : SpotsOk w t after r.count
      spots_whole = all.stepped.spots (λ i l. absurd (omega (arith, count)))

      pub count_whole : size t ≤ length before → r.count ≤ length after
      count_whole room = omega (arith, all.stepped.few, whole_size, all.same_length, count)

      -- an entry for each record is one for each spot
      pub index_whole : {n : ℕ} → min 256 (size t) ≤ n → min 256 r.count ≤ n
      index_whole room = omega (arith, all.stepped.few, whole_size, count)

-- the records of an accepted span
pub size_room : (w n : ℕ) (s : List ℕ) → tree_refusal w s ≡ 0 → length s ≤ 16 * n → size s ≤ n
size_room w n s z h = omega (arith, sized_length s (sized_accepted w s z))
