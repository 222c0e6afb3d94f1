-- Laws of `sized` (specs/Span.antt): a span whose size fields are right has a record, and so have its children's spans.
use Rattle.base.proofs.BoolLaws.{false_true, and_true}
use mathlib.Core.Path.{◌≡◌, sym, ◌∙◌}
use Prim.Native.Nat.{ℕ, ◌*◌, ◌≤◌, ◌<◌}
use native.Mathlib.Omega.{arith}
use native.Mathlib.Decide.{dec_lt, ℕ_discrete}
use mathlib.Core.List.{List}
use mathlib.Core.Bool.{Bool, true, ◌&&◌}
use lib.ListN.{length}
use lib.Dec.{eqb}
use borrow.Author.Tests.{eqb-true}
use Rattle.record.specs.Fields.{kind, size, arity}
use Rattle.record.specs.Span.{body, left, right, sized}
use Rattle.record.proofs.SpanLaws.{fold_none, fold_leaf, fold_one, fold_two}

abbrev root_sized : List ℕ → Bool
root_sized s = eqb (size s * 16) (length s)

module _ (s : List ℕ) (ok : sized s ≡ true) where
  pub sized_big : 16 ≤ length s
  sized_big = go (dec_lt (length s) 16)
    where
      go : Dec (length s < 16) → 16 ≤ length s
      go (yes h) = false_true (sym (fold_none _ _ _ _ s h) ∙ ok)
      go (no h) = omega arith

  leaf_parts : arity (kind s) ≡ 0 → (root_sized s ≡ true) × (eqb (length s) 16 ≡ true)
  leaf_parts a = and_true (root_sized s) (eqb (length s) 16) (sym (fold_leaf _ _ _ _ s sized_big a) ∙ ok)

  one_parts : arity (kind s) ≡ 1 → (root_sized s ≡ true) × (sized (body s) ≡ true)
  one_parts a = and_true (root_sized s) (sized (body s)) (sym (fold_one _ _ _ _ s sized_big a) ∙ ok)

  two_parts : (arity (kind s) ≡ 0 → ⊥) → (arity (kind s) ≡ 1 → ⊥)
      → (root_sized s ≡ true) × (sized (left s) && sized (right s) ≡ true)
  two_parts p q =
      and_true (root_sized s) (sized (left s) && sized (right s)) (sym (fold_two _ _ _ _ s sized_big p q) ∙ ok)

  pub sized_length : size s * 16 ≡ length s
  sized_length = go (ℕ_discrete (arity (kind s)) 0) (ℕ_discrete (arity (kind s)) 1)
    where
      go : Dec (arity (kind s) ≡ 0) → Dec (arity (kind s) ≡ 1) → size s * 16 ≡ length s
      go (yes a) d = eqb-true _ _ (leaf_parts a).0
      go (no p) (yes a) = eqb-true _ _ (one_parts a).0
      go (no p) (no q) = eqb-true _ _ (two_parts p q).0

  pub sized_leaf : arity (kind s) ≡ 0 → length s ≡ 16
  sized_leaf a = eqb-true _ _ (leaf_parts a).1

  pub sized_body : arity (kind s) ≡ 1 → sized (body s) ≡ true
  sized_body a = (one_parts a).1

  pub sized_left : (arity (kind s) ≡ 0 → ⊥) → (arity (kind s) ≡ 1 → ⊥) → sized (left s) ≡ true
  sized_left p q = (and_true (sized (left s)) (sized (right s)) (two_parts p q).1).0

  pub sized_right : (arity (kind s) ≡ 0 → ⊥) → (arity (kind s) ≡ 1 → ⊥) → sized (right s) ≡ true
  sized_right p q = (and_true (sized (left s)) (sized (right s)) (two_parts p q).1).1
