-- Where the descent ends (ways/specs/Sides.antt, collect_whole): what the root's mark and kind say of the tree.
use mathlib.Core.Path.{◌≡◌, refl, ap, sym, ◌∙◌}
use Prim.Native.Nat.{ℕ, ◌≤◌}
use native.Mathlib.Omega.{arith}
use native.Mathlib.Decide.{ℕ_discrete}
use mathlib.Core.List.{List}
use mathlib.Core.Bool.{true, false}
use lib.ListN.{length}
use borrow.Author.Tests.{ne_eqb}
use Rattle.record.specs.Fields.{kind, arity}
use Rattle.record.specs.Tree.{Tree}
use Rattle.record.specs.Tree.Tree.{Constant, Variable, Unary, Binary}
use Rattle.record.specs.Span.{left, right}
use Rattle.record.specs.Decode.{decode}
use Rattle.record.proofs.SpanLaws.{fold_leaf, fold_one, fold_two}
use Rattle.base.proofs.BoolLaws.{false_true}
use Rattle.record.proofs.LeafLaws.{leaf_both}
use Rattle.expr_utils.specs.Utils.{has_arith}
use Rattle.normalizer_laws.specs.Collect.{nonlinear, collect_atom, collect_and}
use Rattle.ways.specs.Sides.{left_of, right_of, IsAnd, collect_whole}

-- ---- what is collected

pub whole_nonlinear : (w c : ℕ) (t : Tree) → has_arith t ≡ true → collect_whole w c t ≡ nonlinear
unfolding has_arith collect_whole
whole_nonlinear w c (Constant v) e = false_true e
whole_nonlinear w c (Variable i) e = false_true e
whole_nonlinear w c (Unary k a t) e = rw e refl
whole_nonlinear w c (Binary k l r) e = rw e refl

pub whole_and : (w c : ℕ) (t : Tree) → has_arith t ≡ false → IsAnd t
    → collect_whole w c t ≡ collect_and w c (left_of t) (right_of t)
unfolding collect_whole
whole_and w c t e b = ap (collect_whole w c) b ∙ rw (sym (ap has_arith b) ∙ e) refl

-- the kind of a root with two children, another number for the other trees
unfoldable pub binary_kind : Tree → ℕ
binary_kind (Constant v) = 0
binary_kind (Variable i) = 0
binary_kind (Unary k a t) = 0
binary_kind (Binary k l r) = k

pub whole_atom : (w c : ℕ) (t : Tree) → has_arith t ≡ false → (binary_kind t ≡ 4 → ⊥)
    → collect_whole w c t ≡ collect_atom c t
unfolding collect_whole binary_kind
whole_atom w c (Constant v) e k = refl
whole_atom w c (Variable i) e k = refl
whole_atom w c (Unary j a t) e k = rw e refl
whole_atom w c (Binary j l r) e k = rw (e, ne_eqb j 4 k) refl

-- ---- the root's kind

module _ (s : List ℕ) (big : 16 ≤ length s) where
  and_root : kind s ≡ 4 → decode s ≡ Binary 4 (decode (left s)) (decode (right s))
  unfolding arity
  and_root k =
      let a : arity (kind s) ≡ 2 = ap arity k in
      fold_two _ _ _ _ s big (λ h. omega arith) (λ h. omega arith) ∙ rw k refl

  pub is_and : kind s ≡ 4 → IsAnd (decode s)
  unfolding left_of right_of
  is_and k = rw (and_root k) refl

  pub other_kind : (kind s ≡ 4 → ⊥) → binary_kind (decode s) ≡ 4 → ⊥
  unfolding binary_kind
  other_kind k e = go (ℕ_discrete (arity (kind s)) 0) (ℕ_discrete (arity (kind s)) 1)
    where
      go : Dec (arity (kind s) ≡ 0) → Dec (arity (kind s) ≡ 1) → ⊥
      go (yes a) d =
          let z : binary_kind (decode s) ≡ 0 =
          ap binary_kind (fold_leaf _ _ _ _ s big a) ∙ leaf_both (λ (t : Tree). binary_kind t ≡ 0) s refl refl in
          omega arith
      go (no p) (yes a) =
          let z : binary_kind (decode s) ≡ 0 = ap binary_kind (fold_one _ _ _ _ s big a) in
          omega arith
      go (no p) (no q) =
          k (sym (ap binary_kind (fold_two _ _ _ _ s big p q)) ∙ e)
