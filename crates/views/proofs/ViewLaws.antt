-- Laws of `decompose_atom` (decompose/specs/Decompose.antt) on an atom: the basis is an atom, and the atom's value is
-- the basis's under the mask.
use mathlib.Core.Path.{◌≡◌, refl, ap, sym, subst, ◌∙◌}
use Prim.Native.Nat.{ℕ, ◌^◌, ◌<◌}
use native.Mathlib.Omega.{arith}
use native.Mathlib.Decide.{ℕ_discrete}
use mathlib.Core.List.{List, []}
use mathlib.Core.Bool.{Bool, true, false, not, ◌&&◌, ◌||◌}
use lib.Bits.{bit_and, and_comm}
use lib.Pow.{pow_pos}
use lib.Dec.{eqb}
use borrow.Author.Tests.{eqb-true, eq-eqb, ne_eqb}
use Rattle.arith.proofs.MaskLaws.{and_assoc, and_below, and_full}
use Rattle.base.specs.Choice.{when}
use Rattle.record.specs.Tree.{Tree}
use Rattle.record.specs.Tree.Tree.{Constant, Variable, Unary, Binary}
use Rattle.base.proofs.BoolLaws.{or_false}
use Rattle.expr_utils.specs.Utils.{has_kind, has_var_dep, is_arith, has_arith}
use Rattle.expr.specs.Value.{binary, value}
use Rattle.expr.proofs.IsExprLaws.{binary_of_expr}
use Rattle.expr.proofs.ValueLaws.{value_lt, value_closed}
use Rattle.semilinear.specs.Form.{Row}
use Rattle.views.specs.Grouping.{view_row}
use Rattle.decompose.specs.Decompose.{Decomposed, no_basis, masked, under_mask, decompose_and, decompose_atom}
use Rattle.semilinear.proofs.AtomLaws.{Atom, Sides, sides}

-- what a view says of the tree t
pub record View (w : ℕ) (t b : Tree) (m : ℕ) : Type 0 where
  pub basis : Atom b
  pub mask_lt : m < 2 ^ w
  pub value_is : (vars : List ℕ) → value w vars t ≡ bit_and (value w vars b) m

-- what is known of a view, if there is one
unfoldable pub Seen : ℕ → Tree → Decomposed → Type 0
Seen w t no_basis = Unit {0}
Seen w t (masked b m) = View w t b m

-- l under the mask m, where l itself is seen as d
seen_under : (w : ℕ) (t l : Tree) (m : ℕ) (d : Decomposed) → Atom l → m < 2 ^ w
    → ((vars : List ℕ) → value w vars t ≡ bit_and (value w vars l) m) → Seen w l d → Seen w t (under_mask m l d)
unfolding Seen under_mask
seen_under w t l m no_basis h lt e v = record { basis = h; mask_lt = lt; value_is = e }
seen_under w t l m (masked b n) h lt e v =
    record {
      basis = v.basis;
      mask_lt = and_below w m n v.mask_lt;
      value_is = λ vars.
          e vars
          ∙ ap (λ (x : ℕ). bit_and x m) (v.value_is vars)
          ∙ and_assoc (value w vars b) n m
          ∙ ap (bit_and (value w vars b)) (and_comm n m);
    }

seen_and : (w : ℕ) (l r : Tree) → Sides l r → (x y : Decomposed) → (Atom l → Seen w l x) → (Atom r → Seen w r y)
    → Seen w (Binary 4 l r) (decompose_and w l r x y)
unfolding Seen decompose_and value binary
seen_and w l r s x y seen-l seen_r = go (has_var_dep r) (has_var_dep l) refl refl
  where
    go : (a b : Bool) → has_var_dep r ≡ a → has_var_dep l ≡ b
        → Seen w (Binary 4 l r)
        (when (not a && not (not b)) (λ _. under_mask (value w [] r) l x)
        (λ _. when (not b && not (not a)) (λ _. under_mask (value w [] l) r y) (λ _. no_basis)))
    go false true hr hl =
        let h : Atom l = record { expr = s.expr_l; variable = hl; plain = s.plain_l } in
        seen_under w (Binary 4 l r) l (value w [] r) x h (value_lt w [] r)
        (λ vars. ap (bit_and (value w vars l)) (value_closed w vars r hr)) (seen-l h)
    go true false hr hl =
        let h : Atom r = record { expr = s.expr_r; variable = hr; plain = s.plain_r } in
        seen_under w (Binary 4 l r) r (value w [] l) y h (value_lt w [] l)
        (λ vars. and_comm (value w vars l) (value w vars r) ∙ ap (bit_and (value w vars r)) (value_closed w vars l hl))
        (seen_r h)
    go true true hr hl = tt
    go false false hr hl = tt

seen_binary : (w k : ℕ) (l r : Tree) → Atom (Binary k l r) → (x y : Decomposed) → (Atom l → Seen w l x)
    → (Atom r → Seen w r y) → Seen w (Binary k l r) (when (eqb k 4) (λ _. decompose_and w l r x y) (λ _. no_basis))
unfolding Seen has_kind has_arith
seen_binary w k l r h x y seen-l seen_r = go (eqb k 4) refl
  where
    go : (b : Bool) → eqb k 4 ≡ b → Seen w (Binary k l r) (when b (λ _. decompose_and w l r x y) (λ _. no_basis))
    go false e = tt
    go true e =
        let four : k ≡ 4 = eqb-true k 4 e in
        let c = binary_of_expr k l r h.expr in
        let p = or_false (is_arith k) (has_arith l || has_arith r) h.plain in
        subst (λ (n : ℕ). Seen w (Binary n l r) (decompose_and w l r x y)) (sym four)
        (seen_and w l r
        (sides l r c.child_l c.child_r (simp (ne_eqb k 1 (omega arith)) at h.variable) p.1)
        x y seen-l seen_r)

pub seen : (w : ℕ) (t : Tree) → Atom t → Seen w t (decompose_atom w t)
unfolding Seen decompose_atom value
seen w (Constant v) h = tt
seen w (Variable i) h =
    record {
      basis = h;
      mask_lt = let p = pow_pos w in omega (arith, p);
      value_is = λ vars. sym (and_full w (value w vars (Variable i)) (value_lt w vars (Variable i)));
    }
seen w (Unary k a t) h = tt
seen w (Binary k l r) h = seen_binary w k l r h (decompose_atom w l) (decompose_atom w r) (seen w l) (seen w r)

-- ---- the view of a row

module _ (only : Tree → Bool) (w : ℕ) (x : Row) where
  pub view_none : x.coeff ≡ 0 → view_row only w x ≡ no_basis
  unfolding view_row
  view_none e = simp (eq-eqb x.coeff 0 e)

  module _ (ne : x.coeff ≡ 0 → ⊥) where
    pub view_no_basis : decompose_atom w x.tree ≡ no_basis → view_row only w x ≡ no_basis
    unfolding view_row
    view_no_basis e = simp (ne_eqb x.coeff 0 ne, e)

    pub view_only_lem : {b : Tree} {m : ℕ} → decompose_atom w x.tree ≡ masked b m
        → view_row only w x ≡ when (only b) (λ _. masked b m) (λ _. no_basis)
    unfolding view_row
    view_only_lem e = simp (ne_eqb x.coeff 0 ne, e)

  seen_only : {b : Tree} {m : ℕ} → View w x.tree b m → (p : Bool)
      → Seen w x.tree (when p (λ _. masked b m) (λ _. no_basis))
  unfolding Seen
  seen_only v true = v
  seen_only v false = tt

  pub seen_row : Atom x.tree → Seen w x.tree (view_row only w x)
  unfolding Seen
  seen_row h = go (ℕ_discrete x.coeff 0) (decompose_atom w x.tree) refl (seen w x.tree h)
    where
      go : Dec (x.coeff ≡ 0) → (d : Decomposed) → decompose_atom w x.tree ≡ d → Seen w x.tree d
          → Seen w x.tree (view_row only w x)
      go (yes e) d p v = subst (Seen w x.tree) (sym (view_none e)) tt
      go (no n) no_basis p v = subst (Seen w x.tree) (sym (view_no_basis n p)) tt
      go (no n) (masked b m) p v = subst (Seen w x.tree) (sym (view_only_lem n p)) (seen_only v (only b))
