-- Of an expression without a non-zero shift over a variable normalising makes atoms without one: the descent takes
-- subtrees and puts literals beside them, and the table holds what the descent gives.
use mathlib.Core.Path.{◌≡◌, refl, subst}
use Prim.Native.Nat.{ℕ, zero, suc}
use mathlib.Core.List.{List, [], ◌∷◌, ◌++◌}
use mathlib.Core.Bool.{true, false, not, ◌&&◌, ◌||◌}
use lib.Dec.{eqb}
use Rattle.arith.specs.Width.{mod_mul, mod_neg}
use Rattle.base.proofs.BoolLaws.{false_true, and_true, or_false}
use Rattle.base.proofs.LoopLaws.{when_both}
use Rattle.record.specs.Tree.{Tree}
use Rattle.record.specs.Tree.Tree.{Constant, Variable, Unary, Binary}
use Rattle.expr_utils.specs.Utils.{has_var_dep, has_arith}
use Rattle.expr.specs.Value.{value}
use Rattle.truth.specs.Truth.{shifts_var}
use Rattle.semilinear.specs.Form.{Row, new_row}
use Rattle.normalizer_laws.specs.Collect.{Emitted, Collected, nonlinear, linear, join_collected, collect_atom}
use Rattle.normalizer_laws.specs.Collect.{collect_constant, is_not, operand, collect_not, is_masked_not, collect_and}
use Rattle.normalizer_laws.specs.Collect.{and_coeff, collect_masked, collect_terms}
use Rattle.normalizer_laws.specs.Register.{shared_row, add_row, register_atom, register_all}
use Rattle.normalizer_laws.specs.Normalize.{collected_form}
use Rattle.judge_laws.specs.PlaceSum.{RowsUnshifted}

-- ---- what is emitted

unfoldable AllUnshifted : List Emitted → Type 0
AllUnshifted [] = Unit {0}
AllUnshifted (e ∷ l) = (shifts_var e.tree ≡ false) × AllUnshifted l

unfoldable Unshifted : Collected → Type 0
Unshifted nonlinear = Unit {0}
Unshifted (linear d l) = AllUnshifted l

all_append : (l m : List Emitted) → AllUnshifted l → AllUnshifted m → AllUnshifted (l ++ m)
unfolding AllUnshifted
all_append [] m h k = k
all_append (e ∷ l) m h k = (h.0, all_append l m h.1 k)

un_nonlinear : Unshifted nonlinear
unfolding Unshifted
un_nonlinear = tt

un_none : Unshifted (linear 0 [])
unfolding Unshifted AllUnshifted
un_none = tt

un_join : (w : ℕ) (x y : Collected) → Unshifted x → Unshifted y → Unshifted (join_collected w x y)
unfolding Unshifted join_collected
un_join w nonlinear y h k = tt
un_join w (linear c l) nonlinear h k = tt
un_join w (linear c l) (linear d m) h k = all_append l m h k

un_atom : (c : ℕ) (t : Tree) → shifts_var t ≡ false → Unshifted (collect_atom c t)
unfolding Unshifted AllUnshifted collect_atom
un_atom c t h = (h, tt)

un_constant : (w c : ℕ) (t : Tree) → Unshifted (collect_constant w c t)
unfolding Unshifted AllUnshifted collect_constant
un_constant w c t = tt

shifts_two : (k : ℕ) (l r : Tree) → shifts_var l ≡ false → shifts_var r ≡ false → shifts_var (Binary k l r) ≡ false
unfolding shifts_var
shifts_two k l r h g = simp (h, g)

shifts_literal : (k : ℕ) → shifts_var (Constant k) ≡ false
unfolding shifts_var
shifts_literal k = refl

shifts_operand : (x : Tree) → shifts_var x ≡ false → is_not x ≡ true → shifts_var (operand x) ≡ false
unfolding shifts_var is_not operand
shifts_operand (Constant v) h n = false_true n
shifts_operand (Variable i) h n = false_true n
shifts_operand (Unary k a t) h n = (or_false (eqb k 9 && (not (eqb a 0) && has_var_dep t)) (shifts_var t) h).1
shifts_operand (Binary k l r) h n = false_true n

un_not : (w c : ℕ) (x : Tree) (k : ℕ) → shifts_var x ≡ false → Unshifted (collect_not w c x k)
unfolding Unshifted AllUnshifted collect_not
un_not w c x k h = (shifts_two 4 x (Constant k) h (shifts_literal k), tt)

un_masked_not : (w c : ℕ) (x y : Tree) → is_masked_not x y ≡ true → shifts_var x ≡ false
    → Unshifted (collect_not w c (operand x) (value w [] y))
unfolding is_masked_not
un_masked_not w c x y e h =
    un_not w c (operand x) (value w [] y)
    (shifts_operand x h (and_true (is_not x) (has_var_dep x && not (has_var_dep y)) e).0)

un_and : (w c : ℕ) (l r : Tree) → shifts_var l ≡ false → shifts_var r ≡ false → Unshifted (collect_and w c l r)
unfolding collect_and
un_and w c l r h g =
    when_both Unshifted (eqb c 0) _ _ (λ e. un_none)
    (λ e. when_both Unshifted (is_masked_not l r) _ _ (λ f. un_masked_not w c l r f h)
    (λ f. when_both Unshifted (is_masked_not r l) _ _ (λ i. un_masked_not w c r l i g)
    (λ i. un_atom c (Binary 4 l r) (shifts_two 4 l r h g))))

un_masked : (w k c : ℕ) (x : Collected) (t m : Tree) → Unshifted x → shifts_var t ≡ false
    → Unshifted (collect_masked w k c x t m)
unfolding collect_masked
un_masked w k c x t m h g =
    un_join w _ _ (un_join w _ _ h (un_constant w c m))
    (un_and w (and_coeff w k c) t (Constant (value w [] m)) g (shifts_literal (value w [] m)))

shifts_one : (k a : ℕ) (t : Tree) → shifts_var (Unary k a t) ≡ false → shifts_var t ≡ false
unfolding shifts_var
shifts_one k a t s = (or_false (eqb k 9 && (not (eqb a 0) && has_var_dep t)) (shifts_var t) s).1

shifts_sides : (k : ℕ) (l r : Tree) → shifts_var (Binary k l r) ≡ false → (shifts_var l ≡ false) × (shifts_var r ≡ false)
unfolding shifts_var
shifts_sides k l r s = or_false (shifts_var l) (shifts_var r) s

-- the descent
collect_unshifted : (w c : ℕ) (t : Tree) → shifts_var t ≡ false → Unshifted (collect_terms w c t)
unfolding collect_terms
collect_unshifted w c (Constant v) s =
    when_both Unshifted (eqb c 0) _ _ (λ e. un_none) (λ e. un_constant w c (Constant v))
collect_unshifted w c (Variable i) s =
    when_both Unshifted (eqb c 0) _ _ (λ e. un_none) (λ e. un_atom c (Variable i) s)
collect_unshifted w c (Unary k a t) s =
    when_both Unshifted (eqb c 0) _ _ (λ e. un_none)
    (λ e. when_both Unshifted (not (has_var_dep t)) _ _ (λ h. un_constant w c (Unary k a t))
    (λ h. when_both Unshifted (eqb k 8) _ _ (λ n. collect_unshifted w (mod_neg c w) t (shifts_one k a t s))
    (λ n. when_both Unshifted (has_arith t) _ _ (λ p. un_nonlinear) (λ p. un_atom c (Unary k a t) s))))
collect_unshifted w c (Binary k l r) s =
    let q = shifts_sides k l r s in
    when_both Unshifted (eqb c 0) _ _ (λ e. un_none)
    (λ e. when_both Unshifted (not (has_var_dep l || has_var_dep r)) _ _ (λ h. un_constant w c (Binary k l r))
    (λ h. when_both Unshifted (eqb k 2) _ _
    (λ n. un_join w _ _ (collect_unshifted w c l q.0) (collect_unshifted w c r q.1))
    (λ n. when_both Unshifted (eqb k 3) _ _
    (λ m. when_both Unshifted (not (has_var_dep l)) _ _
    (λ f. collect_unshifted w (mod_mul c (value w [] l) w) r q.1)
    (λ f. when_both Unshifted (not (has_var_dep r)) _ _
    (λ g. collect_unshifted w (mod_mul c (value w [] r) w) l q.0) (λ g. un_nonlinear)))
    (λ m. when_both Unshifted (has_arith l || has_arith r) _ _ (λ p. un_nonlinear)
    (λ p. when_both Unshifted (eqb k 4) _ _ (λ f. un_and w c l r q.0 q.1)
    (λ f. when_both Unshifted (not (has_var_dep l)) _ _
    (λ g. un_masked w k c _ r l (collect_unshifted w c r q.1) q.1)
    (λ g. when_both Unshifted (not (has_var_dep r)) _ _
    (λ i. un_masked w k c _ l r (collect_unshifted w c l q.0) q.0)
    (λ i. un_atom c (Binary k l r) s))))))))

-- ---- the table

add_row_unshifted : (w : ℕ) (new : Row) (j : ℕ) (l : List Row) → shifts_var new.tree ≡ false → RowsUnshifted l
    → RowsUnshifted (add_row w new j l)
unfolding RowsUnshifted add_row
add_row_unshifted w new j [] h k = (h, tt)
add_row_unshifted w new zero (x ∷ l) h k = (k.0, k.1)
add_row_unshifted w new (suc j) (x ∷ l) h k = (k.0, add_row_unshifted w new j l h k.1)

register_unshifted : (w : ℕ) (m : List Emitted) (l : List Row) → AllUnshifted m → RowsUnshifted l
    → RowsUnshifted (register_all w m l)
unfolding AllUnshifted register_all register_atom
register_unshifted w [] l h k = k
register_unshifted w (e ∷ m) l h k =
    register_unshifted w m (register_atom w e l) h.1
    (add_row_unshifted w (new_row e.tree e.coeff) (shared_row w e.tree l) l h.0 k)

-- the rows of the form of an expression without a non-zero shift over a variable
pub collected_unshifted : (w : ℕ) (t : Tree) (c : ℕ) (l : List Emitted) → shifts_var t ≡ false
    → collect_terms w 1 t ≡ linear c l → RowsUnshifted (collected_form w c l).rows
unfolding Unshifted RowsUnshifted collected_form
collected_unshifted w t c l s e =
    register_unshifted w l [] (subst Unshifted e (collect_unshifted w 1 t s)) tt
