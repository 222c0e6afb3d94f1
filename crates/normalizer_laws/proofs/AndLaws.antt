-- Laws of `collect_and` and `and_coeff` (specs/Collect.antt) by case, as the code goes through them.
use mathlib.Core.Path.{◌≡◌, refl, ap, ◌∙◌}
use Prim.Native.Nat.{ℕ, ◌^◌, ◌<◌}
use native.Mathlib.Nat.{mod-eq_of_lt}
use mathlib.Core.List.{[]}
use mathlib.Core.Bool.{true, false, and-false}
use lib.Dec.{eqb}
use borrow.Author.Tests.{eq-eqb, ne_eqb}
use Rattle.arith.specs.Width.{mod_mul, mod_neg}
use Rattle.record.specs.Tree.{Tree}
use Rattle.record.specs.Tree.Tree.{Constant, Binary}
use Rattle.expr_utils.specs.Utils.{has_kind, has_var_dep}
use Rattle.expr.specs.Value.{value}
use Rattle.normalizer_laws.specs.Collect.{linear, collect_atom, is_not, operand, collect_not, is_masked_not}
use Rattle.normalizer_laws.specs.Collect.{collect_and, and_coeff}

pub and_coeff_xor : (w k c : ℕ) → k ≡ 6 → and_coeff w k c ≡ mod_neg (mod_mul c 2 w) w
unfolding and_coeff
and_coeff_xor w k c e = simp (eq-eqb k 6 e)

pub and_coeff_or : (w k c : ℕ) → (k ≡ 6 → ⊥) → and_coeff w k c ≡ mod_neg c w
unfolding and_coeff
and_coeff_or w k c e = simp (ne_eqb k 6 e)

module _ (w c : ℕ) (l r : Tree) where
  -- under the coefficient 0 nothing is collected
  pub and_zero : c ≡ 0 → collect_and w c l r ≡ linear 0 []
  unfolding collect_and
  and_zero e = simp (eq-eqb c 0 e)

  module _ (some : eqb c 0 ≡ false) where
    -- a complement beside something without a variable
    pub and_not_left : is_not l ≡ true → has_var_dep l ≡ true → has_var_dep r ≡ false
        → collect_and w c l r ≡ collect_not w c (operand l) (value w [] r)
    unfolding collect_and is_masked_not
    and_not_left n v u = simp (some, n, v, u)

    pub and_not_right : is_not r ≡ true → has_var_dep l ≡ false → has_var_dep r ≡ true
        → collect_and w c l r ≡ collect_not w c (operand r) (value w [] l)
    unfolding collect_and is_masked_not
    and_not_right n v u = simp (some, n, v, u, and-false)

    -- no complement on the side that has a variable, or a variable on both sides
    pub and_plain_left : is_not l ≡ false → has_var_dep r ≡ false → collect_and w c l r ≡ collect_atom c (Binary 4 l r)
    unfolding collect_and is_masked_not
    and_plain_left n u = simp (some, n, u, and-false)

    pub and_plain_right : is_not r ≡ false → has_var_dep l ≡ false → collect_and w c l r ≡ collect_atom c (Binary 4 l r)
    unfolding collect_and is_masked_not
    and_plain_right n u = simp (some, n, u, and-false)

    pub and_both : has_var_dep l ≡ true → has_var_dep r ≡ true → collect_and w c l r ≡ collect_atom c (Binary 4 l r)
    unfolding collect_and is_masked_not
    and_both v u = simp (some, v, u, and-false)

literal_plain : (v : ℕ) → has_var_dep (Constant v) ≡ false
unfolding has_kind
literal_plain v = refl

literal_value : (w v : ℕ) → v < 2 ^ w → value w [] (Constant v) ≡ v
unfolding value
literal_value w v h = mod-eq_of_lt h

-- the same of the And with a literal of w bits that the descent makes
module _ (w c : ℕ) (t : Tree) (v : ℕ) (small : v < 2 ^ w) (some : eqb c 0 ≡ false) where
  pub literal_not : is_not t ≡ true → has_var_dep t ≡ true → collect_and w c t (Constant v) ≡ collect_not w c (operand t) v
  literal_not n h =
      and_not_left w c t (Constant v) some n h (literal_plain v)
      ∙ ap (collect_not w c (operand t)) (literal_value w v small)

  pub literal_atom : is_not t ≡ false → collect_and w c t (Constant v) ≡ collect_atom c (Binary 4 t (Constant v))
  literal_atom n = and_plain_left w c t (Constant v) some n (literal_plain v)
