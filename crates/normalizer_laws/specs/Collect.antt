-- The descent of the normaliser (semilinear_normalizer.rs 285-432, `collect_terms`): a constant and weighted atoms in
-- the order in which the Rust makes them, or nonlinear. It does not depend on the atom table. The pointer-keyed cache
-- and the two evaluators of constants (122-171) have no definition of their own: a variable-free subtree that becomes a
-- constant or a factor has its value at w bits (differences 3 and 8).
use Rattle.std.specs.Prelude.{ℕ, List, [], ◌∷◌, ◌++◌, Bool, false, not, ◌&&◌, ◌||◌, eqb}
use Rattle.arith.specs.Width.{mod_add, mod_mul, mod_neg}
use Rattle.base.specs.Choice.{when}
use Rattle.record.specs.Tree.{Tree}
use Rattle.record.specs.Tree.Tree.{Constant, Variable, Unary, Binary}
use Rattle.expr_utils.specs.Utils.{has_var_dep, has_arith}
use Rattle.expr.specs.Value.{value}

-- a coefficient and an atom
pub record Emitted : Type 0 where
  pub coeff : ℕ
  pub tree : Tree

-- what a descent collects: a constant and weighted atoms, or nothing where it is not linear
pub data Collected : Type 0 where
  nonlinear : Collected
  linear : ℕ → List Emitted → Collected

-- one after the other
unfoldable pub join_collected : ℕ → Collected → Collected → Collected
join_collected w nonlinear y = nonlinear
join_collected w (linear c l) nonlinear = nonlinear
join_collected w (linear c l) (linear d m) = linear (mod_add c d w) (l ++ m)

-- an atom as it stands
unfoldable pub collect_atom : ℕ → Tree → Collected
collect_atom c t = linear 0 (record { coeff = c; tree = t } ∷ [])

-- a subtree without a variable
unfoldable pub collect_constant : ℕ → ℕ → Tree → Collected
collect_constant w c t = linear (mod_mul c (value w [] t) w) []

-- the root is a Not
unfoldable pub is_not : Tree → Bool
is_not (Constant v) = false
is_not (Variable i) = false
is_not (Unary k a t) = eqb k 7
is_not (Binary k l r) = false

-- the child of a root with one child
unfoldable pub operand : Tree → Tree
operand (Constant v) = Constant v
operand (Variable i) = Variable i
operand (Unary k a t) = t
operand (Binary k l r) = Binary k l r

-- ~x & k is k less x & k, which becomes an atom as it stands (329-352)
unfoldable pub collect_not : ℕ → ℕ → Tree → ℕ → Collected
collect_not w c x k =
    linear (mod_mul c k w) (record { coeff = mod_neg c w; tree = Binary 4 x (Constant k) } ∷ [])

-- the complement of something with a variable, beside something without
unfoldable pub is_masked_not : Tree → Tree → Bool
is_masked_not x y = is_not x && (has_var_dep x && not (has_var_dep y))

-- an And without Add, Mul and Neg that has a variable
unfoldable pub collect_and : ℕ → ℕ → Tree → Tree → Collected
collect_and w c l r =
    when (eqb c 0) (λ _. linear 0 [])
    (λ _. when (is_masked_not l r) (λ _. collect_not w c (operand l) (value w [] r))
    (λ _. when (is_masked_not r l) (λ _. collect_not w c (operand r) (value w [] l))
    (λ _. collect_atom c (Binary 4 l r))))

-- the coefficient of x & k beside x and k: -2c of an Xor, -c of an Or
unfoldable pub and_coeff : ℕ → ℕ → ℕ → ℕ
and_coeff w k c = when (eqb k 6) (λ _. mod_neg (mod_mul c 2 w) w) (λ _. mod_neg c w)

-- x ^ k and x | k as x, k and x & k; `x` is what was collected of x, m the literal's side (299-327)
unfoldable pub collect_masked : ℕ → ℕ → ℕ → Collected → Tree → Tree → Collected
collect_masked w k c x t m =
    join_collected w (join_collected w x (collect_constant w c m))
    (collect_and w (and_coeff w k c) t (Constant (value w [] m)))

-- a coefficient that is 0 modulo 2 ^ w ends the descent before any test
unfoldable pub collect_terms : ℕ → ℕ → Tree → Collected
collect_terms w c (Constant v) = when (eqb c 0) (λ _. linear 0 []) (λ _. collect_constant w c (Constant v))
collect_terms w c (Variable i) = when (eqb c 0) (λ _. linear 0 []) (λ _. collect_atom c (Variable i))
collect_terms w c (Unary k a t) =
    when (eqb c 0) (λ _. linear 0 [])
    (λ _. when (not (has_var_dep t)) (λ _. collect_constant w c (Unary k a t))
    (λ _. when (eqb k 8) (λ _. collect_terms w (mod_neg c w) t)
    (λ _. when (has_arith t) (λ _. nonlinear) (λ _. collect_atom c (Unary k a t)))))
collect_terms w c (Binary k l r) =
    when (eqb c 0) (λ _. linear 0 [])
    (λ _. when (not (has_var_dep l || has_var_dep r)) (λ _. collect_constant w c (Binary k l r))
    (λ _. when (eqb k 2) (λ _. join_collected w (collect_terms w c l) (collect_terms w c r))
    (λ _. when (eqb k 3)
    (λ _. when (not (has_var_dep l)) (λ _. collect_terms w (mod_mul c (value w [] l) w) r)
    (λ _. when (not (has_var_dep r)) (λ _. collect_terms w (mod_mul c (value w [] r) w) l) (λ _. nonlinear)))
    (λ _. when (has_arith l || has_arith r) (λ _. nonlinear)
    (λ _. when (eqb k 4) (λ _. collect_and w c l r)
    (λ _. when (not (has_var_dep l)) (λ _. collect_masked w k c (collect_terms w c r) r l)
    (λ _. when (not (has_var_dep r)) (λ _. collect_masked w k c (collect_terms w c l) l r)
    (λ _. collect_atom c (Binary k l r)))))))))
