-- The descent with a rule for Not, as code takes it: with `nots` a Not over an Add, Mul or Neg is -e - 1, of which the
-- constant is added and e is gone down to. It is the descent of rules 1 on the tree rewritten (DescendLaws.antt), so
-- that the rewritten tree need not be made.
use Rattle.std.specs.Prelude.{ℕ, [], Bool, not, ◌&&◌, ◌||◌, eqb}
use Rattle.arith.specs.Width.{mod_mul, mod_neg}
use Rattle.base.specs.Choice.{when}
use Rattle.record.specs.Tree.{Tree}
use Rattle.record.specs.Tree.Tree.{Constant, Variable, Unary, Binary}
use Rattle.expr_utils.specs.Utils.{has_var_dep, has_arith}
use Rattle.expr.specs.Value.{value}
use Rattle.normalizer_laws.specs.Collect.{Collected, nonlinear, linear, join_collected, collect_atom, collect_constant}
use Rattle.normalizer_laws.specs.Collect.{collect_and, collect_masked}

unfoldable pub descend : Bool → ℕ → ℕ → Tree → Collected
descend nots w c (Constant v) = when (eqb c 0) (λ _. linear 0 []) (λ _. collect_constant w c (Constant v))
descend nots w c (Variable i) = when (eqb c 0) (λ _. linear 0 []) (λ _. collect_atom c (Variable i))
descend nots w c (Unary k a t) =
    when (eqb c 0) (λ _. linear 0 [])
    (λ _. when (not (has_var_dep t)) (λ _. collect_constant w c (Unary k a t))
    (λ _. when (eqb k 8) (λ _. descend nots w (mod_neg c w) t)
    (λ _. when (nots && (eqb k 7 && has_arith t))
    (λ _. join_collected w (linear (mod_neg c w) []) (descend nots w (mod_neg c w) t))
    (λ _. when (has_arith t) (λ _. nonlinear) (λ _. collect_atom c (Unary k a t))))))
descend nots w c (Binary k l r) =
    when (eqb c 0) (λ _. linear 0 [])
    (λ _. when (not (has_var_dep l || has_var_dep r)) (λ _. collect_constant w c (Binary k l r))
    (λ _. when (eqb k 2) (λ _. join_collected w (descend nots w c l) (descend nots w c r))
    (λ _. when (eqb k 3)
    (λ _. when (not (has_var_dep l)) (λ _. descend nots w (mod_mul c (value w [] l) w) r)
    (λ _. when (not (has_var_dep r)) (λ _. descend nots w (mod_mul c (value w [] r) w) l) (λ _. nonlinear)))
    (λ _. when (has_arith l || has_arith r) (λ _. nonlinear)
    (λ _. when (eqb k 4) (λ _. collect_and w c l r)
    (λ _. when (not (has_var_dep l)) (λ _. collect_masked w k c (descend nots w c r) r l)
    (λ _. when (not (has_var_dep r)) (λ _. collect_masked w k c (descend nots w c l) l r)
    (λ _. collect_atom c (Binary k l r)))))))))
