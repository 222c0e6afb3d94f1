-- `last_child` meets its contract: a case for each arity.
use mathlib.Core.Path.{sym, ◌∙◌}
use Rattle.bitwise.proofs.BitwiseLaws.{last_one, last_two}
use Rattle.bitwise.proofs.last_child.Goals as goal

pub returns-then-root_arity-eq1 : goal.returns-then-root_arity-eq1
returns-then-root_arity-eq1 c =
    c.body.ensures ∙ sym (last_one _ (sym c.root_arity.ensures ∙ c.if-root_arity-eq1.true))

pub returns : goal.returns
returns c =
    c.right.ensures
    ∙ sym (last_two _ (λ e. c.if-root_arity-eq1.false (c.root_arity.ensures ∙ e)))
