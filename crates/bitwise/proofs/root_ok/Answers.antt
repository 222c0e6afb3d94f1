-- `root_ok` meets its contract.
use mathlib.Core.Path.{sym, ap, ◌∙◌}
use mathlib.Core.Bool.{not}
use Rattle.base.proofs.RefusalLaws.{ok_zero, not_ok}
use Rattle.expr_utils.specs.Utils.{is_arith}
use Rattle.bitwise.proofs.BitwiseLaws.{root_refused, root_passed}
use Rattle.bitwise.proofs.root_ok.Goals as goal

pub returns-then-is_ok : goal.returns-then-is_ok
returns-then-is_ok c =
    ap not (c.is_arith.ensures ∙ ap is_arith c.kind.ensures)
    ∙ root_passed _ _ (sym c.root_refusal.ensures ∙ ok_zero _ (sym c.is_ok.ensures.value ∙ c.if-is_ok.true))

pub returns-else-is_ok : goal.returns-else-is_ok
returns-else-is_ok c =
    c.if-is_ok.false
    ∙ root_refused _ _ (λ e. not_ok _ (sym c.is_ok.ensures.value ∙ c.if-is_ok.false) (c.root_refusal.ensures ∙ e))
