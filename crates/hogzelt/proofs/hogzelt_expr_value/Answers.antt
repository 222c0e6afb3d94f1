-- The value and the refusal's number are handed over.
use mathlib.Core.Path.{◌∙◌}
use Rattle.hogzelt.proofs.hogzelt_expr_value.Goals as goal

pub returns : goal.returns
returns c =
    let said = c.report_value.ensures in
    record { number = said.number ∙ c.expr_value.ensures.number; result = said.beside ∙ c.expr_value.ensures.result }
