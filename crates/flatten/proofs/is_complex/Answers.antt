-- `is_complex` meets its contract: not plain, a first variable without a second, and no Shr.
use mathlib.Core.Path.{ap, sym, ◌∙◌}
use mathlib.Core.Bool.{not}
use Rattle.expr_utils.specs.Utils.{traits_of}
use Rattle.expr_utils.specs.declared.Traits.{Traits}
use Rattle.flatten.proofs.ComplexLaws.{complex_plain, complex_counted}
use Rattle.flatten.proofs.ComplexLaws.{count_none, count_one, count_more}
use Rattle.flatten.proofs.is_complex.Goals as goal

pub returns-then-is_plain : goal.returns-then-is_plain
returns-then-is_plain c = complex_plain _ _ (sym c.is_plain.ensures ∙ c.if-is_plain.true)

pub returns-then-first-eq-NO_VAR : goal.returns-then-first-eq-NO_VAR
returns-then-first-eq-NO_VAR c =
    let first = c.next_var-first.ensures in
    complex_counted _ _ (sym c.is_plain.ensures ∙ c.if-is_plain.false)
    (count_none _ first.0 first.1 c.if-first-eq-NO_VAR.true)

pub returns-then-next_var-ne-NO_VAR : goal.returns-then-next_var-ne-NO_VAR
returns-then-next_var-ne-NO_VAR c =
    let first = c.next_var-first.ensures in
    let second = c.next_var.ensures in
    complex_counted _ _ (sym c.is_plain.ensures ∙ c.if-is_plain.false)
    (count_more _ first.0 first.1 c.if-first-eq-NO_VAR.false (rw second.0 at second.1)
    (λ e. c.if-next_var-ne-NO_VAR.true (second.0 ∙ e)))

pub returns : goal.returns
unfolding traits_of
returns c =
    let first = c.next_var-first.ensures in
    ap (λ (x : Traits). not x.shr) c.traits_of-found.ensures
    ∙ complex_counted _ _ (sym c.is_plain.ensures ∙ c.if-is_plain.false)
    (count_one _ first.0 first.1 c.if-first-eq-NO_VAR.false
    (sym c.next_var.ensures.0 ∙ c.if-next_var-ne-NO_VAR.false))
