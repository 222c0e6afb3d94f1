-- `is_lone` meets its contract: no row before it and none behind it has the basis.
use mathlib.Core.Path.{sym, ◌∙◌}
use native.Mathlib.Omega.{arith}
use Rattle.base.proofs.BoolLaws.{false_true}
use Rattle.views.proofs.HasBasisLaws.{readable_fewer}
use Rattle.lone.proofs.is_lone.Goals as goal

pub none_has-requires : goal.none_has-requires
none_has-requires c = readable_fewer c.requires.readable _ (omega (arith, c.requires.within))

pub first_is_lone-requires : goal.first_is_lone-requires
first_is_lone-requires c =
    record { lone = c.requires; none_before = λ j lt. c.none_has.ensures c.if-none_has.true j (omega arith) lt }

pub returns-else-none_has : goal.returns-else-none_has
returns-else-none_has c = λ e. false_true (sym c.if-none_has.false ∙ e)
