-- `value_from` meets its contract: the equation of the value at a root without, with one and with two children.
use Rattle.record.specs.Fields.{size}
use Rattle.expr.proofs.value.+value_from.Given as goal

abbrev pub decreases-value_from : goal.decreases-value_from
decreases-value_from l = size l.t.now
