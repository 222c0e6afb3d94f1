-- `traits_of` meets its contract: the equation of the fold at a root without, with one and with two children.
use Rattle.record.specs.Fields.{size}
use Rattle.expr_utils.proofs.+traits_of.Given as goal

abbrev pub decreases-traits_of : goal.decreases-traits_of
decreases-traits_of l = size l.t.now
