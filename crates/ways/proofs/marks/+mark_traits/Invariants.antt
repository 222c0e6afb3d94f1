-- `mark_traits` meets its contract: the equation of the fold at a root without, with one and with two children.
use Rattle.record.specs.Fields.{size}
use Rattle.ways.proofs.marks.+mark_traits.Given as goal

abbrev pub decreases-mark_traits : goal.decreases-mark_traits
decreases-mark_traits l = size l.t.now
