-- `edges_of` meets its contract: the equation of the edges at a root without, with one and with two children.
use Rattle.record.specs.Fields.{size}
use Rattle.profile.proofs.facts.+edges_of.Given as goal

abbrev pub decreases-edges_of : goal.decreases-edges_of
decreases-edges_of l = size l.t.now
