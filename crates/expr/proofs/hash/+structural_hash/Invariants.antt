-- `structural_hash` meets its contract: the equation of the hash at a root without, with one and with two children.
use Rattle.record.specs.Fields.{size}
use Rattle.expr.proofs.hash.+structural_hash.Given as goal

abbrev pub decreases-structural_hash : goal.decreases-structural_hash
decreases-structural_hash l = size l.t.now
