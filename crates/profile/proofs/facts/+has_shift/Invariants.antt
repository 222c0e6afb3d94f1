-- `has_shift` meets its contract: a root without, with one and with two children; of these the left one may decide.
use Rattle.record.specs.Fields.{size}
use Rattle.profile.proofs.facts.+has_shift.Given as goal

abbrev pub decreases-has_shift : goal.decreases-has_shift
decreases-has_shift l = size l.t.now
