-- `fold_literals` meets its contract: a literal, a leaf as it stands, or the root behind its folded children. What is
-- known of a root that is no literal, and of its children, is said once for the state after which it is known; for the
-- last child that is a state after the ways meet, the one by the left child and the one past it.
use Rattle.record.specs.Fields.{size}
use Rattle.literals.proofs.+fold_literals.Given as goal

abbrev pub decreases-fold_literals : goal.decreases-fold_literals
decreases-fold_literals l = size l.t.now
