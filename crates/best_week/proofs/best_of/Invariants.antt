-- `best_of` meets its contract: the loop keeps the streak that ends before record `i`, and the best week up to there.
use Rattle.best_week.specs.Walk.{StreakAt, BestUpTo}
use Rattle.best_week.proofs.best_of.Given as goal

abbrev pub invariant-loop-i : goal.invariant-loop-i
invariant-loop-i l = StreakAt l.run l.i l.streak × BestUpTo l.run l.i l.best
