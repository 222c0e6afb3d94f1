-- `first_filled` meets its contract: the loop keeps that the records from `i` on decide.
use mathlib.Core.Path.{◌≡◌}
use Rattle.base.specs.Loop.{first_in}
use Rattle.best_week.specs.Run.{filled}
use Rattle.best_week.proofs.run.first_filled.Given as goal

abbrev pub invariant-loop-i : goal.invariant-loop-i
invariant-loop-i l = first_in (filled l.run) 0 l.n ≡ first_in (filled l.run) l.i l.n
