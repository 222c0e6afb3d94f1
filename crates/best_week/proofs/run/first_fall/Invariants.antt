-- `first_fall` meets its contract: the loop keeps that the records from `i` on decide.
use mathlib.Core.Path.{◌≡◌}
use Prim.Native.Nat.{◌≤◌, max}
use Rattle.base.specs.Loop.{first_in}
use Rattle.best_week.specs.Run.{falls}
use Rattle.best_week.proofs.run.first_fall.Given as goal

abbrev pub invariant-loop-i : goal.invariant-loop-i
invariant-loop-i l = (first_in (falls l.run) 1 l.n ≡ first_in (falls l.run) l.i l.n) × (l.i ≤ max l.n 1)
