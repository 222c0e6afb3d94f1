-- `follows` meets its contract: it compares the days of two records.
use mathlib.Core.Path.{ap, ◌∙◌}
use Prim.Native.Nat.{ℕ, ◌+◌}
use lib.Dec.{eqb}
use Rattle.best_week.specs.Run.{day}
use Rattle.best_week.specs.BestWeek.{follows}
use Rattle.best_week.proofs.streak.follows.Goals as goal

pub returns : goal.returns
unfolding follows
returns c =
    ap (λ (d : ℕ). eqb d (c.day-2.result + 1)) c.day.ensures.0
    ∙ ap (λ (d : ℕ). eqb (day c.args.run.now c.args.i) (d + 1)) c.day-2.ensures.0
