-- `over_par` meets its contract: both numbers fit, so that their difference does.
use mathlib.Core.Path.{ap, ◌∙◌}
use Prim.Native.Nat.{ℕ}
use lib.IntN.{pos, ◌-ℤ◌}
use Rattle.best_week.specs.Run.{moves}
use Rattle.best_week.specs.BestWeek.{over_par}
use Rattle.best_week.proofs.SignedLaws.{back, small_difference, small_fits}
use Rattle.best_week.proofs.run.over_par.Goals as goal

pub overflow_sub-result : goal.overflow_sub-result
overflow_sub-result c = small_fits c.moves-m.ensures.1 c.par-p.ensures.1

pub returns : goal.returns
unfolding over_par
returns c =
    back (overflow_sub-result c)
    ∙ small_difference c.moves-m.ensures.1 c.par-p.ensures.1
    ∙ ap (λ (m : ℕ). pos m -ℤ pos c.par-p.result) c.moves-m.ensures.0
    ∙ ap (λ (p : ℕ). pos (moves c.args.run.now c.args.i) -ℤ pos p) c.par-p.ensures.0
