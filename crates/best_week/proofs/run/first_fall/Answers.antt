-- `first_fall` meets its contract: the loop keeps that the records from `i` on decide.
use mathlib.Core.Path.{sym, ◌∙◌}
use native.Mathlib.Omega.{arith}
use Rattle.base.proofs.LoopLaws.{first_next, first_here, first_end}
use Rattle.best_week.specs.Run.{falls}
use Rattle.best_week.proofs.RefusalLaws.{falls_yes, falls_no}
use Rattle.best_week.proofs.run.first_fall.Goals as goal

pub returns-then-day : goal.returns-then-day
returns-then-day c =
    let s = c.args.run.now in
    sym
    (c.loop-i.invariant.0
    ∙ first_here (falls s) c.loop-i.i c.args.n c.loop-i-test.true
    (falls_yes s c.loop-i.i c.day.ensures.0 c.day-in-loop-i.ensures.0
    (omega (arith, c.if-day.true))))

pub loop-i-preserved : goal.loop-i-preserved
loop-i-preserved c =
    let s = c.args.run.now in (
      c.loop-i.invariant.0
          ∙ first_next (falls s) c.loop-i.i c.args.n c.loop-i-test.true
          (falls_no s c.loop-i.i c.day.ensures.0 c.day-in-loop-i.ensures.0
          (omega (arith, c.if-day.false))),
      omega arith,
    )

pub returns : goal.returns
returns c =
    omega (
      arith,
      c.max.ensures,
      c.loop-i.invariant.0,
      c.loop-i.invariant.1,
      c.loop-i.auto.i,
      first_end (falls c.args.run.now) c.loop-i.i c.args.n c.loop-i-test.false,
    )
