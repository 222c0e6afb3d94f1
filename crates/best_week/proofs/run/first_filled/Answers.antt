-- `first_filled` meets its contract: the loop keeps that the records from `i` on decide.
use mathlib.Core.Path.{sym, ◌∙◌}
use native.Mathlib.Omega.{arith}
use Rattle.base.proofs.LoopLaws.{first_next, first_here, first_end}
use Rattle.best_week.specs.Run.{filled}
use Rattle.best_week.proofs.RefusalLaws.{filled_yes, filled_no}
use Rattle.best_week.proofs.run.first_filled.Goals as goal

pub returns-then-rest-ne0 : goal.returns-then-rest-ne0
returns-then-rest-ne0 c =
    let s = c.args.run.now in
    sym
    (c.loop-i.invariant
    ∙ first_here (filled s) c.loop-i.i c.args.n c.loop-i-test.true
    (filled_yes s c.loop-i.i c.rest.ensures c.if-rest-ne0.true))

pub loop-i-preserved : goal.loop-i-preserved
loop-i-preserved c =
    let s = c.args.run.now in
    c.loop-i.invariant
    ∙ first_next (filled s) c.loop-i.i c.args.n c.loop-i-test.true
    (filled_no s c.loop-i.i c.rest.ensures c.if-rest-ne0.false)

pub returns : goal.returns
returns c =
    omega (arith, c.loop-i.invariant, first_end (filled c.args.run.now) c.loop-i.i c.args.n c.loop-i-test.false)
