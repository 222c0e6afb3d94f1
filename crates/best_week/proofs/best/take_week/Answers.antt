-- `take_week` meets its contract: there is none before, the new one is lower, or it is not.
use mathlib.Core.Path.{ap, ◌∙◌}
use native.Mathlib.Omega.{arith}
use Rattle.best_week.proofs.SignedLaws.{back, back_lower}
use Rattle.best_week.proofs.BestLaws.{new, take_first, take_lower, take_none}
use Rattle.best_week.proofs.best.take_week.Goals as goal

pub returns-in_default : goal.returns-in_default
returns-in_default c = rw c.in_default.is (ap (new c.args.at) (back c.ranges.total) ∙ take_first c.args.at c.args.total)

pub returns-then-total-before : goal.returns-then-total-before
returns-then-total-before c =
    let a = c.args.at in
    rw c.in-Some.is
    (ap (new a) (back c.ranges.total)
    ∙ take_lower a c.args.total c.in-Some.before
    (back_lower c.ranges.total (record { sfits = omega arith }) c.if-total-before.true))

pub returns : goal.returns
returns c =
    rw c.in-Some.is
    (take_none c.args.at c.args.total c.in-Some.before
    (back_lower c.ranges.total (record { sfits = omega arith }) c.if-total-before.false))
