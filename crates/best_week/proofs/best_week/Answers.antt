-- `best_week` meets its contract: refused, too few records, no week, or the best one.
use mathlib.Core.Path.{sym, subst}
use native.Mathlib.Omega.{arith}
use Rattle.base.proofs.RefusalLaws.{passed_on}
use Rattle.best_week.specs.Walk.{BestUpTo}
use Rattle.best_week.proofs.SignedLaws.{back}
use Rattle.best_week.proofs.RefusalLaws.{records_are, accepted_rises}
use Rattle.best_week.proofs.BestLaws.{best_start}
use Rattle.best_week.proofs.EntryLaws.{gives_refused, gives_none, gives_week}
use Rattle.best_week.proofs.best_week.Goals as goal

pub returns-in_err-run_refusal : goal.returns-in_err-run_refusal
returns-in_err-run_refusal c =
    gives_refused c.args.run.now _ c.in_err-run_refusal.ensures (passed_on c.from_residual.ensures)

pub number_of-n-requires : goal.number_of-n-requires
number_of-n-requires c = (accepted_rises c.args.run.now (sym c.in_ok-run_refusal.ensures)).whole

-- fewer than seven records have no week
pub returns-then-n-lt-WEEK_DAYS : goal.returns-then-n-lt-WEEK_DAYS
returns-then-n-lt-WEEK_DAYS c =
    let s = c.args.run.now in
    gives_none s c.in_ok-run_refusal.ensures (records_are s c.number_of-n.ensures)
    (best_start s _ c.if-n-lt-WEEK_DAYS.true)

pub returns-in_default : goal.returns-in_default
returns-in_default c =
    let s = c.args.run.now in
    gives_none s c.in_ok-run_refusal.ensures (records_are s c.number_of-n.ensures)
    (subst (BestUpTo s c.number_of-n.result) c.in_default.is c.best_of.ensures)

pub day-day-requires : goal.day-day-requires
day-day-requires c =
    let s = c.args.run.now in
    let up = subst (BestUpTo s c.number_of-n.result) c.in-Some.is c.best_of.ensures in
    omega (arith, up.0.inside, c.number_of-n.ensures)

pub returns : goal.returns
returns c =
    let s = c.args.run.now in
    gives_week s c.in-Some.best c.in_ok-run_refusal.ensures (records_are s c.number_of-n.ensures)
    (subst (BestUpTo s c.number_of-n.result) c.in-Some.is c.best_of.ensures)
    (back (record { sfits = omega arith })) c.day-day.ensures.0
