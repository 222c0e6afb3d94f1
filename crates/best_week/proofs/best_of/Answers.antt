-- `best_of` meets its contract: the loop keeps the streak that ends before record `i`, and the best week up to there.
use Prim.Native.Nat.{◌+◌, ◌-◌}
use mathlib.Core.Path.{refl, sym, subst, ◌∙◌}
use native.Mathlib.Omega.{arith}
use Rattle.best_week.specs.BestWeek.{week_days}
use Rattle.best_week.specs.Walk.{BestUpTo}
use Rattle.best_week.proofs.SignedLaws.{back, same_fits}
use Rattle.best_week.proofs.TotalLaws.{over_fits}
use Rattle.best_week.proofs.WalkLaws.{streak_new, streak_fits, week_here, no_week_here, here_total}
use Rattle.best_week.proofs.BestLaws.{best_start, best_kept, best_taken}
use Rattle.best_week.proofs.best_of.Goals as goal

pub loop-i-init : goal.loop-i-init
loop-i-init c =
    let s = c.args.run.now in
    let fits = over_fits s (λ j. (c.shared_slice_known-1.given j).fits) 0 in (
      streak_new s 0 _ (λ l. absurd (omega arith)) refl
          (back (same_fits (sym c.over_par-first.ensures) fits) ∙ c.over_par-first.ensures),
      best_start s 1 (omega arith),
    )

pub loop-i-preserved-then-days-lt-WEEK_DAYS : goal.loop-i-preserved-then-days-lt-WEEK_DAYS
loop-i-preserved-then-days-lt-WEEK_DAYS c =
    let s = c.args.run.now in
    let i = c.loop-i.i in
    let at = c.add_day-streak.ensures in (
      at,
      best_kept s i _ c.loop-i.invariant.1 (λ j e. no_week_here s (i + 1) _ at c.if-days-lt-WEEK_DAYS.true j e),
    )

pub loop-i-preserved : goal.loop-i-preserved
loop-i-preserved c =
    let s = c.args.run.now in
    let i = c.loop-i.i in
    let at = c.add_day-streak.ensures in
    let fits = streak_fits s (i + 1) _ at (λ j. (c.shared_slice_known-1.given j).fits) in (
      at,
      subst (BestUpTo s (i + 1)) (sym c.take_week-best.ensures)
          (best_taken s i (i + 1 - week_days) (omega (arith, at.inside, c.if-days-lt-WEEK_DAYS.false))
          (week_here s (i + 1) _ at c.if-days-lt-WEEK_DAYS.false
          (omega (arith, c.requires.1, c.loop-i-test.true)) (i + 1 - week_days)
          (omega (arith, at.inside, c.if-days-lt-WEEK_DAYS.false)))
          (back fits
          ∙ here_total s (i + 1) _ at c.if-days-lt-WEEK_DAYS.false (i + 1 - week_days)
          (omega (arith, at.inside, c.if-days-lt-WEEK_DAYS.false)))
          c.loop-i.best c.loop-i.invariant.1),
    )
