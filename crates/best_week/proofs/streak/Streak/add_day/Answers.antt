-- `add_day` meets its contract: a new streak, a longer one, or one that has moved on by a day.
use mathlib.Core.Path.{refl, sym, ◌∙◌}
use Rattle.best_week.proofs.SignedLaws.{back, same_fits}
use Rattle.best_week.proofs.TotalLaws.{over_fits}
use Rattle.best_week.proofs.WalkLaws.{streak_new, streak_longer, streak_moved, sum_fits, sum_back}
use Rattle.best_week.proofs.WalkLaws.{difference_fits, difference_back}
use Rattle.best_week.proofs.streak.Streak.add_day.Goals as goal

pub returns-then-not-follows : goal.returns-then-not-follows
returns-then-not-follows c =
    let s = c.args.run.now in
    let i = c.args.i in
    let new = c.over_par-new.ensures in
    streak_new s i _ (λ _. sym c.follows.ensures ∙ c.if-not-follows.true) refl
    (back (same_fits (sym new) (over_fits s (λ j. (c.shared_slice_known-1.given j).fits) i)) ∙ new)

pub overflow_add-total : goal.overflow_add-total
overflow_add-total c =
    sum_fits c.args.run.now c.args.i c.args.self c.requires.0
    (λ j. (c.shared_slice_known-1.given j).fits) c.over_par-new.ensures

pub returns-then-days-lt-WEEK_DAYS : goal.returns-then-days-lt-WEEK_DAYS
returns-then-days-lt-WEEK_DAYS c =
    let s = c.args.run.now in
    let i = c.args.i in
    let x = c.args.self in
    streak_longer s i x c.requires.0 _ (sym c.follows.ensures ∙ c.if-not-follows.false)
    c.if-days-lt-WEEK_DAYS.true refl
    (sum_back s i x c.requires.0 (λ j. (c.shared_slice_known-1.given j).fits)
    c.over_par-new.ensures)

pub overflow_sub-result : goal.overflow_sub-result
overflow_sub-result c =
    difference_fits c.args.run.now c.args.i c.args.self c.requires.0
    (λ j. (c.shared_slice_known-1.given j).fits) c.over_par-new.ensures
    c.if-days-lt-WEEK_DAYS.false c.over_par-old.ensures

pub returns : goal.returns
returns c =
    let s = c.args.run.now in
    let i = c.args.i in
    let x = c.args.self in
    streak_moved s i x c.requires.0 _ (sym c.follows.ensures ∙ c.if-not-follows.false)
    c.if-days-lt-WEEK_DAYS.false refl
    (difference_back s i x c.requires.0 (λ j. (c.shared_slice_known-1.given j).fits)
    c.over_par-new.ensures c.if-days-lt-WEEK_DAYS.false c.over_par-old.ensures)
