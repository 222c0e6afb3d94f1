-- The walk over the records: what a record adds to the streak, and what the streak says of the week that ends with it.
use mathlib.Core.Path.{◌≡◌, refl, ap, sym, subst, ◌∙◌}
use Prim.Native.Nat.{ℕ, ◌+◌, ◌-◌, ◌≤◌, ◌<◌}
use native.Mathlib.Omega.{arith}
use native.Mathlib.Decide.{ℕ_discrete}
use mathlib.Core.Bool.{Bool, true, false}
use mathlib.Core.List.{List}
use lib.IntN.{ℤ, ◌+ℤ◌, ◌-ℤ◌}
use mir.Syntax.{w64}
use mir.Val.{SFits}
use Rattle.record.specs.Tree.{IsBytes}
use Rattle.best_week.specs.Run.{records}
use Rattle.best_week.specs.BestWeek.{week_days, follows, is_week, over_par, total_of, week_total}
use Rattle.best_week.specs.Walk.{StreakAt}
use Rattle.best_week.specs.declared.streak.Streak.{Streak}
use Rattle.best_week.proofs.SignedLaws.{bits, back, same_fits, back_sum, back_difference}
use Rattle.best_week.proofs.TotalLaws.{total_one, total_more, total_less, over_fits, total_fits}
use Rattle.best_week.proofs.WeekLaws.{week_of, week_not}

module _ (s : List ℕ) where
  total_at : {i j n m : ℕ} → i ≡ j → n ≡ m → total_of s i n ≡ total_of s j m
  total_at {i} {j} {n} {m} e f = ap (λ (k : ℕ). total_of s k n) e ∙ ap (total_of s j) f

  follows_at : {i j : ℕ} {t : Bool} → i ≡ j → follows s i ≡ t → follows s j ≡ t
  follows_at {t = t} e p = subst (λ (k : ℕ). follows s k ≡ t) e p

  -- a record that does not follow the one before, or has none before it, stands alone
  pub streak_new : (i : ℕ) (y : Streak) → (0 < i → follows s i ≡ false) → y.days ≡ 1 → y.total ≡ over_par s i
      → StreakAt s (i + 1) y
  streak_new i y e d t =
      let k : i ≡ i + 1 - y.days = omega (arith, d) in
      record {
        some = omega (arith, d);
        few = omega (arith, d);
        inside = omega (arith, d);
        linked = λ j a b. absurd (omega (arith, d));
        broken = λ a b. follows_at k (e (omega (arith, d)));
        sum = t ∙ sym (total_one s i) ∙ total_at k (sym d);
      }

  module _ (i : ℕ) (x : Streak) (at : StreakAt s i x) where
    -- with the new record
    longer : x.total +ℤ over_par s i ≡ total_of s (i - x.days) (x.days + 1)
    longer =
        ap (λ (z : ℤ). z +ℤ over_par s i) at.sum
        ∙ total_more s (i - x.days) x.days i (omega (arith, at.inside))

    -- and without the old one
    moved : week_days ≤ x.days → (x.total +ℤ over_par s i) -ℤ over_par s (i - week_days) ≡ week_total s (i + 1 - week_days)
    moved h =
        let d : x.days ≡ week_days = omega (arith, at.few) in
        let k : i - week_days + 1 ≡ i + 1 - week_days = omega (arith, at.inside) in
        ap (λ (z : ℤ). z -ℤ over_par s (i - week_days))
        (longer ∙ total_at (ap (λ (n : ℕ). i - n) d) (ap (λ (n : ℕ). n + 1) d))
        ∙ total_less s (i - week_days) week_days
        ∙ total_at k refl

    pub streak_fits : IsBytes s → SFits w64 x.total
    streak_fits bytes =
        same_fits (sym at.sum) (total_fits s bytes (i - x.days) x.days (omega (arith, at.few)))

    -- the numbers that code has: what is read back of bits
    module _ (bytes : IsBytes s) {new : ℤ} (en : new ≡ over_par s i) where
      sum_is : bits x.total +ℤ bits new ≡ x.total +ℤ over_par s i
      sum_is =
          back_sum (streak_fits bytes) (same_fits (sym en) (over_fits s bytes i))
          ∙ ap (λ (z : ℤ). x.total +ℤ z) en

      pub sum_fits : SFits w64 (bits x.total +ℤ bits new)
      sum_fits =
          same_fits (sym (sum_is ∙ longer))
          (total_fits s bytes (i - x.days) (x.days + 1) (omega (arith, at.few)))

      pub sum_back : bits (bits x.total +ℤ bits new) ≡ x.total +ℤ over_par s i
      sum_back = back sum_fits ∙ sum_is

      module _ (h : week_days ≤ x.days) {old : ℤ} (eo : old ≡ over_par s (i - week_days)) where
        difference_is : bits (bits x.total +ℤ bits new) -ℤ bits old
            ≡ (x.total +ℤ over_par s i) -ℤ over_par s (i - week_days)
        difference_is =
            back_difference sum_fits (same_fits (sym eo) (over_fits s bytes (i - week_days)))
            ∙ ap (λ (z : ℤ). z -ℤ old) sum_is
            ∙ ap (λ (z : ℤ). (x.total +ℤ over_par s i) -ℤ z) eo

        pub difference_fits : SFits w64 (bits (bits x.total +ℤ bits new) -ℤ bits old)
        difference_fits =
            same_fits (sym (difference_is ∙ moved h))
            (total_fits s bytes (i + 1 - week_days) week_days (omega arith))

        pub difference_back : bits (bits (bits x.total +ℤ bits new) -ℤ bits old)
            ≡ (x.total +ℤ over_par s i) -ℤ over_par s (i - week_days)
        difference_back = back difference_fits ∙ difference_is

    linked_more : follows s i ≡ true → (j : ℕ) → i < j + x.days → j < i + 1 → follows s j ≡ true
    linked_more e j a b = go (ℕ_discrete j i)
      where
        go : Dec (j ≡ i) → follows s j ≡ true
        go (yes q) = follows_at (sym q) e
        go (no q) = at.linked j a (omega arith)

    -- a record that follows the one before joins, and where there are seven the first of them leaves
    pub streak_longer : (y : Streak) → follows s i ≡ true → x.days < week_days → y.days ≡ x.days + 1
        → y.total ≡ x.total +ℤ over_par s i → StreakAt s (i + 1) y
    streak_longer y e l d t =
        let k : i - x.days ≡ i + 1 - y.days = omega (arith, d, at.inside) in
        record {
          some = omega (arith, d);
          few = omega (arith, d);
          inside = omega (arith, d, at.inside);
          linked = λ j a b. linked_more e j (omega (arith, d)) b;
          broken = λ a b. follows_at k (at.broken l (omega (arith, d)));
          sum = t ∙ longer ∙ total_at k (sym d);
        }

    pub streak_moved : (y : Streak) → follows s i ≡ true → week_days ≤ x.days → y.days ≡ x.days
        → y.total ≡ (x.total +ℤ over_par s i) -ℤ over_par s (i - week_days) → StreakAt s (i + 1) y
    streak_moved y e l d t =
        let f : y.days ≡ week_days = omega (arith, d, at.few) in
        record {
          some = omega (arith, f);
          few = omega (arith, f);
          inside = omega (arith, d, at.inside);
          linked = λ j a b. linked_more e j (omega (arith, d)) b;
          broken = λ a b. absurd (omega (arith, f));
          sum = t ∙ moved l ∙ total_at (ap (λ (k : ℕ). i + 1 - k) (sym f)) (sym f);
        }

    -- the seven records that end before record i
    pub week_here : week_days ≤ x.days → i ≤ records s → (a : ℕ) → a + week_days ≡ i → is_week s a ≡ true
    week_here h n a e = week_of s a (omega arith) (λ j l u. at.linked j (omega arith) (omega arith))

    pub no_week_here : x.days < week_days → (a : ℕ) → a + week_days ≡ i → is_week s a ≡ false
    no_week_here h a e =
        week_not s a (i - x.days) (omega arith) (omega (arith, at.some)) (at.broken h (omega arith))

    pub here_total : week_days ≤ x.days → (a : ℕ) → a + week_days ≡ i → x.total ≡ week_total s a
    here_total h a e =
        let d : x.days ≡ week_days = omega (arith, at.few) in
        let k : i - x.days ≡ a = omega arith in
        at.sum ∙ total_at k d
