-- The best week of the first records, with one record more; and what the definition of the best week says: where there
-- is a week it is the earliest of those with the lowest total.
use mathlib.Core.Path.{◌≡◌, refl, sym, subst, ◌∙◌}
use Prim.Native.Nat.{ℕ, zero, suc, ◌+◌, ◌-◌, ◌≤◌, ◌<◌}
use native.Mathlib.Omega.{arith}
use native.Mathlib.Decide.{ℕ_discrete, dec_lt}
use mathlib.Core.Bool.{Bool, true, false, ◌&&◌}
use mathlib.Core.List.{List}
use Rattle.std.specs.Prelude.{Option, Some, None}
use lib.Dec.{eqb}
use lib.IntN.{ℤ, pos}
use lib.Signed.{lt_z, ◌<ℤ◌, ◌≤ℤ◌, ≤ℤ_refl, <ℤ-≤ℤ_trans}
use borrow.Author.Tests.{ltb-true, ltb-false, lt-ltb, le-ltb, eq-eqb, ne_eqb}
use Rattle.base.specs.Choice.{when}
use Rattle.base.proofs.BoolLaws.{false_true, and_true}
use Rattle.base.proofs.SearchLaws.{first_is, first_past}
use Rattle.best_week.specs.Run.{records, day, none_in, run_refusal}
use Rattle.best_week.specs.BestWeek.{week_days, is_week, week_total, is_lower, is_lowest, best_at, has_week}
use Rattle.best_week.specs.BestWeek.{best_total, best_day}
use Rattle.best_week.specs.Told.{IsBest}
use Rattle.best_week.specs.Walk.{BestUpTo, take_week}
use Rattle.best_week.specs.declared.best.Best.{Best}
use Rattle.best_week.proofs.SearchLaws.{none_of, none_fails}
use Rattle.best_week.proofs.WeekLaws.{both_true, second_false, week_inside, lower_true, lower_false, lower_of}
use Rattle.best_week.proofs.WeekLaws.{lower_not, weaken, second_of}

-- ---- the week that is taken, by the ways of the code

module _ (a : ℕ) (t : ℤ) where
  abbrev pub new : Option Best
  new = Some (record { at = a; total = t })

  pub take_first : new ≡ take_week None a t
  unfolding take_week
  take_first = refl

  pub take_lower : (x : Best) → lt_z t x.total ≡ true → new ≡ take_week (Some x) a t
  unfolding take_week
  take_lower x f = simp f

  pub take_none : (x : Best) → lt_z t x.total ≡ false → Some x ≡ take_week (Some x) a t
  unfolding take_week
  take_none x f = simp f

module _ (s : List ℕ) where
  -- ---- the walk

  -- too few records for a week
  pub best_start : (i : ℕ) → i < week_days → BestUpTo s i None
  best_start i l j u = absurd (omega arith)

  module _ (i : ℕ) where
    -- no week ends with the record that is read
    pub best_kept : (x : Option Best) → BestUpTo s i x → ((j : ℕ) → j + week_days ≡ i + 1 → is_week s j ≡ false)
        → BestUpTo s (i + 1) x
    best_kept None up h = λ j l. none j l (ℕ_discrete (j + week_days) (i + 1))
      where
        none : (j : ℕ) → j + week_days ≤ i + 1 → Dec (j + week_days ≡ i + 1) → is_week s j ≡ false
        none j l (yes q) = h j q
        none j l (no q) = up j (omega arith)
    best_kept (Some x) up h =
        let b : IsBest s i x.at = up.0 in (
          record {
            week = b.week;
            inside = omega (arith, b.inside);
            lowest = λ j l w. lowest b.lowest j l w (ℕ_discrete (j + week_days) (i + 1));
            earliest = b.earliest;
          },
          up.1,
        )
      where
        lowest : ((j : ℕ) → j + week_days ≤ i → is_week s j ≡ true → week_total s x.at ≤ℤ week_total s j)
            → (j : ℕ) → j + week_days ≤ i + 1 → is_week s j ≡ true → Dec (j + week_days ≡ i + 1)
            → week_total s x.at ≤ℤ week_total s j
        lowest f j l w (yes q) = false_true (sym (h j q) ∙ w)
        lowest f j l w (no q) = f j (omega arith) w

    -- a week ends with it
    module _ (a : ℕ) (end : a + week_days ≡ i + 1) (w : is_week s a ≡ true) {t : ℤ} (e : t ≡ week_total s a) where
      -- lower than all before it: the best
      taken : ((j : ℕ) → j + week_days ≤ i → is_week s j ≡ true → week_total s a <ℤ week_total s j) → IsBest s (i + 1) a
      taken h =
          record {
            week = w;
            inside = omega arith;
            lowest = λ j l v. lowest j l v (ℕ_discrete j a);
            earliest = λ j l v. h j (omega arith) v;
          }
        where
          lowest : (j : ℕ) → j + week_days ≤ i + 1 → is_week s j ≡ true → Dec (j ≡ a) → week_total s a ≤ℤ week_total s j
          lowest j l v (yes q) = subst (λ (k : ℕ). week_total s a ≤ℤ week_total s k) (sym q) (≤ℤ_refl (week_total s a))
          lowest j l v (no q) = weaken (h j (omega arith) v)

      -- not lower than the best before: that one stays
      stayed : (x : Best) → IsBest s i x.at → week_total s x.at ≤ℤ week_total s a → IsBest s (i + 1) x.at
      stayed x b h =
          record {
            week = b.week;
            inside = omega (arith, b.inside);
            lowest = λ j l v. lowest j l v (ℕ_discrete j a);
            earliest = b.earliest;
          }
        where
          lowest : (j : ℕ) → j + week_days ≤ i + 1 → is_week s j ≡ true → Dec (j ≡ a)
              → week_total s x.at ≤ℤ week_total s j
          lowest j l v (yes q) = subst (λ (k : ℕ). week_total s x.at ≤ℤ week_total s k) (sym q) h
          lowest j l v (no q) = b.lowest j (omega arith) v

      pub best_taken : (x : Option Best) → BestUpTo s i x → BestUpTo s (i + 1) (take_week x a t)
      unfolding take_week
      best_taken None up = (taken (λ j l v. false_true (sym (up j l) ∙ v)), e)
      best_taken (Some x) up = go (lt_z t x.total) refl
        where
          go : (b : Bool) → lt_z t x.total ≡ b
              → BestUpTo s (i + 1) (when b (λ _. Some (record { at = a; total = t })) (λ _. Some x))
          go true q =
              let h : t <ℤ x.total = lower_true q in
              let k : week_total s a <ℤ week_total s x.at =
              subst (λ (z : ℤ). z <ℤ week_total s x.at) e (subst (λ (z : ℤ). t <ℤ z) up.1 h) in
              (taken (λ j l v. <ℤ-≤ℤ_trans k (up.0.lowest j l v)), e)
          go false q =
              let h : x.total ≤ℤ t = lower_false q in
              let k : week_total s x.at ≤ℤ week_total s a =
              subst (λ (z : ℤ). z ≤ℤ week_total s a) up.1 (subst (λ (z : ℤ). x.total ≤ℤ z) e h) in
              (stayed x up.0 k, up.1)

  -- the records are all read
  pub best_all : {i n : ℕ} (x : Option Best) → BestUpTo s i x → i ≤ n → n ≤ i → BestUpTo s n x
  best_all {i} {n} x u a b = let e : i ≡ n = omega arith in subst (λ (k : ℕ). BestUpTo s k x) e u

  -- ---- the definition

  -- from a on is the best week of the run
  module _ (a : ℕ) (b : IsBest s (records s) a) where
    lowest_here : is_lowest s a ≡ true
    unfolding is_lowest is_lower
    lowest_here = both_true b.week (none_of (is_lower s a) 0 (records s) (λ j l u. go j (is_week s j) refl))
      where
        go : (j : ℕ) (w : Bool) → is_week s j ≡ w → is_week s j && lt_z (week_total s j) (week_total s a) ≡ false
        go j true e = second_false (is_week s j) (lower_not (b.lowest j (week_inside s j e) e))
        go j false e = simp e

    lowest_before : (j : ℕ) → j < a → is_lowest s j ≡ false
    unfolding is_lowest is_lower
    lowest_before j l = go (is_week s j) refl
      where
        go : (w : Bool) → is_week s j ≡ w → is_week s j && none_in (is_lower s j) 0 (records s) ≡ false
        go true e =
            second_false (is_week s j)
            (none_fails (is_lower s j) 0 (records s) a (omega arith) (omega (arith, b.inside))
            (both_true b.week (lower_of (b.earliest j l e))))
        go false e = simp e

    pub best_at_lem : best_at s ≡ a
    unfolding best_at
    best_at_lem =
        first_is (is_lowest s) 0 (records s) a (omega arith) (omega (arith, b.inside)) lowest_here
        (λ j _ l. lowest_before j l)

  -- no week, no best one
  pub best_at_none : ((j : ℕ) → j + week_days ≤ records s → is_week s j ≡ false) → records s ≤ best_at s
  unfolding best_at is_lowest
  best_at_none h = first_past (is_lowest s) 0 (records s) (λ j l u. go j (is_week s j) refl)
    where
      go : (j : ℕ) (w : Bool) → is_week s j ≡ w → is_week s j && none_in (is_lower s j) 0 (records s) ≡ false
      go j true e = false_true (sym (h j (week_inside s j e)) ∙ e)
      go j false e = simp e

  -- the first i records have a best week, or none
  pub any_best : (i : ℕ) → (x : Option Best) × BestUpTo s i x
  any_best zero = (None, best_start 0 (omega arith))
  any_best (suc i) = go (any_best i) (dec_lt (i + 1) week_days) (is_week s (i + 1 - week_days)) refl
    where
      same : i + 1 ≡ suc i
      same = omega arith

      more : (x : Option Best) → BestUpTo s (i + 1) x → (x : Option Best) × BestUpTo s (suc i) x
      more x u = (x, subst (λ (k : ℕ). BestUpTo s k x) same u)

      go : ((x : Option Best) × BestUpTo s i x) → Dec (i + 1 < week_days) → (w : Bool)
          → is_week s (i + 1 - week_days) ≡ w → (x : Option Best) × BestUpTo s (suc i) x
      go (x, u) (yes l) w e = more x (best_kept i x u (λ j q. absurd (omega arith)))
      go (x, u) (no l) true e =
          more (take_week x (i + 1 - week_days) (week_total s (i + 1 - week_days)))
          (best_taken i (i + 1 - week_days) (omega arith) e refl x u)
      go (x, u) (no l) false e =
          more x
          (best_kept i x u
          (λ j q. let k : i + 1 - week_days ≡ j = omega arith in subst (λ (m : ℕ). is_week s m ≡ false) k e))

  -- where the run has a week, the definition gives the best one; where it gives none, there is none
  pub best_is : best_at s < records s → IsBest s (records s) (best_at s)
  best_is l = go (any_best (records s))
    where
      go : ((x : Option Best) × BestUpTo s (records s) x) → IsBest s (records s) (best_at s)
      go (Some x, u) = subst (IsBest s (records s)) (sym (best_at_lem x.at u.0)) u.0
      go (None, u) = absurd (omega (arith, best_at_none u))

  pub best_none : records s ≤ best_at s → (j : ℕ) → is_week s j ≡ false
  best_none l j = go (any_best (records s))
    where
      week : (w : Bool) → is_week s j ≡ w → BestUpTo s (records s) None → is_week s j ≡ false
      week true e u = u j (week_inside s j e)
      week false e u = e

      go : ((x : Option Best) × BestUpTo s (records s) x) → is_week s j ≡ false
      go (Some x, u) = absurd (omega (arith, best_at_lem x.at u.0, u.0.inside))
      go (None, u) = week (is_week s j) refl u

  -- ---- the numbers that are returned

  pub week_found : run_refusal s ≡ 0 → best_at s < records s → has_week s ≡ true
  unfolding has_week
  week_found e l = both_true (eq-eqb (run_refusal s) 0 e) (lt-ltb (best_at s) (records s) l)

  pub week_missing : records s ≤ best_at s → has_week s ≡ false
  unfolding has_week
  week_missing l = second_false (eqb (run_refusal s) 0) (le-ltb (best_at s) (records s) l)

  pub week_refused : (run_refusal s ≡ 0 → ⊥) → has_week s ≡ false
  unfolding has_week
  week_refused h = let e : eqb (run_refusal s) 0 ≡ false = ne_eqb (run_refusal s) 0 h in simp e

  pub best_inside : has_week s ≡ true → best_at s < records s
  unfolding has_week
  best_inside e = ltb-true (best_at s) (records s) (and_true (eqb (run_refusal s) 0) _ e).1

  pub no_best : run_refusal s ≡ 0 → has_week s ≡ false → records s ≤ best_at s
  unfolding has_week
  no_best z e =
      let a : eqb (run_refusal s) 0 ≡ true = eq-eqb (run_refusal s) 0 z in
      ltb-false (best_at s) (records s) (second_of a e)

  pub total_found : has_week s ≡ true → best_total s ≡ week_total s (best_at s)
  unfolding best_total
  total_found e = simp e

  pub total_none : has_week s ≡ false → best_total s ≡ pos 0
  unfolding best_total
  total_none e = simp e

  pub day_found : has_week s ≡ true → best_day s ≡ day s (best_at s)
  unfolding best_day
  day_found e = simp e

  pub day_none : has_week s ≡ false → best_day s ≡ 0
  unfolding best_day
  day_none e = simp e
