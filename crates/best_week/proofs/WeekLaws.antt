-- Seven records whose days are consecutive, by the record that follows the one before; and the order of totals.
use mathlib.Core.Path.{◌≡◌, refl, ap, sym, subst, ◌∙◌}
use Prim.Native.Nat.{ℕ, zero, suc, ◌+◌, ◌-◌, ◌≤◌, ◌<◌}
use native.Mathlib.Omega.{arith}
use mathlib.Core.Bool.{Bool, true, false, not, ◌&&◌}
use mathlib.Core.List.{List}
use native.Mathlib.Nat.{le_of_lt}
use lib.Dec.{T, leb, le→leb, ltb→lt}
use lib.IntN.{ℤ, pos, negsuc}
use lib.Signed.{lt_z, le_z, ◌<ℤ◌, ◌≤ℤ◌, le_z_yes, lt_z_yes, lt_z_no, clash_ℤ}
use borrow.Author.Tests.{leb-true, le-leb, eqb-true, eq-eqb, not-false}
use Rattle.base.proofs.BoolLaws.{and_true}
use Rattle.best_week.specs.Run.{records, day}
use Rattle.best_week.specs.BestWeek.{week_days, follows, is_week}
use Rattle.best_week.proofs.SearchLaws.{none_of, none_at, none_fails}

pub both_true : {a b : Bool} → a ≡ true → b ≡ true → a && b ≡ true
both_true {a} {b} p q = simp (p, q)

pub second_false : (a : Bool) {b : Bool} → b ≡ false → a && b ≡ false
second_false true q = q
second_false false q = refl

pub second_of : {a b : Bool} → a ≡ true → a && b ≡ false → b ≡ false
second_of {a} {b} p e = ap (λ (t : Bool). t && b) (sym p) ∙ e

-- ---- weeks

module _ (s : List ℕ) where
  pub week_of : (i : ℕ) → i + week_days ≤ records s → ((j : ℕ) → i < j → j < i + week_days → follows s j ≡ true)
      → is_week s i ≡ true
  unfolding is_week
  week_of i l h =
      both_true (le-leb (i + week_days) (records s) l)
      (none_of (λ j. not (follows s j)) (i + 1) (i + week_days) (λ j a b. ap not (h j (omega arith) b)))

  pub week_not : (i j : ℕ) → i < j → j < i + week_days → follows s j ≡ false → is_week s i ≡ false
  unfolding is_week
  week_not i j l u e =
      second_false (leb (i + week_days) (records s))
      (none_fails (λ j. not (follows s j)) (i + 1) (i + week_days) j (omega arith) u (ap not e))

  pub week_inside : (i : ℕ) → is_week s i ≡ true → i + week_days ≤ records s
  unfolding is_week
  week_inside i e = leb-true (i + week_days) (records s) (and_true _ _ e).0

  -- the same by the days themselves: each is the first one and so many more
  next_day : (j : ℕ) → follows s j ≡ true → day s j ≡ day s (j - 1) + 1
  unfolding follows
  next_day j e = eqb-true (day s j) (day s (j - 1) + 1) e

  follow_of : (j : ℕ) → day s j ≡ day s (j - 1) + 1 → follows s j ≡ true
  unfolding follows
  follow_of j e = eq-eqb (day s j) (day s (j - 1) + 1) e

  week_follows : (i j : ℕ) → is_week s i ≡ true → i < j → j < i + week_days → follows s j ≡ true
  unfolding is_week
  week_follows i j e l u =
      not-false (follows s j)
      (none_at (λ j. not (follows s j)) (i + 1) (i + week_days)
      (and_true (leb (i + week_days) (records s)) _ e).1 j (omega arith) u)

  pub week_days_lem : (i : ℕ) → is_week s i ≡ true → (j : ℕ) → j < week_days → day s (i + j) ≡ day s i + j
  week_days_lem i e zero l =
      let p : i + 0 ≡ i = omega arith in
      let q : day s i ≡ day s i + 0 = omega arith in
      ap (day s) p ∙ q
  week_days_lem i e (suc j) l =
      let p : i + suc j - 1 ≡ i + j = omega arith in
      let q : day s (i + suc j) ≡ day s (i + j) + 1 =
      next_day (i + suc j) (week_follows i (i + suc j) e (omega arith) (omega arith))
      ∙ ap (λ (k : ℕ). day s k + 1) p in
      omega (arith, week_days_lem i e j (omega arith))

  pub days_week : (i : ℕ) → i + week_days ≤ records s
      → ((j : ℕ) → j < week_days → day s (i + j) ≡ day s i + j) → is_week s i ≡ true
  days_week i l h = week_of i l (λ j a b. follow_of j (go j a b))
    where
      at : (j : ℕ) → i ≤ j → j < i + week_days → day s j ≡ day s i + (j - i)
      at j a b =
          let p : i + (j - i) ≡ j = omega arith in
          subst (λ (k : ℕ). day s k ≡ day s i + (j - i)) p (h (j - i) (omega arith))

      go : (j : ℕ) → i < j → j < i + week_days → day s j ≡ day s (j - 1) + 1
      go j a b = omega (arith, at j (omega arith) b, at (j - 1) (omega arith) (omega arith))

-- ---- the order of signed numbers, by its test

pub lower_true : {a b : ℤ} → lt_z a b ≡ true → a <ℤ b
lower_true e = lt_z_yes (subst T (sym e) tt)

pub lower_false : {a b : ℤ} → lt_z a b ≡ false → b ≤ℤ a
lower_false e = lt_z_no (subst (λ (t : Bool). T (not t)) (sym e) tt)

-- a test that cannot hold fails
not_held : (t : Bool) → (t ≡ true → ⊥) → t ≡ false
not_held true h = absurd (h refl)
not_held false h = refl

held : (t : Bool) → (t ≡ false → ⊥) → t ≡ true
held true h = refl
held false h = absurd (h refl)

pub lower_of : {a b : ℤ} → a <ℤ b → lt_z a b ≡ true
lower_of {a} {b} h = held (lt_z a b) (λ e. clash_ℤ h (lower_false e))

pub lower_not : {a b : ℤ} → b ≤ℤ a → lt_z a b ≡ false
lower_not {a} {b} h = not_held (lt_z a b) (λ e. clash_ℤ (lower_true e) h)

-- lower, so not above: by the signs
lt_le : (a b : ℤ) → T (lt_z a b) → T (le_z a b)
lt_le (pos a) (pos b) t = le→leb a b (le_of_lt (ltb→lt a b t))
lt_le (pos a) (negsuc b) t = t
lt_le (negsuc a) (pos b) t = tt
lt_le (negsuc a) (negsuc b) t = le→leb b a (le_of_lt (ltb→lt b a t))

pub weaken : {a b : ℤ} → a <ℤ b → a ≤ℤ b
weaken {a} {b} h = le_z_yes (lt_le a b h.lt)
