-- Totals of moves minus par: how one is kept when a record is added and one removed, that all fit in 64 bits, and that
-- they are the moves' total minus the pars' total.
use mathlib.Core.Path.{◌≡◌, refl, ap, sym, ◌∙◌}
use Prim.Native.Nat.{ℕ, zero, suc, ◌+◌, ◌*◌, ◌^◌, ◌≤◌, ◌<◌}
use native.Mathlib.Omega.{arith}
use mathlib.Core.List.{List}
use lib.IntN.{ℤ, pos, neg_ℤ, ◌+ℤ◌, ◌-ℤ◌}
use lib.IntN.{+ℤ_idl, +ℤ_idr, +ℤ_assoc, +ℤ_comm, +ℤ-neg_ℤ_cancel, neg_ℤ-+ℤ}
use lib.Signed.{mag}
use mir.Syntax.{w64}
use mir.Val.{SFits}
use Rattle.record.specs.Fields.{u16}
use Rattle.record.specs.Tree.{IsBytes}
use Rattle.best_week.specs.Run.{par, moves}
use Rattle.best_week.specs.BestWeek.{over_par, total_of}
use Rattle.best_week.proofs.SignedLaws.{mag_sum, mag_minus}

-- ---- a record more, a record less

module _ (s : List ℕ) where
  -- one record
  pub total_one : (i : ℕ) → total_of s i 1 ≡ over_par s i
  unfolding total_of
  total_one i =
      let e : i + 0 ≡ i = omega arith in
      +ℤ_idl (over_par s (i + 0)) ∙ ap (over_par s) e

  -- the new record is added at the end
  pub total_more : (i n k : ℕ) → i + n ≡ k → total_of s i n +ℤ over_par s k ≡ total_of s i (n + 1)
  unfolding total_of
  total_more i n k e = let m : n + 1 ≡ suc n = omega arith in rw m (ap (λ (j : ℕ). total_of s i n +ℤ over_par s j) (sym e))

  total_front : (n i : ℕ) → total_of s i (suc n) ≡ over_par s i +ℤ total_of s (i + 1) n
  unfolding total_of
  total_front zero i =
      let e : i + 0 ≡ i = omega arith in
      +ℤ_idl (over_par s (i + 0)) ∙ ap (over_par s) e ∙ sym (+ℤ_idr (over_par s i))
  total_front (suc n) i =
      let e : i + suc n ≡ i + 1 + n = omega arith in
      ap (λ (z : ℤ). z +ℤ over_par s (i + suc n)) (total_front n i)
      ∙ +ℤ_assoc (over_par s i) (total_of s (i + 1) n) (over_par s (i + suc n))
      ∙ ap (λ (j : ℕ). over_par s i +ℤ (total_of s (i + 1) n +ℤ over_par s j)) e

  -- the old record is removed at the front
  pub total_less : (i n : ℕ) → total_of s i (n + 1) -ℤ over_par s i ≡ total_of s (i + 1) n
  total_less i n =
      let m : n + 1 ≡ suc n = omega arith in
      ap (λ (k : ℕ). total_of s i k -ℤ over_par s i) m
      ∙ ap (λ (z : ℤ). z -ℤ over_par s i) (total_front n i ∙ +ℤ_comm (over_par s i) (total_of s (i + 1) n))
      ∙ +ℤ-neg_ℤ_cancel (total_of s (i + 1) n) (over_par s i)

-- ---- all fit

module _ (s : List ℕ) (bytes : IsBytes s) where
  u16_lt : (i : ℕ) → u16 s i < 2 ^ 16
  unfolding u16
  u16_lt i = omega (arith, bytes i, bytes (i + 1))

  mag_over : (i : ℕ) → mag (over_par s i) < 2 ^ 17
  unfolding over_par par moves
  mag_over i = omega (arith, mag_minus (moves s i) (par s i), u16_lt (16 * i + 6), u16_lt (16 * i + 4))

  mag_total : (i n : ℕ) → mag (total_of s i n) ≤ n * 2 ^ 17
  unfolding total_of
  mag_total i zero = omega arith
  mag_total i (suc n) = omega (arith, mag_sum (total_of s i n) (over_par s (i + n)), mag_total i n, mag_over (i + n))

  pub over_fits : (i : ℕ) → SFits w64 (over_par s i)
  over_fits i =
      let b : mag (over_par s i) < 2 ^ 63 = omega (arith, mag_over i) in
      record { sfits = b }

  pub total_fits : (i n : ℕ) → n ≤ 8 → SFits w64 (total_of s i n)
  total_fits i n h =
      let b : mag (total_of s i n) < 2 ^ 63 = omega (arith, mag_total i n) in
      record { sfits = b }

-- ---- the moves' total minus the pars' total

pub sum_of : (ℕ → ℕ) → ℕ → ℕ → ℕ
sum_of f i zero = 0
sum_of f i (suc n) = sum_of f i n + f (i + n)

differences : (a b c d : ℤ) → (a -ℤ b) +ℤ (c -ℤ d) ≡ (a +ℤ c) -ℤ (b +ℤ d)
differences a b c d =
    +ℤ_assoc a (neg_ℤ b) (c +ℤ neg_ℤ d)
    ∙ ap (λ (z : ℤ). a +ℤ z)
    (sym (+ℤ_assoc (neg_ℤ b) c (neg_ℤ d)) ∙ ap (λ (z : ℤ). z +ℤ neg_ℤ d) (+ℤ_comm (neg_ℤ b) c)
    ∙ +ℤ_assoc c (neg_ℤ b) (neg_ℤ d) ∙ ap (λ (z : ℤ). c +ℤ z) (sym (neg_ℤ-+ℤ b d)))
    ∙ sym (+ℤ_assoc a c (neg_ℤ (b +ℤ d)))

pub total_is : (s : List ℕ) (i n : ℕ) → total_of s i n ≡ pos (sum_of (moves s) i n) -ℤ pos (sum_of (par s) i n)
unfolding total_of over_par sum_of
total_is s i zero = refl
total_is s i (suc n) =
    ap (λ (z : ℤ). z +ℤ over_par s (i + n)) (total_is s i n)
    ∙ differences (pos (sum_of (moves s) i n)) (pos (sum_of (par s) i n)) (pos (moves s (i + n))) (pos (par s (i + n)))
