-- Signed numbers in code: a signed local holds bits, and where a number fits in 64 of them, what is read back is the
-- number.
use mathlib.Core.Path.{◌≡◌, ap, sym, subst, ◌∙◌}
use Prim.Native.Nat.{ℕ, zero, suc, ◌+◌, ◌-◌, ◌^◌, ◌<◌, ◌≤◌}
use native.Mathlib.Omega.{arith}
use mathlib.Core.Bool.{Bool, true, false, cond}
use lib.Dec.{ltb}
use lib.IntN.{ℤ, pos, negsuc, neg_ℤ, sub_ℕ, ◌+ℤ◌, ◌-ℤ◌}
use lib.Signed.{mag, lt_z}
use mir.Syntax.{w64}
use mir.Val.{SFits, to_z, of_z}
use mir.ValLaws.{to_z-of_z, to_z_pos}

-- what is read back of a number
abbrev pub bits : ℤ → ℤ
bits z = to_z w64 (of_z w64 z)

pub back : {z : ℤ} → SFits w64 z → bits z ≡ z
back {z} f = to_z-of_z w64 z f

pub same_fits : {x y : ℤ} → x ≡ y → SFits w64 x → SFits w64 y
same_fits e f = subst (SFits w64) e f

-- a sum, a difference and a test of what is read back
module _ {x y : ℤ} (fx : SFits w64 x) (fy : SFits w64 y) where
  pub back_sum : bits x +ℤ bits y ≡ x +ℤ y
  back_sum i = back fx i +ℤ back fy i

  pub back_difference : bits x -ℤ bits y ≡ x -ℤ y
  back_difference i = back fx i -ℤ back fy i

  pub back_lower : {t : Bool} → lt_z (bits x) (bits y) ≡ t → lt_z x y ≡ t
  back_lower e = sym (λ i. lt_z (back fx i) (back fy i)) ∙ e

-- ---- how large sums and differences are

mag_difference : (a b : ℕ) → mag (sub_ℕ a b) ≤ a + b
mag_difference a b = go (ltb a b)
  where
    go : (t : Bool) → mag (cond t (negsuc (b - suc a)) (pos (a - b))) ≤ a + b
    go true = omega arith
    go false = omega arith

pub mag_sum : (x y : ℤ) → mag (x +ℤ y) ≤ mag x + mag y + 1
mag_sum (pos a) (pos b) = omega arith
mag_sum (pos a) (negsuc b) = omega (arith, mag_difference a (suc b))
mag_sum (negsuc a) (pos b) = omega (arith, mag_difference b (suc a))
mag_sum (negsuc a) (negsuc b) = omega arith

mag_negative : (p : ℕ) → mag (neg_ℤ (pos p)) ≤ p
mag_negative zero = omega arith
mag_negative (suc p) = omega arith

pub mag_minus : (m p : ℕ) → mag (pos m -ℤ pos p) ≤ m + p + 1
mag_minus m p = omega (arith, mag_sum (pos m) (neg_ℤ (pos p)), mag_negative p)

-- numbers of 16 bits, read as signed ones: their difference fits
module _ {m p : ℕ} (hm : m < 2 ^ 16) (hp : p < 2 ^ 16) where
  pub small_difference : to_z w64 m -ℤ to_z w64 p ≡ pos m -ℤ pos p
  small_difference =
      let l : m < 2 ^ 63 = omega arith in
      let k : p < 2 ^ 63 = omega arith in
      ap (λ (z : ℤ). z -ℤ to_z w64 p) (to_z_pos w64 m l) ∙ ap (λ (z : ℤ). pos m -ℤ z) (to_z_pos w64 p k)

  pub small_fits : SFits w64 (to_z w64 m -ℤ to_z w64 p)
  small_fits =
      let b : mag (pos m -ℤ pos p) < 2 ^ 63 = omega (arith, mag_minus m p) in
      same_fits (sym small_difference) (record { sfits = b })
