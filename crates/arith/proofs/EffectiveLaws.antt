-- Laws of specs/Effective.antt: what the functions return, and at a width of at most 64 that a mask may be cut to the
-- bits that count, and that a coefficient or a mask may change exactly when the test says so.
use Rattle.std.proofs.Common.{◌≡◌, ℕ, zero, suc, ◌+◌, ◌-◌, ◌*◌, ◌/◌, ◌%◌, ◌^◌, ◌<◌, ◌≤◌, min, true, eqb, sym, refl, ap, ◌∙◌, ap₂, le_trans, mul_assoc, add-mul, pow-suc, mul-zero, zero-add, sub-le, sub-eq-zero_of_le, one-add, arith, pow_pos, pow-add, shr-shr, eq-eqb, eqb-true}
use native.Mathlib.Nat.{eq_of_mul-eq-mul_right}
use native.Mathlib.Decide.{dec_lt}
use lib.Bits.{bit_and, bit_xor, and_mask, and_zero_l, and_zero_r, xor_self}
use lib.Count.{count_trailing_zeros, under}
use lib.Pow.{pow-lt, split}
use Rattle.arith.specs.Congruence.{Eqm}
use Rattle.arith.specs.Bit.{bit_at}
use Rattle.arith.specs.Width.{bitmask, mod_sub}
use Rattle.arith.specs.Effective.{effective_mask, reduce_mask, can_change_coefficient_to, can_change_mask_to}
use Rattle.arith.proofs.CongruenceLaws.{eqm_intro, eqm_of_eq, eqm_refl, eqm_sym, eqm_trans}
use Rattle.arith.proofs.CongruenceLaws.{eqm_add, eqm_mul_r, eqm_cancel, eqm_zero}
use Rattle.arith.proofs.BitLaws.{bit_lt, bit_zero, bit_suc, bits_ext, bit_ones_past, and_pow}
use Rattle.arith.proofs.BitLaws.{Bits·simp, bit_cases}
use Rattle.arith.proofs.MaskLaws.{and_assoc, xor_and, eq_of_xor}
use Rattle.arith.proofs.WidthLaws.{bitmask_ones, mod_sub_eqm}

-- ---- what the functions return

pub effective_none : (c w : ℕ) → w ≤ count_trailing_zeros 64 c → effective_mask c w ≡ 0
unfolding effective_mask bitmask
effective_none c w h = ap bitmask (sub-eq-zero_of_le h)

pub effective_ones : (c w : ℕ) → effective_mask c w ≡ bitmask (w - count_trailing_zeros 64 c)
unfolding effective_mask
effective_ones c w = refl

pub reduce_and : (c m w : ℕ) {e : ℕ} → e ≡ effective_mask c w → bit_and m e ≡ reduce_mask c m w
unfolding reduce_mask
reduce_and c m w f = ap (bit_and m) f

pub coefficient_test : (old new m w : ℕ) {d e : ℕ}
    → d ≡ mod_sub old new w → e ≡ effective_mask d w → eqb (bit_and m e) 0 ≡ can_change_coefficient_to old new m w
unfolding can_change_coefficient_to
coefficient_test old new m w h f =
    ap (λ (x : ℕ). eqb (bit_and m x) 0) (f ∙ ap (λ (x : ℕ). effective_mask x w) h)

pub mask_test : (c old new w : ℕ) {e : ℕ}
    → e ≡ effective_mask c w → eqb (bit_and (bit_xor old new) e) 0 ≡ can_change_mask_to c old new w
unfolding can_change_mask_to
mask_test c old new w f = ap (λ (x : ℕ). eqb (bit_and (bit_xor old new) x) 0) f

-- ---- trailing zeros: the number is a multiple of 2 ^ t, and its bit at t is set where t is not all the k places

half_exact : (n t : ℕ) → n % 2 ≡ 0 → n / 2 / 2 ^ t * 2 ^ t ≡ n / 2 → n / 2 ^ suc t * 2 ^ suc t ≡ n
half_exact n t e ih =
    ap₂ (λ (x y : ℕ). x * y) (ap (λ (x : ℕ). n / 2 ^ x) (sym (one-add t)) ∙ sym (shr-shr n 1 t)) (pow-suc 2 t)
    ∙ sym (mul_assoc (n / 2 / 2 ^ t) (2 ^ t) 2)
    ∙ ap (λ (x : ℕ). x * 2) ih
    ∙ omega arith

pub trailing_exact : (k n : ℕ) → n / 2 ^ count_trailing_zeros k n * 2 ^ count_trailing_zeros k n ≡ n
unfolding count_trailing_zeros
trailing_exact zero n = omega arith
trailing_exact (suc k) n = go (count_trailing_zeros k (n / 2)) (trailing_exact k (n / 2)) (n % 2) refl
  where
    go : (t : ℕ) → n / 2 / 2 ^ t * 2 ^ t ≡ n / 2 → (d : ℕ) → n % 2 ≡ d → n / 2 ^ under d t * 2 ^ under d t ≡ n
    go t ih zero e = half_exact n t e ih
    go t ih (suc d) e = omega arith

pub trailing_bit : (k n : ℕ) → count_trailing_zeros k n < k → bit_at n (count_trailing_zeros k n) ≡ 1
unfolding count_trailing_zeros
trailing_bit zero n h = omega arith
trailing_bit (suc k) n h = go (count_trailing_zeros k (n / 2)) (trailing_bit k (n / 2)) (n % 2) refl h
  where
    go : (t : ℕ)
        → (t < k → bit_at (n / 2) t ≡ 1) → (d : ℕ) → n % 2 ≡ d → under d t < suc k → bit_at n (under d t) ≡ 1
    go t ih zero e l = bit_suc n t ∙ ih (omega arith)
    go t ih (suc d) e l = bit_zero n ∙ omega arith

-- ---- the bits that count

pub effective_narrow : (c w : ℕ) → w ≤ 64 → effective_mask c w ≡ 2 ^ (w - count_trailing_zeros 64 c) - 1
effective_narrow c w hw =
    effective_ones c w ∙ bitmask_ones (w - count_trailing_zeros 64 c) (le_trans (sub-le w (count_trailing_zeros 64 c)) hw)

-- beside a multiple of 2 ^ t only the w - t low bits of a factor count
multiple_mod : (c t w y : ℕ) → c / 2 ^ t * 2 ^ t ≡ c → Eqm (2 ^ w) (c * y) (c * (y % 2 ^ (w - t)))
multiple_mod c t w y e =
    let p : 2 ^ t * 2 ^ (w - t) ≡ 2 ^ (t - w) * 2 ^ w =
    sym (pow-add 2 t (w - t)) ∙ ap (λ (x : ℕ). 2 ^ x) (omega arith) ∙ pow-add 2 (t - w) w in
    eqm_intro 0 (c / 2 ^ t * (y / 2 ^ (w - t)) * 2 ^ (t - w))
    (omega (
      arith,
      ap (λ (x : ℕ). c * x) (split y (w - t)),
      ap (λ (x : ℕ). x * (y / 2 ^ (w - t) * 2 ^ (w - t))) e,
      ap (λ (x : ℕ). c / 2 ^ t * (y / 2 ^ (w - t)) * x) p,
    ))

pub effective_eqm : (c w y : ℕ) → w ≤ 64 → Eqm (2 ^ w) (c * bit_and y (effective_mask c w)) (c * y)
effective_eqm c w y hw =
    let t = count_trailing_zeros 64 c in
    eqm_trans
    (eqm_of_eq (ap (λ (x : ℕ). c * x) (ap (bit_and y) (effective_narrow c w hw) ∙ and_mask y (w - t))))
    (eqm_sym (multiple_mod c t w y (trailing_exact 64 c)))

-- a reduced mask keeps the value
pub reduce_eqm : (c w x m : ℕ) → w ≤ 64 → Eqm (2 ^ w) (c * bit_and x (reduce_mask c m w)) (c * bit_and x m)
unfolding reduce_mask
reduce_eqm c w x m hw =
    eqm_trans (eqm_of_eq (ap (λ (y : ℕ). c * y) (sym (and_assoc x m (effective_mask c w)))))
    (effective_eqm c w (bit_and x m) hw)

-- where no bit of the mask counts the term is 0
pub reduce_zero : (c w x m : ℕ) → w ≤ 64 → reduce_mask c m w ≡ 0 → Eqm (2 ^ w) (c * bit_and x m) 0
reduce_zero c w x m hw h =
    eqm_trans (eqm_sym (reduce_eqm c w x m hw))
    (eqm_of_eq (ap (λ (y : ℕ). c * bit_and x y) h ∙ ap (λ (y : ℕ). c * y) (and_zero_r x) ∙ mul-zero c))

-- ---- a bit that counts is not lost

-- an odd number, shifted by less than w, is not 0 modulo 2 ^ w
odd_shifted : (w q s : ℕ) → s < w → q % 2 ≡ 1 → Eqm (2 ^ w) (q * 2 ^ s) 0 → ⊥
odd_shifted w q s l o h =
    let n : w ≡ suc (w - s - 1) + s = omega arith in
    let p : 2 ^ w ≡ 2 ^ suc (w - s - 1) * 2 ^ s = ap (λ (x : ℕ). 2 ^ x) n ∙ pow-add 2 (suc (w - s - 1)) s in
    let k = q * 2 ^ s / 2 ^ w in
    let f : q ≡ k * 2 ^ suc (w - s - 1) =
    eq_of_mul-eq-mul_right (2 ^ s) (pow_pos s) q (k * 2 ^ suc (w - s - 1))
    (eqm_zero h ∙ ap (λ (x : ℕ). k * x) p ∙ sym (mul_assoc k (2 ^ suc (w - s - 1)) (2 ^ s))) in
    let g : k * 2 ^ suc (w - s - 1) ≡ k * 2 ^ (w - s - 1) * 2 =
    ap (λ (x : ℕ). k * x) (pow-suc 2 (w - s - 1)) ∙ sym (mul_assoc k (2 ^ (w - s - 1)) 2) in
    omega arith

counts : (c w i : ℕ) → w ≤ 64 → i < w - count_trailing_zeros 64 c → Eqm (2 ^ w) (c * 2 ^ i) 0 → ⊥
unfolding bit_at
counts c w i hw l h =
    let t = count_trailing_zeros 64 c in
    odd_shifted w (c / 2 ^ t) (t + i) (omega arith) (trailing_bit 64 c (omega arith))
    (eqm_trans
    (eqm_of_eq
    (ap (λ (x : ℕ). c / 2 ^ t * x) (pow-add 2 t i)
    ∙ sym (mul_assoc (c / 2 ^ t) (2 ^ t) (2 ^ i))
    ∙ ap (λ (x : ℕ). x * 2 ^ i) (trailing_exact 64 c)))
    h)

-- so a single bit that counts is told by the product
bit_same : (c w i a b : ℕ)
    → w ≤ 64 → i < w - count_trailing_zeros 64 c → a < 2 → b < 2 → Eqm (2 ^ w) (c * (a * 2 ^ i)) (c * (b * 2 ^ i)) → a ≡ b
bit_same c w i a b hw l ha hb =
    bit_cases (λ (x : ℕ). Same x b → x ≡ b)
    (bit_cases (λ (y : ℕ). Same 0 y → 0 ≡ y) (λ e. refl) (λ e. absurd (lost (eqm_sym e))) b hb)
    (bit_cases (λ (y : ℕ). Same 1 y → 1 ≡ y) (λ e. absurd (lost e)) (λ e. refl) b hb)
    a ha
  where
    Same : (x y : ℕ) → Type 0
    Same x y = Eqm (2 ^ w) (c * (x * 2 ^ i)) (c * (y * 2 ^ i))

    lost : Same 1 0 → ⊥
    lost e = counts c w i hw l (eqm_trans (eqm_of_eq (omega arith)) (eqm_trans e (eqm_of_eq (omega arith))))

-- masks that give the same terms have the same bits that count
pub reduce_unique : (c w m n : ℕ) → w ≤ 64
    → ((x : ℕ) → x < 2 ^ w → Eqm (2 ^ w) (c * bit_and x m) (c * bit_and x n)) → reduce_mask c m w ≡ reduce_mask c n w
unfolding reduce_mask
reduce_unique c w m n hw same =
    ap (bit_and m) (effective_narrow c w hw)
    ∙ bits_ext _ _ (λ i. simp Bits·simp (at i (dec_lt i (w - count_trailing_zeros 64 c))))
    ∙ ap (bit_and n) (sym (effective_narrow c w hw))
  where
    at : (i : ℕ) → Dec (i < w - count_trailing_zeros 64 c)
        → min (bit_at m i) (bit_at (2 ^ (w - count_trailing_zeros 64 c) - 1) i)
        ≡ min (bit_at n i) (bit_at (2 ^ (w - count_trailing_zeros 64 c) - 1) i)
    at i (yes l) =
        let e : Eqm (2 ^ w) (c * (bit_at m i * 2 ^ i)) (c * (bit_at n i * 2 ^ i)) =
        eqm_trans (eqm_of_eq (ap (λ (x : ℕ). c * x) (sym (and_pow i m))))
        (eqm_trans (same (2 ^ i) (pow-lt (omega arith))) (eqm_of_eq (ap (λ (x : ℕ). c * x) (and_pow i n)))) in
        let b : bit_at m i ≡ bit_at n i = bit_same c w i (bit_at m i) (bit_at n i) hw l (bit_lt m i) (bit_lt n i) e in
        ap (λ (x : ℕ). min x (bit_at (2 ^ (w - count_trailing_zeros 64 c) - 1) i)) b
    at i (no g) =
        let l : w - count_trailing_zeros 64 c ≤ i = omega arith in
        omega (arith, bit_ones_past (w - count_trailing_zeros 64 c) i l)

-- ---- a coefficient may change exactly when the test says so

module _ (old new m w : ℕ) (hw : w ≤ 64) (hn : new < 2 ^ 64) where
  pub coefficient_sound : can_change_coefficient_to old new m w ≡ true
      → (x : ℕ) → Eqm (2 ^ w) (old * bit_and x m) (new * bit_and x m)
  unfolding can_change_coefficient_to reduce_mask
  coefficient_sound t x =
      let d = mod_sub old new w in
      let y = bit_and x m in
      eqm_trans (eqm_sym (eqm_mul_r y (mod_sub_eqm old new w hw hn)))
      (eqm_trans (eqm_of_eq (add-mul d new y))
      (eqm_trans (eqm_add (reduce_zero d w x m hw (eqb-true (bit_and m (effective_mask d w)) 0 t)) (eqm_refl (new * y)))
      (eqm_of_eq (zero-add (new * y)))))

  pub coefficient_complete : ((x : ℕ) → x < 2 ^ w → Eqm (2 ^ w) (old * bit_and x m) (new * bit_and x m))
      → can_change_coefficient_to old new m w ≡ true
  unfolding can_change_coefficient_to reduce_mask
  coefficient_complete same = eq-eqb _ 0 (reduce_unique d w m 0 hw none ∙ and_zero_l (effective_mask d w))
    where
      d : ℕ
      d = mod_sub old new w

      none : (x : ℕ) → x < 2 ^ w → Eqm (2 ^ w) (d * bit_and x m) (d * bit_and x 0)
      none x hx =
          let y = bit_and x m in
          eqm_cancel (new * y)
          (eqm_trans (eqm_of_eq (sym (add-mul d new y)))
          (eqm_trans (eqm_mul_r y (mod_sub_eqm old new w hw hn))
          (eqm_trans (same x hx) (eqm_of_eq (sym (ap (λ (z : ℕ). d * z + new * y) (and_zero_r x) ∙ omega arith))))))

-- ---- a mask may change exactly when the test says so

module _ (c old new w : ℕ) (hw : w ≤ 64) where
  pub mask_sound : can_change_mask_to c old new w ≡ true → (x : ℕ) → Eqm (2 ^ w) (c * bit_and x old) (c * bit_and x new)
  unfolding can_change_mask_to reduce_mask
  mask_sound t x =
      let kept : reduce_mask c old w ≡ reduce_mask c new w =
      eq_of_xor _ _ (sym (xor_and old new (effective_mask c w)) ∙ eqb-true _ 0 t) in
      eqm_trans (eqm_sym (reduce_eqm c w x old hw))
      (eqm_trans (eqm_of_eq (ap (λ (y : ℕ). c * bit_and x y) kept)) (reduce_eqm c w x new hw))

  pub mask_complete : ((x : ℕ) → x < 2 ^ w → Eqm (2 ^ w) (c * bit_and x old) (c * bit_and x new))
      → can_change_mask_to c old new w ≡ true
  unfolding can_change_mask_to reduce_mask
  mask_complete same =
      eq-eqb _ 0
      (xor_and old new (effective_mask c w)
      ∙ ap (λ (y : ℕ). bit_xor y (reduce_mask c new w)) (reduce_unique c w old new hw same)
      ∙ xor_self (reduce_mask c new w))
