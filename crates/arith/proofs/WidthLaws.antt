-- Laws of specs/Width.antt: at a width of at most 64, each definition without its cap, the bound of its result, and
-- what it is modulo 2 ^ w.
use Rattle.std.proofs.Common.{◌≡◌, ℕ, ◌+◌, ◌-◌, ◌*◌, ◌/◌, ◌%◌, ◌^◌, ◌<◌, ◌≤◌, Bool, true, false, ◌&&◌, leb, sym, refl, ap, ◌∙◌, subst, lt_of_le_of_lt, mod-lt, mod-eq_of_lt, zero-add, arith, pow_pos, le-leb, leb-true}
use mathlib.Core.Bool.{and-eq-true_iff}
use native.Mathlib.Nat.{min-eq_left}
use borrow.Author.Tests.{lt-leb}
use lib.Bits.{bit_and, and_mask}
use lib.Pow.{ones_lt, ones_sub-lt, shr_le}
use Rattle.arith.specs.Congruence.{Eqm}
use Rattle.arith.specs.Width.{word_bits, bitmask, is_valid_bitwidth, wrapping_mul}
use Rattle.arith.specs.Width.{mod_add, mod_sub, mod_mul, mod_neg, mod_not, mod_shr}
use Rattle.arith.proofs.CongruenceLaws.{eqm_intro, eqm_of_eq, eqm_refl, eqm_trans}
use Rattle.arith.proofs.CongruenceLaws.{eqm_mod, eqm_small, eqm_add, eqm_neg_unique, eqm_shorter}

pub word_bits_lem : {w : ℕ} → w ≤ 64 → word_bits w ≡ w
word_bits_lem hw = min-eq_left hw

-- ---- the valid widths

pub bitwidth_zero : (w : ℕ) → w < 1 → is_valid_bitwidth w ≡ false
unfolding is_valid_bitwidth
bitwidth_zero w h = ap (λ (x : Bool). x && leb w 64) (lt-leb 1 w h)

pub bitwidth_more : (w : ℕ) → 1 ≤ w → is_valid_bitwidth w ≡ leb w 64
unfolding is_valid_bitwidth
bitwidth_more w h = ap (λ (x : Bool). x && leb w 64) (le-leb 1 w h)

pub bitwidth_bounds : (w : ℕ) → is_valid_bitwidth w ≡ true → (1 ≤ w) × (w ≤ 64)
unfolding is_valid_bitwidth
bitwidth_bounds w e =
    let p = (and-eq-true_iff (leb 1 w) (leb w 64)).0 e in
    (leb-true 1 w p.0, leb-true w 64 p.1)

pub bitwidth_valid : (w : ℕ) → 1 ≤ w → w ≤ 64 → is_valid_bitwidth w ≡ true
bitwidth_valid w l h = bitwidth_more w l ∙ le-leb w 64 h

-- ---- without the cap

pub bitmask_ones : (w : ℕ) → w ≤ 64 → bitmask w ≡ 2 ^ w - 1
unfolding bitmask
bitmask_ones w hw = ap (λ (x : ℕ). 2 ^ x - 1) (word_bits_lem hw)

pub and_bitmask : (n w : ℕ) → w ≤ 64 → bit_and n (bitmask w) ≡ n % 2 ^ w
and_bitmask n w hw = ap (bit_and n) (bitmask_ones w hw) ∙ and_mask n w

pub mod_add_lem : (a b w : ℕ) → w ≤ 64 → mod_add a b w ≡ (a + b) % 2 ^ w
unfolding mod_add
mod_add_lem a b w hw = ap (λ (x : ℕ). (a + b) % 2 ^ x) (word_bits_lem hw)

pub mod_sub_lem : (a b w : ℕ) → w ≤ 64 → mod_sub a b w ≡ (a + (2 ^ 64 - b)) % 2 ^ w
unfolding mod_sub
mod_sub_lem a b w hw = ap (λ (x : ℕ). (a + (2 ^ 64 - b)) % 2 ^ x) (word_bits_lem hw)

pub mod_mul_lem : (a b w : ℕ) → w ≤ 64 → mod_mul a b w ≡ a * b % 2 ^ w
unfolding mod_mul
mod_mul_lem a b w hw = ap (λ (x : ℕ). a * b % 2 ^ x) (word_bits_lem hw)

neg_cut : (a w : ℕ) → w ≤ 64 → mod_neg a w ≡ (2 ^ 64 - a) % 2 ^ w
unfolding mod_neg
neg_cut a w hw = ap (λ (x : ℕ). (2 ^ 64 - a) % 2 ^ x) (word_bits_lem hw)

pub mod_not_lem : (a w : ℕ) → w ≤ 64 → mod_not a w ≡ 2 ^ w - 1 - a % 2 ^ w
unfolding mod_not
mod_not_lem a w hw = ap (λ (x : ℕ). 2 ^ x - 1 - a % 2 ^ x) (word_bits_lem hw)

pub mod_not_exact : (a w : ℕ) → w ≤ 64 → a < 2 ^ w → mod_not a w ≡ 2 ^ w - 1 - a
mod_not_exact a w hw ha = mod_not_lem a w hw ∙ ap (λ (x : ℕ). 2 ^ w - 1 - x) (mod-eq_of_lt ha)

pub mod_shr_lem : (a k w : ℕ) → w ≤ 64 → mod_shr a k w ≡ a / 2 ^ k % 2 ^ w
unfolding mod_shr
mod_shr_lem a k w hw = ap (λ (x : ℕ). a / 2 ^ k % 2 ^ x) (word_bits_lem hw)

-- of a number of w bits nothing is cut
pub mod_shr_exact : (a k w : ℕ) → w ≤ 64 → a < 2 ^ w → mod_shr a k w ≡ a / 2 ^ k
mod_shr_exact a k w hw ha = mod_shr_lem a k w hw ∙ mod-eq_of_lt (lt_of_le_of_lt (shr_le a k) ha)

-- ---- the bound of each result

cut_lt : (n w : ℕ) {r : ℕ} → r ≡ n % 2 ^ w → r < 2 ^ w
cut_lt n w e = subst (λ (x : ℕ). x < 2 ^ w) (sym e) (mod-lt n (pow_pos w))

pub bitmask_lt : (w : ℕ) → w ≤ 64 → bitmask w < 2 ^ w
bitmask_lt w hw = subst (λ (x : ℕ). x < 2 ^ w) (sym (bitmask_ones w hw)) (ones_lt w)

pub mod_add_lt : (a b w : ℕ) → w ≤ 64 → mod_add a b w < 2 ^ w
mod_add_lt a b w hw = cut_lt (a + b) w (mod_add_lem a b w hw)

pub mod_sub_lt : (a b w : ℕ) → w ≤ 64 → mod_sub a b w < 2 ^ w
mod_sub_lt a b w hw = cut_lt (a + (2 ^ 64 - b)) w (mod_sub_lem a b w hw)

pub mod_mul_lt : (a b w : ℕ) → w ≤ 64 → mod_mul a b w < 2 ^ w
mod_mul_lt a b w hw = cut_lt (a * b) w (mod_mul_lem a b w hw)

pub mod_neg_lt : (a w : ℕ) → w ≤ 64 → mod_neg a w < 2 ^ w
mod_neg_lt a w hw = cut_lt (2 ^ 64 - a) w (neg_cut a w hw)

pub mod_not_lt : (a w : ℕ) → w ≤ 64 → mod_not a w < 2 ^ w
mod_not_lt a w hw = subst (λ (x : ℕ). x < 2 ^ w) (sym (mod_not_lem a w hw)) (ones_sub-lt w (a % 2 ^ w))

pub mod_shr_lt : (a k w : ℕ) → w ≤ 64 → mod_shr a k w < 2 ^ w
mod_shr_lt a k w hw = cut_lt (a / 2 ^ k) w (mod_shr_lem a k w hw)

-- ---- modulo 2 ^ w

cut_eqm : (n w : ℕ) {r : ℕ} → r ≡ n % 2 ^ w → Eqm (2 ^ w) r n
cut_eqm n w e = eqm_trans (eqm_of_eq e) (eqm_mod (2 ^ w) n)

pub wrapping_mul_eqm : (a b w : ℕ) → w ≤ 64 → Eqm (2 ^ w) (wrapping_mul a b) (a * b)
unfolding wrapping_mul
wrapping_mul_eqm a b w hw = eqm_shorter 64 w hw (eqm_mod (2 ^ 64) (a * b))

pub mod_add_eqm : (a b w : ℕ) → w ≤ 64 → Eqm (2 ^ w) (mod_add a b w) (a + b)
mod_add_eqm a b w hw = cut_eqm (a + b) w (mod_add_lem a b w hw)

pub mod_mul_eqm : (a b w : ℕ) → w ≤ 64 → Eqm (2 ^ w) (mod_mul a b w) (a * b)
mod_mul_eqm a b w hw = cut_eqm (a * b) w (mod_mul_lem a b w hw)

word_eqm : (w : ℕ) → w ≤ 64 → Eqm (2 ^ w) (2 ^ 64) 0
word_eqm w hw = eqm_shorter 64 w hw (eqm_intro 0 1 refl)

-- a difference and the word that was taken away make the number
pub mod_sub_eqm : (a b w : ℕ) → w ≤ 64 → b < 2 ^ 64 → Eqm (2 ^ w) (mod_sub a b w + b) a
mod_sub_eqm a b w hw hb =
    eqm_trans (eqm_add (cut_eqm (a + (2 ^ 64 - b)) w (mod_sub_lem a b w hw)) (eqm_refl b))
    (eqm_trans (eqm_of_eq {b = a + 2 ^ 64} (omega arith))
    (eqm_trans (eqm_add (eqm_refl a) (word_eqm w hw)) (eqm_of_eq (omega arith))))

pub mod_neg_eqm : (a w : ℕ) → w ≤ 64 → a < 2 ^ 64 → Eqm (2 ^ w) (mod_neg a w + a) 0
mod_neg_eqm a w hw ha =
    eqm_trans (eqm_add (cut_eqm (2 ^ 64 - a) w (neg_cut a w hw)) (eqm_refl a))
    (eqm_trans (eqm_of_eq {b = 2 ^ 64} (omega arith)) (word_eqm w hw))

-- ---- minus

pub mod_sub_zero : (b w : ℕ) → mod_sub 0 b w ≡ mod_neg b w
unfolding mod_sub mod_neg
mod_sub_zero b w = ap (λ (x : ℕ). x % 2 ^ word_bits w) (zero-add (2 ^ 64 - b))

pub mod_neg_lem : (a w : ℕ) → w ≤ 64 → a < 2 ^ 64 → mod_neg a w ≡ (2 ^ w - a % 2 ^ w) % 2 ^ w
mod_neg_lem a w hw ha =
    eqm_small (mod_neg_lt a w hw) (mod-lt (2 ^ w - a % 2 ^ w) (pow_pos w))
    (eqm_neg_unique (a % 2 ^ w)
    (eqm_trans (eqm_add (eqm_refl (mod_neg a w)) (eqm_mod (2 ^ w) a)) (mod_neg_eqm a w hw ha))
    (eqm_trans (eqm_add (eqm_mod (2 ^ w) (2 ^ w - a % 2 ^ w)) (eqm_refl (a % 2 ^ w))) whole))
  where
    whole : Eqm (2 ^ w) (2 ^ w - a % 2 ^ w + a % 2 ^ w) 0
    whole = eqm_intro 0 1 (omega (arith, mod-lt a (pow_pos w)))
