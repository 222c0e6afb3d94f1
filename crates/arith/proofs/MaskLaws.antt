-- Identities of `&`, `|`, `^` and `!` on numbers, what they come to as sums, and the rewrites of terms c * (x & m).
-- The complement of m at w bits is 2 ^ w - 1 - m. `x & (2 ^ w - 1)` is `x % 2 ^ w` by the library's `and_mask`.
use Rattle.std.proofs.Common.{◌≡◌, ℕ, ◌+◌, ◌-◌, ◌*◌, ◌/◌, ◌%◌, ◌^◌, ◌<◌, min, T, sym, ap, ◌∙◌, ap₂, lt_of_le_of_lt, mod-eq_of_lt, arith, pow_pos}
use lib.Bits.{bit_and, bit_or, bit_xor, differ, and_mask, and_mod, and_comm}
use lib.Bits.{and_le_l, and_le_r, or_disjoint, or_add_and, xor_add_and}
use Rattle.arith.specs.Congruence.{Eqm}
use Rattle.arith.specs.Bit.{bit_at}
use Rattle.arith.proofs.CongruenceLaws.{eqm_intro, eqm_of_eq, eqm_refl, eqm_sym, eqm_trans}
use Rattle.arith.proofs.CongruenceLaws.{eqm_add, eqm_mul_r, eqm_minus, eqm_zero}
use Rattle.arith.proofs.BitLaws.{bit_lt, bits_ext, bits_below_lem, bit_and_lem, bit_not, bit_of_zero}
use Rattle.arith.proofs.BitLaws.{Bits·simp, same3, law3}

-- ---- associativity and distributivity

pub and_assoc : (a b c : ℕ) → bit_and (bit_and a b) c ≡ bit_and a (bit_and b c)
and_assoc a b c = bits_ext _ _ (λ i. simp Bits·simp (omega arith))

pub or_assoc : (a b c : ℕ) → bit_or (bit_or a b) c ≡ bit_or a (bit_or b c)
or_assoc a b c = bits_ext _ _ (λ i. simp Bits·simp (omega arith))

pub and_or : (a b c : ℕ) → bit_and a (bit_or b c) ≡ bit_or (bit_and a b) (bit_and a c)
and_or a b c = bits_ext _ _ (λ i. simp Bits·simp (omega arith))

pub or_and : (a b c : ℕ) → bit_or a (bit_and b c) ≡ bit_and (bit_or a b) (bit_or a c)
or_and a b c = bits_ext _ _ (λ i. simp Bits·simp (omega arith))

-- by the table of three bits
module _ (a b c : ℕ) where
  by_table : (f g : ℕ → ℕ → ℕ → ℕ) → T (same3 f g) → (i : ℕ)
      → f (bit_at a i) (bit_at b i) (bit_at c i) ≡ g (bit_at a i) (bit_at b i) (bit_at c i)
  by_table f g t i = law3 f g t (bit_at a i) (bit_at b i) (bit_at c i) (bit_lt a i) (bit_lt b i) (bit_lt c i)

  pub and_xor : bit_and a (bit_xor b c) ≡ bit_xor (bit_and a b) (bit_and a c)
  and_xor =
      bits_ext _ _
      (λ i. simp Bits·simp
      (by_table (λ x y z. min x (differ y z)) (λ x y z. differ (min x y) (min x z)) tt i))

  pub xor_and : bit_and (bit_xor a b) c ≡ bit_xor (bit_and a c) (bit_and b c)
  xor_and =
      bits_ext _ _
      (λ i. simp Bits·simp
      (by_table (λ x y z. min (differ x y) z) (λ x y z. differ (min x z) (min y z)) tt i))

  pub xor_assoc : bit_xor (bit_xor a b) c ≡ bit_xor a (bit_xor b c)
  xor_assoc =
      bits_ext _ _
      (λ i. simp Bits·simp
      (by_table (λ x y z. differ (differ x y) z) (λ x y z. differ x (differ y z)) tt i))

-- numbers that differ in no bit are equal
pub eq_of_xor : (a b : ℕ) → bit_xor a b ≡ 0 → a ≡ b
eq_of_xor a b h = omega (arith, xor_add_and a b, and_le_l a b, and_le_r a b)

-- ---- what lies above a mask's bits does not matter

pub and_below : (w x m : ℕ) → m < 2 ^ w → bit_and x m < 2 ^ w
and_below w x m hm = lt_of_le_of_lt (and_le_r x m) hm

pub and_low : (w x m : ℕ) → m < 2 ^ w → bit_and (x % 2 ^ w) m ≡ bit_and x m
and_low w x m hm =
    ap (bit_and (x % 2 ^ w)) (sym (mod-eq_of_lt hm))
    ∙ sym (and_mod x m w)
    ∙ mod-eq_of_lt (and_below w x m hm)

pub and_eqm : {x y : ℕ} (w m : ℕ) → m < 2 ^ w → Eqm (2 ^ w) x y → bit_and x m ≡ bit_and y m
and_eqm {x} {y} w m hm e = sym (and_low w x m hm) ∙ ap (λ (z : ℕ). bit_and z m) e.eqm ∙ and_low w y m hm

pub and_full : (w x : ℕ) → x < 2 ^ w → bit_and x (2 ^ w - 1) ≡ x
and_full w x hx = and_mask x w ∙ mod-eq_of_lt hx

-- ---- masks with no bit in common: what they keep adds

pub and_disjoint : (x m n : ℕ) → bit_and m n ≡ 0 → bit_and (bit_and x m) (bit_and x n) ≡ 0
and_disjoint x m n h =
    bits_ext _ _
    (λ i. simp Bits·simp (omega (arith, sym (bit_and_lem m n i) ∙ ap (λ (y : ℕ). bit_at y i) h, bit_of_zero i)))

pub and_split : (x m n : ℕ) → bit_and m n ≡ 0 → bit_and x (bit_or m n) ≡ bit_and x m + bit_and x n
and_split x m n h = and_or x m n ∙ or_disjoint (bit_and x m) (bit_and x n) (and_disjoint x m n h)

-- ---- the complement

pub not_disjoint : (w m : ℕ) → m < 2 ^ w → bit_and m (2 ^ w - 1 - m) ≡ 0
not_disjoint w m hm =
    bits_below_lem w _ _ (lt_of_le_of_lt (and_le_l m (2 ^ w - 1 - m)) hm) (pow_pos w)
    (λ i l. simp Bits·simp (omega (arith, bit_not w m i hm l, bit_lt m i)))

pub not_or : (w m : ℕ) → m < 2 ^ w → bit_or m (2 ^ w - 1 - m) ≡ 2 ^ w - 1
not_or w m hm = or_disjoint m (2 ^ w - 1 - m) (not_disjoint w m hm) ∙ omega arith

-- a mask that fills up m without meeting it is the complement
pub not_unique : (w m n : ℕ) → bit_or m n ≡ 2 ^ w - 1 → bit_and m n ≡ 0 → n ≡ 2 ^ w - 1 - m
not_unique w m n e h = omega (arith, or_disjoint m n h)

-- what m keeps and what its complement keeps make the number
pub and_not : (w x m : ℕ) → x < 2 ^ w → m < 2 ^ w → bit_and x m + bit_and x (2 ^ w - 1 - m) ≡ x
and_not w x m hx hm =
    sym (and_split x m (2 ^ w - 1 - m) (not_disjoint w m hm)) ∙ ap (bit_and x) (not_or w m hm) ∙ and_full w x hx

-- what m keeps of x and of its complement make m
pub not_and : (w x m : ℕ) → x < 2 ^ w → m < 2 ^ w → bit_and x m + bit_and (2 ^ w - 1 - x) m ≡ m
not_and w x m hx hm =
    ap₂ (λ (p q : ℕ). p + q) (and_comm x m) (and_comm (2 ^ w - 1 - x) m) ∙ and_not w m x hm hx

-- a mask in two parts, by any p of w bits
pub and_parts : (w x m p : ℕ)
    → m < 2 ^ w → p < 2 ^ w → bit_and x m ≡ bit_and x (bit_and m p) + bit_and x (bit_and m (2 ^ w - 1 - p))
and_parts w x m p hm hp =
    ap (bit_and x) (sym whole)
    ∙ and_split x (bit_and m p) (bit_and m (2 ^ w - 1 - p)) (and_disjoint m p (2 ^ w - 1 - p) (not_disjoint w p hp))
  where
    whole : bit_or (bit_and m p) (bit_and m (2 ^ w - 1 - p)) ≡ m
    whole = sym (and_or m p (2 ^ w - 1 - p)) ∙ ap (bit_and m) (not_or w p hp) ∙ and_full w m hm

-- ---- `|`, `^` and `!` as sums

pub or_sum : (x m : ℕ) → bit_or x m ≡ x + m - bit_and x m
or_sum x m = omega (arith, or_add_and x m)

pub xor_sum : (x m : ℕ) → bit_xor x m ≡ x + m - 2 * bit_and x m
xor_sum x m = omega (arith, xor_add_and x m)

-- c times each, modulo M; k is -c, or -2 * c for `^`
pub or_minus : (M c x m k : ℕ) → Eqm M (k + c) 0 → Eqm M (c * bit_or x m) (c * x + c * m + k * bit_and x m)
or_minus M c x m k n =
    eqm_minus k c (bit_and x m) n (eqm_of_eq (omega (arith, ap (λ (y : ℕ). c * y) (or_add_and x m))))

pub xor_minus : (M c x m k : ℕ) → Eqm M (k + 2 * c) 0 → Eqm M (c * bit_xor x m) (c * x + c * m + k * bit_and x m)
xor_minus M c x m k n =
    eqm_minus k (2 * c) (bit_and x m) n (eqm_of_eq (omega (arith, ap (λ (y : ℕ). c * y) (xor_add_and x m))))

pub not_minus : (M w c x m k : ℕ)
    → x < 2 ^ w → m < 2 ^ w → Eqm M (k + c) 0 → Eqm M (c * bit_and (2 ^ w - 1 - x) m) (c * m + k * bit_and x m)
not_minus M w c x m k hx hm n =
    eqm_minus k c (bit_and x m) n (eqm_of_eq (omega (arith, ap (λ (y : ℕ). c * y) (not_and w x m hx hm))))

-- ---- rewrites of masked terms

-- one coefficient, disjoint masks
pub terms_merge : (c x m n : ℕ) → bit_and m n ≡ 0 → c * bit_and x m + c * bit_and x n ≡ c * bit_and x (bit_or m n)
terms_merge c x m n h = omega (arith, ap (λ (y : ℕ). c * y) (and_split x m n h))

-- three terms to two: the third has the sum of the other two's coefficients
pub terms_collapse : (M x m n p c d e : ℕ)
    → bit_and m p ≡ 0 → bit_and n p ≡ 0 → Eqm M e (c + d)
    → Eqm M (c * bit_and x m + d * bit_and x n + e * bit_and x p) (c * bit_and x (bit_or m p) + d * bit_and x (bit_or n p))
terms_collapse M x m n p c d e hm hn h =
    eqm_trans (eqm_add (eqm_refl (c * bit_and x m + d * bit_and x n)) (eqm_mul_r (bit_and x p) h))
    (eqm_of_eq (omega (arith, terms_merge c x m p hm, terms_merge d x n p hn)))

-- a mask and its complement: `^` with opposite coefficients c and k
pub xor_recover : (w c x m : ℕ)
    → x < 2 ^ w → m < 2 ^ w → c * bit_and x m + c * bit_xor m x ≡ c * m + c * bit_and x (2 ^ w - 1 - m)
xor_recover w c x m hx hm =
    omega (
      arith,
      ap (λ (y : ℕ). c * y) (and_comm x m),
      ap (λ (y : ℕ). c * y) (xor_add_and m x),
      ap (λ (y : ℕ). c * y) (and_not w x m hx hm),
    )

pub xor_recover_minus : (M w c x m k : ℕ)
    → x < 2 ^ w → m < 2 ^ w → Eqm M (k + c) 0
    → Eqm M (c * bit_and x m + k * bit_and x (2 ^ w - 1 - m)) (c * m + k * bit_xor m x)
xor_recover_minus M w c x m k hx hm n =
    eqm_intro
    ((k + c) / M * bit_xor m x)
    ((k + c) / M * bit_and x (2 ^ w - 1 - m))
    (omega (
      arith,
      xor_recover w c x m hx hm,
      ap (λ (y : ℕ). y * bit_xor m x) (eqm_zero n),
      ap (λ (y : ℕ). y * bit_and x (2 ^ w - 1 - m)) (eqm_zero n),
    ))

-- a mask and its complement: one mask goes, and e is the difference of the coefficients
pub mask_eliminate : (M w x m c d e : ℕ)
    → x < 2 ^ w → m < 2 ^ w → Eqm M (e + d) c
    → Eqm M (c * bit_and x m + d * bit_and x (2 ^ w - 1 - m)) (e * bit_and x m + d * x)
mask_eliminate M w x m c d e hx hm h =
    eqm_trans (eqm_add (eqm_mul_r (bit_and x m) (eqm_sym h)) (eqm_refl (d * bit_and x (2 ^ w - 1 - m))))
    (eqm_of_eq (omega (arith, ap (λ (y : ℕ). d * y) (and_not w x m hx hm))))
