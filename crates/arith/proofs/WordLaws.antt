-- From the operations of a machine word to the definitions of specs/Width.antt: what the functions compute.
use Rattle.std.proofs.Common.{◌≡◌, ℕ, ◌+◌, ◌-◌, ◌*◌, ◌/◌, ◌%◌, ◌^◌, ◌<◌, ◌≤◌, sym, ap, ◌∙◌, subst, lt_of_lt_of_le, lt_of_le_of_lt, le_of_lt, mod-lt, mod-eq_of_lt, mul-le-mul_left, mul-lt-mul_of_pos_right, arith, lit<, pow_pos, pow_mono, pow-add, shl_exact}
use native.Mathlib.Nat.{div-eq_of_lt, zero-mod, min-le_right, min-eq_right, min-eq_left}
use lib.Bits.{bit_and, and_mask}
use lib.Pow.{split}
use Rattle.arith.specs.Congruence.{Eqm}
use Rattle.arith.specs.Width.{word_bits, bitmask, mod_add, mod_sub, mod_mul, mod_not, mod_shr, wrapping_mul}
use Rattle.arith.proofs.CongruenceLaws.{eqm_intro, eqm_refl, eqm_trans, eqm_mod, eqm_add, eqm_mul_r}
use Rattle.arith.proofs.CongruenceLaws.{mod_shorter}

-- ---- `bitmask`

-- nothing is shifted out of `1 << w`
pub one_shl : (w : ℕ) → w < 64 → 1 * 2 ^ w % 2 ^ 64 ≡ 2 ^ w
one_shl w h = shl_exact 1 w 64 (lit< tt) (omega arith) ∙ omega arith

pub bitmask_wide : (w : ℕ) → 64 ≤ w → 2 ^ 64 - 1 ≡ bitmask w
unfolding bitmask
bitmask_wide w h = ap (λ (x : ℕ). 2 ^ x - 1) (sym (min-eq_right h))

pub bitmask_narrow : (w : ℕ) → w < 64 → 1 * 2 ^ w % 2 ^ 64 - 1 ≡ bitmask w
unfolding bitmask
bitmask_narrow w h =
    ap (λ (x : ℕ). x - 1) (one_shl w h) ∙ ap (λ (x : ℕ). 2 ^ x - 1) (sym (min-eq_left (le_of_lt h)))

-- ---- `r & bitmask(w)`

cut_word : (n w : ℕ) {m : ℕ} → m ≡ bitmask w → bit_and n m ≡ n % 2 ^ word_bits w
unfolding bitmask
cut_word n w f = ap (bit_and n) f ∙ and_mask n (word_bits w)

-- where r is n modulo 2 ^ 64
cut_wrapped : (n w : ℕ) {r m : ℕ} → r ≡ n % 2 ^ 64 → m ≡ bitmask w → bit_and r m ≡ n % 2 ^ word_bits w
cut_wrapped n w {r} e f =
    cut_word r w f
    ∙ ap (λ (x : ℕ). x % 2 ^ word_bits w) e
    ∙ mod_shorter n 64 (word_bits w) (min-le_right w 64)

pub and_mod_add : (a b w : ℕ) {r m : ℕ} → r ≡ (a + b) % 2 ^ 64 → m ≡ bitmask w → bit_and r m ≡ mod_add a b w
unfolding mod_add
and_mod_add a b w e f = cut_wrapped (a + b) w e f

pub and_mod_mul : (a b w : ℕ) {r m : ℕ} → r ≡ wrapping_mul a b → m ≡ bitmask w → bit_and r m ≡ mod_mul a b w
unfolding mod_mul wrapping_mul
and_mod_mul a b w e f = cut_wrapped (a * b) w e f

pub and_mod_sub : (a b w : ℕ) {r m : ℕ} → r ≡ (a + (2 ^ 64 - b)) % 2 ^ 64 → m ≡ bitmask w → bit_and r m ≡ mod_sub a b w
unfolding mod_sub
and_mod_sub a b w e f = cut_wrapped (a + (2 ^ 64 - b)) w e f

-- `!a & bitmask(w)`
not_cut : (a v : ℕ) → a < 2 ^ 64 → v ≤ 64 → (2 ^ 64 - 1 - a) % 2 ^ v ≡ 2 ^ v - 1 - a % 2 ^ v
not_cut a v h l =
    let e : 64 ≡ 64 - v + v = omega arith in
    let p : 2 ^ 64 ≡ 2 ^ (64 - v) * 2 ^ v = ap (λ (x : ℕ). 2 ^ x) e ∙ pow-add 2 (64 - v) v in
    let r : a % 2 ^ v < 2 ^ v = mod-lt a (pow_pos v) in
    let small : 2 ^ v - 1 - a % 2 ^ v < 2 ^ v = omega arith in
    let same : Eqm (2 ^ v) (2 ^ 64 - 1 - a) (2 ^ v - 1 - a % 2 ^ v) =
    eqm_intro (a / 2 ^ v + 1) (2 ^ (64 - v)) (omega (arith, split a v)) in
    same.eqm ∙ mod-eq_of_lt small

pub and_mod_not : (a w : ℕ) {m : ℕ} → a < 2 ^ 64 → m ≡ bitmask w → bit_and (2 ^ 64 - 1 - a) m ≡ mod_not a w
unfolding mod_not
and_mod_not a w ha f = cut_word (2 ^ 64 - 1 - a) w f ∙ not_cut a (word_bits w) ha (min-le_right w 64)

-- ---- shifts

pub and_mod_shr : (a k w : ℕ) {m : ℕ} → m ≡ bitmask w → bit_and (a / 2 ^ k) m ≡ mod_shr a k w
unfolding mod_shr
and_mod_shr a k w f = cut_word (a / 2 ^ k) w f

-- past the last bit of a word
shr_past : (a k : ℕ) → a < 2 ^ 64 → 64 ≤ k → a / 2 ^ k ≡ 0
shr_past a k ha hk = div-eq_of_lt (lt_of_lt_of_le ha (pow_mono hk))

pub mod_shr_past : (a k w : ℕ) → a < 2 ^ 64 → 64 ≤ k → mod_shr a k w ≡ 0
unfolding mod_shr
mod_shr_past a k w ha hk = ap (λ (x : ℕ). x % 2 ^ word_bits w) (shr_past a k ha hk) ∙ zero-mod (2 ^ word_bits w)

-- ---- a product by halves: no function computes it so, and the edit wrapping_mul__high_halves_misplaced does, with a wrong
-- place; with the right one these laws prove it

-- the product of two numbers of k bits has at most k + k
pub product_lt : (k : ℕ) {a b : ℕ} → a < 2 ^ k → b < 2 ^ k → a * b < 2 ^ (k + k)
product_lt k {a} {b} ha hb =
    subst (λ (n : ℕ). a * b < n) (sym (pow-add 2 k k))
    (lt_of_le_of_lt (mul-le-mul_left a (le_of_lt hb)) (mul-lt-mul_of_pos_right ha (pow_pos k)))

mul_halves : (P a₀ a₁ b₀ b₁ : ℕ)
    → Eqm (P * P) (a₀ * b₀ + (a₁ * b₀ + a₀ * b₁) % (P * P) * P % (P * P)) ((a₁ * P + a₀) * (b₁ * P + b₀))
mul_halves P a₀ a₁ b₀ b₁ =
    let mid = a₁ * b₀ + a₀ * b₁ in
    eqm_trans
    (eqm_add (eqm_refl (a₀ * b₀))
    (eqm_trans (eqm_mod (P * P) (mid % (P * P) * P)) (eqm_mul_r P (eqm_mod (P * P) mid))))
    (eqm_intro (a₁ * b₁) 0 (omega arith))

-- the product by halves, with `low` for how it takes the low 32 bits of a word
abbrev crossed : (low : ℕ → ℕ) (a b : ℕ) → ℕ
crossed low a b = (a / 2 ^ 32 * low b + low a * (b / 2 ^ 32)) % 2 ^ 64

abbrev summed : (low : ℕ → ℕ) (a b mid : ℕ) → ℕ
summed low a b mid = (low a * low b + mid * 2 ^ 32 % 2 ^ 64) % 2 ^ 64

abbrev masked : ℕ → ℕ
masked n = bit_and n 0xffff_ffff

pub mul_wraps : (a b : ℕ) {mid r : ℕ} → mid ≡ crossed masked a b → r ≡ summed masked a b mid → r ≡ wrapping_mul a b
unfolding wrapping_mul
mul_wraps a b e f =
    f
    ∙ ap (summed masked a b) e
    ∙ (λ i. summed (λ (n : ℕ). and_mask n 32 i) a b (crossed (λ (n : ℕ). and_mask n 32 i) a b))
    ∙ (mul_halves (2 ^ 32) (a % 2 ^ 32) (a / 2 ^ 32) (b % 2 ^ 32) (b / 2 ^ 32)).eqm
    ∙ (λ i. split a 32 i * split b 32 i % 2 ^ 64)
