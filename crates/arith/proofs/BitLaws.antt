-- A number by its bits: two numbers are equal where each bit is, and the bits of `&`, `|`, `^` and `!` are functions of
-- the operands' bits. An identity of bit operations is `bits-ext _ _ (λ i. simp Bits·simp (..))`, with `omega arith` or
-- a table, `law2` and `law3`, for the rest.
use Rattle.std.proofs.Common.{◌≡◌, ℕ, zero, suc, ◌+◌, ◌-◌, ◌*◌, ◌/◌, ◌%◌, ◌^◌, ◌<◌, ◌≤◌, min, max, Bool, ◌&&◌, T, eqb, sym, ap, ◌∙◌, lt_of_lt_of_le, mod-lt, zero-lt-suc, div-one, one-add, arith, eqb→eq, pow_pos, pow_mono, shr-shr}
use native.Mathlib.Nat.{zero-div, sub-zero, div-eq_of_lt}
use native.Mathlib.Decide.{dec_lt}
use lib.Arith.{lt-one}
use lib.Bits.{bit_and, bit_or, bit_xor, differ, and_mask, and_step, or_step, xor_step, and_shr, or_shr, xor_shr}
use lib.Bits.{and_comm, and_high}
use lib.Pow.{field, low, high, ones_lt}
use mir.Facts.{and_yes}
use Rattle.arith.specs.Bit.{bit_at}
use Rattle.arith.proofs.CongruenceLaws.{mod_shorter}

pub bit_lt : (n i : ℕ) → bit_at n i < 2
unfolding bit_at
bit_lt n i = mod-lt (n / 2 ^ i) (zero-lt-suc 1)

pub bit_zero : (n : ℕ) → bit_at n 0 ≡ n % 2
unfolding bit_at
bit_zero n = ap (λ (x : ℕ). x % 2) (div-one n)

-- bit i of n / 2 ^ k is bit k + i
pub bit_shr : (n k i : ℕ) → bit_at (n / 2 ^ k) i ≡ bit_at n (k + i)
unfolding bit_at
bit_shr n k i = ap (λ (x : ℕ). x % 2) (shr-shr n k i)

pub bit_suc : (n i : ℕ) → bit_at n (suc i) ≡ bit_at (n / 2) i
bit_suc n i = ap (bit_at n) (sym (one-add i)) ∙ sym (bit_shr n 1 i)

-- a number of w bits has none from place w on
pub bit_past : (n w i : ℕ) → n < 2 ^ w → w ≤ i → bit_at n i ≡ 0
unfolding bit_at
bit_past n w i hn hi = ap (λ (x : ℕ). x % 2) (div-eq_of_lt (lt_of_lt_of_le hn (pow_mono hi)))

pub bit_of_zero : (i : ℕ) → bit_at 0 i ≡ 0
unfolding bit_at
bit_of_zero i = ap (λ (x : ℕ). x % 2) (zero-div (2 ^ i))

-- ---- equality by bits

-- numbers of w bits that agree at each place below w are equal
pub bits_below_lem : (w x y : ℕ) → x < 2 ^ w → y < 2 ^ w → ((i : ℕ) → i < w → bit_at x i ≡ bit_at y i) → x ≡ y
bits_below_lem zero x y hx hy e = lt-one hx ∙ sym (lt-one hy)
bits_below_lem (suc w) x y hx hy e =
    let lows : x % 2 ≡ y % 2 = sym (bit_zero x) ∙ e 0 (zero-lt-suc w) ∙ bit_zero y in
    let highs : x / 2 ≡ y / 2 =
    bits_below_lem w (x / 2) (y / 2) (omega arith) (omega arith)
    (λ i h. sym (bit_suc x i) ∙ e (suc i) (omega arith) ∙ bit_suc y i) in
    omega arith

lt_two_pow : (n : ℕ) → n < 2 ^ n
lt_two_pow zero = zero-lt-suc 0
lt_two_pow (suc n) = omega (arith, lt_two_pow n)

-- numbers that agree at each place are equal
pub bits_ext : (x y : ℕ) → ((i : ℕ) → bit_at x i ≡ bit_at y i) → x ≡ y
bits_ext x y e =
    bits_below_lem (x + y) x y
    (lt_of_lt_of_le (lt_two_pow x) (pow_mono (omega arith)))
    (lt_of_lt_of_le (lt_two_pow y) (pow_mono (omega arith)))
    (λ i h. e i)

-- ---- the bits of a result

pub bit_and_lem : (a b i : ℕ) → bit_at (bit_and a b) i ≡ min (bit_at a i) (bit_at b i)
unfolding bit_at
bit_and_lem a b i = ap (λ (x : ℕ). x % 2) (and_shr a b i) ∙ lowest (a / 2 ^ i) (b / 2 ^ i)
  where
    lowest : (x y : ℕ) → bit_and x y % 2 ≡ min (x % 2) (y % 2)
    lowest x y = omega (arith, and_step x y)

pub bit_or_lem : (a b i : ℕ) → bit_at (bit_or a b) i ≡ max (bit_at a i) (bit_at b i)
unfolding bit_at
bit_or_lem a b i = ap (λ (x : ℕ). x % 2) (or_shr a b i) ∙ lowest (a / 2 ^ i) (b / 2 ^ i)
  where
    lowest : (x y : ℕ) → bit_or x y % 2 ≡ max (x % 2) (y % 2)
    lowest x y = omega (arith, or_step x y)

pub differ_lt : (x y : ℕ) → x < 2 → y < 2 → differ x y < 2
differ_lt zero y hx hy = hy
differ_lt (suc x) zero hx hy = hx
differ_lt (suc x) (suc y) hx hy = differ_lt x y (omega arith) (omega arith)

pub bit_xor_lem : (a b i : ℕ) → bit_at (bit_xor a b) i ≡ differ (bit_at a i) (bit_at b i)
unfolding bit_at
bit_xor_lem a b i = ap (λ (x : ℕ). x % 2) (xor_shr a b i) ∙ lowest (a / 2 ^ i) (b / 2 ^ i)
  where
    lowest : (x y : ℕ) → bit_xor x y % 2 ≡ differ (x % 2) (y % 2)
    lowest x y = omega (arith, xor_step x y, differ_lt (x % 2) (y % 2) (omega arith) (omega arith))

pub ruleset Bits·simp = (bit_and_lem, bit_or_lem, bit_xor_lem, bit_of_zero)

-- of the complement at w bits
pub bit_not : (w a i : ℕ) → a < 2 ^ w → i < w → bit_at (2 ^ w - 1 - a) i ≡ 1 - bit_at a i
bit_not zero a i h l = omega arith
bit_not (suc w) a zero h l =
    bit_zero (2 ^ suc w - 1 - a) ∙ (omega arith) ∙ ap (λ (x : ℕ). 1 - x) (sym (bit_zero a))
bit_not (suc w) a (suc i) h l =
    bit_suc (2 ^ suc w - 1 - a) i
    ∙ ap (λ (x : ℕ). bit_at x i) halved
    ∙ bit_not w (a / 2) i (omega arith) (omega arith)
    ∙ ap (λ (x : ℕ). 1 - x) (sym (bit_suc a i))
  where
    halved : (2 ^ suc w - 1 - a) / 2 ≡ 2 ^ w - 1 - a / 2
    halved = omega arith

-- of w ones: set below place w, and not from there on
pub bit_ones : (w i : ℕ) → i < w → bit_at (2 ^ w - 1) i ≡ 1
bit_ones w i h =
    ap (λ (x : ℕ). bit_at x i) (sym (sub-zero (2 ^ w - 1)))
    ∙ bit_not w 0 i (pow_pos w) h
    ∙ ap (λ (x : ℕ). 1 - x) (bit_of_zero i)

pub bit_ones_past : (w i : ℕ) → w ≤ i → bit_at (2 ^ w - 1) i ≡ 0
bit_ones_past w i h = bit_past (2 ^ w - 1) w i (ones_lt w) h

-- of a remainder: the number's below place w, and none from there on
pub bit_mod : (n w i : ℕ) → i < w → bit_at (n % 2 ^ w) i ≡ bit_at n i
unfolding bit_at
bit_mod n w i h =
    let e : w ≡ w - i + i = omega arith in
    ap (λ (x : ℕ). n % 2 ^ x / 2 ^ i % 2) e
    ∙ ap (λ (x : ℕ). x % 2) (field n (w - i) i)
    ∙ mod_shorter (n / 2 ^ i) (w - i) 1 (omega arith)

pub bit_mod_past : (n w i : ℕ) → w ≤ i → bit_at (n % 2 ^ w) i ≡ 0
bit_mod_past n w i h = bit_past (n % 2 ^ w) w i (mod-lt n (pow_pos w)) h

-- of q * 2 ^ k + r: those of r below place k, and at place k the lowest of q
pub bit_under : (q k r i : ℕ) → r < 2 ^ k → i < k → bit_at (q * 2 ^ k + r) i ≡ bit_at r i
bit_under q k r i hr hi = sym (bit_mod (q * 2 ^ k + r) k i hi) ∙ ap (λ (x : ℕ). bit_at x i) (low q k hr)

pub bit_top : (q k r : ℕ) → r < 2 ^ k → bit_at (q * 2 ^ k + r) k ≡ q % 2
unfolding bit_at
bit_top q k r hr = ap (λ (x : ℕ). x % 2) (high q k hr)

-- of a power of two: set at its own place alone
pub bit_pow : (k : ℕ) → bit_at (2 ^ k) k ≡ 1
bit_pow k =
    let e : 2 ^ k ≡ 1 * 2 ^ k + 0 = omega arith in
    ap (λ (x : ℕ). bit_at x k) e ∙ bit_top 1 k 0 (pow_pos k)

pub bit_pow_other : (k i : ℕ) → (i ≡ k → ⊥) → bit_at (2 ^ k) i ≡ 0
bit_pow_other k i n = go (dec_lt i k)
  where
    go : Dec (i < k) → bit_at (2 ^ k) i ≡ 0
    go (yes h) =
        let e : 2 ^ k ≡ 1 * 2 ^ k + 0 = omega arith in
        ap (λ (x : ℕ). bit_at x i) e ∙ bit_under 1 k 0 i (pow_pos k) h ∙ bit_of_zero i
    go (no h) = bit_past (2 ^ k) (suc k) i (omega (arith, pow_pos k)) (omega arith)

-- ---- a single bit taken out

pub shr_and_one : (m i : ℕ) → bit_and (m / 2 ^ i) 1 ≡ bit_at m i
unfolding bit_at
shr_and_one m i = and_mask (m / 2 ^ i) 1

pub and_pow : (i m : ℕ) → bit_and (2 ^ i) m ≡ bit_at m i * 2 ^ i
unfolding bit_at
and_pow i m =
    let e : 2 ^ i ≡ 2 ^ suc i - 2 ^ i = omega arith in
    and_comm (2 ^ i) m
    ∙ ap (bit_and m) (e ∙ ap (λ (x : ℕ). 2 ^ x - 2 ^ i) (sym (one-add i)))
    ∙ and_high m 1 i

-- ---- equations of bits by their table: functions that agree at 0 and 1 agree at every bit. The test is closed: `tt`
-- proves it.

abbrev pub same2 : (f g : ℕ → ℕ → ℕ) → Bool
same2 f g = (eqb (f 0 0) (g 0 0) && eqb (f 0 1) (g 0 1)) && (eqb (f 1 0) (g 1 0) && eqb (f 1 1) (g 1 1))

abbrev pub same3 : (f g : ℕ → ℕ → ℕ → ℕ) → Bool
same3 f g = same2 (f 0) (g 0) && same2 (f 1) (g 1)

-- a bit is 0 or 1
pub bit_cases : (P : ℕ → Type 0) → P 0 → P 1 → (x : ℕ) → x < 2 → P x
bit_cases P p q zero h = p
bit_cases P p q (suc zero) h = q
bit_cases P p q (suc (suc x)) h = absurd (omega arith)

pub law2 : (f g : ℕ → ℕ → ℕ) → T (same2 f g) → (x y : ℕ) → x < 2 → y < 2 → f x y ≡ g x y
law2 f g t x y hx hy =
    let p = and_yes (eqb (f 0 0) (g 0 0) && eqb (f 0 1) (g 0 1)) (eqb (f 1 0) (g 1 0) && eqb (f 1 1) (g 1 1)) t in
    let p₀ = and_yes (eqb (f 0 0) (g 0 0)) (eqb (f 0 1) (g 0 1)) p.0 in
    let p₁ = and_yes (eqb (f 1 0) (g 1 0)) (eqb (f 1 1) (g 1 1)) p.1 in
    bit_cases (λ (x : ℕ). f x y ≡ g x y)
    (bit_cases (λ (y : ℕ). f 0 y ≡ g 0 y) (eqb→eq _ _ p₀.0) (eqb→eq _ _ p₀.1) y hy)
    (bit_cases (λ (y : ℕ). f 1 y ≡ g 1 y) (eqb→eq _ _ p₁.0) (eqb→eq _ _ p₁.1) y hy)
    x hx

pub law3 : (f g : ℕ → ℕ → ℕ → ℕ) → T (same3 f g) → (x y z : ℕ) → x < 2 → y < 2 → z < 2 → f x y z ≡ g x y z
law3 f g t x y z hx hy hz =
    let p = and_yes (same2 (f 0) (g 0)) (same2 (f 1) (g 1)) t in
    bit_cases (λ (x : ℕ). f x y z ≡ g x y z)
    (law2 (f 0) (g 0) p.0 y z hy hz)
    (law2 (f 1) (g 1) p.1 y z hy hz)
    x hx
