-- Arithmetic at a width w, of 64-bit words a and b (document 01, "The tangle file"; arith.rs).
-- A width above 64 keeps 64 bits. `2 ^ 64 - b` stands for -b: the sum is cut to at most 64 bits.
use Rattle.std.specs.Prelude.{ℕ, ◌+◌, ◌-◌, ◌*◌, ◌/◌, ◌%◌, ◌^◌, min, Bool, ◌&&◌, nat_le}

-- how many bits of a word a width keeps
abbrev pub word_bits : (w : ℕ) → ℕ
word_bits w = min w 64

-- those bits, all set (arith.rs 9-17)
unfoldable pub bitmask : (w : ℕ) → ℕ
bitmask w = 2 ^ word_bits w - 1

-- the widths that an expression may have (arith.rs 22-24)
unfoldable pub is_valid_bitwidth : (w : ℕ) → Bool
is_valid_bitwidth w = nat_le 1 w && nat_le w 64

-- a * b, as a 64-bit word holds it
unfoldable pub wrapping_mul : (a b : ℕ) → ℕ
wrapping_mul a b = a * b % 2 ^ 64

-- a + b (arith.rs 42-44)
unfoldable pub mod_add : (a b w : ℕ) → ℕ
mod_add a b w = (a + b) % 2 ^ word_bits w

-- a - b (arith.rs 48-50)
unfoldable pub mod_sub : (a b w : ℕ) → ℕ
mod_sub a b w = (a + (2 ^ 64 - b)) % 2 ^ word_bits w

-- a * b (arith.rs 54-56)
unfoldable pub mod_mul : (a b w : ℕ) → ℕ
mod_mul a b w = a * b % 2 ^ word_bits w

-- -a (arith.rs 60-62)
unfoldable pub mod_neg : (a w : ℕ) → ℕ
mod_neg a w = (2 ^ 64 - a) % 2 ^ word_bits w

-- the low bits of a, each turned (arith.rs 66-68)
unfoldable pub mod_not : (a w : ℕ) → ℕ
mod_not a w = 2 ^ word_bits w - 1 - a % 2 ^ word_bits w

-- a shifted down by k, and then cut (arith.rs 72-77)
unfoldable pub mod_shr : (a k w : ℕ) → ℕ
mod_shr a k w = a / 2 ^ k % 2 ^ word_bits w
