-- Two numbers of 32 bits as the halves of one: a place in the low half and a width in the high one.
use mathlib.Core.Path.{◌≡◌}
use Prim.Native.Nat.{ℕ, ◌+◌, ◌*◌, ◌/◌, ◌%◌, ◌<◌}
use native.Mathlib.Omega.{arith}

pub halves : (p w : ℕ) → p < 4294967296
    → ((p + w * 4294967296) / 4294967296 ≡ w) × ((p + w * 4294967296) % 4294967296 ≡ p)
halves p w h = (omega arith, omega arith)

-- a higher place, which stays below the width
pub halves_shift : (n a : ℕ) → n % 4294967296 + a < 4294967296
    → ((n + a) / 4294967296 ≡ n / 4294967296) × ((n + a) % 4294967296 ≡ n % 4294967296 + a)
halves_shift n a h = (omega arith, omega arith)
