-- The bits of a factor that count beside a coefficient c modulo 2 ^ w, and what may be exchanged because the others do
-- not (document 01, "The shorter sheet"; term_refiner.rs 22-60). Every width is accepted.
use Rattle.std.specs.Prelude.{ℕ, ◌-◌, Bool, ◌==◌, bit_and, bit_xor}
use Rattle.std.specs.Int.Count.{count_trailing_zeros}
use Rattle.arith.specs.Width.{bitmask, mod_sub}

-- w less the trailing zeros of c low ones, 64 at most, and none where the zeros reach w (lines 22-29);
-- a coefficient of 0 has 64 zeros
unfoldable pub effective_mask : (c w : ℕ) → ℕ
effective_mask c w = bitmask (w - count_trailing_zeros 64 c)

-- the bits of the mask m that count beside c (lines 58-60)
unfoldable pub reduce_mask : (c m w : ℕ) → ℕ
reduce_mask c m w = bit_and m (effective_mask c w)

-- whether no bit of the mask m counts beside the difference of two coefficients (lines 34-46)
unfoldable pub can_change_coefficient_to : (old new m w : ℕ) → Bool
can_change_coefficient_to old new m w = bit_and m (effective_mask (mod_sub old new w) w) == 0

-- whether no bit in which two masks differ counts beside c (lines 51-54)
unfoldable pub can_change_mask_to : (c old new w : ℕ) → Bool
can_change_mask_to c old new w = bit_and (bit_xor old new) (effective_mask c w) == 0
