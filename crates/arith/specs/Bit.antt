-- The bits of a number, 0 or 1; place 0 is the lowest.
use Rattle.std.specs.Prelude.{ℕ, ◌/◌, ◌%◌, ◌^◌}

-- the bit of n at place i
unfoldable pub bit_at : (n i : ℕ) → ℕ
bit_at n i = n / 2 ^ i % 2
