-- The structural hash of a tree (semilinear.rs 173-214), over uncut literals. Sums and products wrap at 64 bits.
use Rattle.std.specs.Prelude.{ℕ, ◌+◌, ◌*◌, ◌/◌, ◌%◌, ◌^◌, bit_xor}
use Rattle.record.specs.Tree.{Tree}
use Rattle.record.specs.Tree.Tree.{Constant, Variable, Unary, Binary}

-- a hash with a child's hash x joined to it
unfoldable pub mix_hash : ℕ → ℕ → ℕ
mix_hash h x = bit_xor h ((x + 0x9E37_79B9_7F4A_7C15 + h * 2 ^ 6 % 2 ^ 64 + h / 2 ^ 2) % 2 ^ 64)

-- a kind's tag with its literal, shift count or cast width; a kind that has none brings 0, which leaves the tag
unfoldable pub tag_hash : ℕ → ℕ → ℕ
tag_hash k v = bit_xor k (v * 0x9E37_79B9_7F4A_7C15 % 2 ^ 64)

-- the hash of the variable i
unfoldable pub var_hash : ℕ → ℕ
var_hash i = bit_xor 1 ((i + 1) * 0x517C_C1B7_2722_0A95 % 2 ^ 64)

unfoldable pub structural_hash : Tree → ℕ
structural_hash (Constant v) = tag_hash 0 v
structural_hash (Variable i) = var_hash i
structural_hash (Unary k a t) = mix_hash (tag_hash k a) (structural_hash t)
structural_hash (Binary k l r) = mix_hash (mix_hash k (structural_hash l)) (structural_hash r)
