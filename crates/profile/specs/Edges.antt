-- The places at which an atom's profile word may differ from that of the place before: bit p of a word is set where a
-- literal has unlike bits at p and p - 1. Bit 0 is always set.
use Rattle.std.specs.Prelude.{ℕ, ◌*◌, ◌%◌, ◌^◌}
use Rattle.std.specs.Int.Bits.{bit_or, bit_xor}
use Rattle.base.specs.Choice.{when}
use Rattle.record.specs.Tree.{Tree}
use Rattle.record.specs.Tree.Tree.{Constant, Variable, Unary, Binary}
use Rattle.partition_laws.specs.Partition.{is_opaque}

-- the edges of a tree's literals
unfoldable pub edges_of : Tree → ℕ
edges_of (Constant v) = bit_xor v (v * 2 ^ 1 % 2 ^ 64)
edges_of (Variable i) = 0
edges_of (Unary k a t) = edges_of t
edges_of (Binary k l r) = bit_or (edges_of l) (edges_of r)

-- the edges of an atom, with place 0; an opaque atom has the same word at every place
unfoldable pub atom_edges : Tree → ℕ
atom_edges t = when (is_opaque t) (λ _. 1) (λ _. bit_or (edges_of t) 1)
