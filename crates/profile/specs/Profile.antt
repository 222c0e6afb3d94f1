-- How the code moves a profile on by one place: the word of an atom changes only where the atom has an edge.
use Rattle.std.specs.Prelude.{◌≡◌, ℕ, ◌<◌, List, length, get_or, eqb}
use Rattle.arith.specs.Bit.{bit_at}
use Rattle.base.specs.Choice.{when}
use Rattle.record.specs.Tree.{Tree}
use Rattle.partition_laws.specs.Partition.{profile_word}
use Rattle.profile.specs.Edges.{atom_edges}
use Rattle.profile.specs.Index.{tree_of}

-- the word of atom i, with the tree t, at place p of w, where x is the word of the place before
unfoldable pub moved_word : ℕ → ℕ → ℕ → Tree → ℕ → ℕ
moved_word w p i t x = when (eqb (bit_at (atom_edges t) p) 1) (λ _. profile_word w p i t) (λ _. x)

-- the words of the atoms at the front of f were moved to place p of w
pub record WordsMoved (f : List ℕ) (w p : ℕ) (before after : List ℕ) : Type 0 where
  pub long : length after ≡ length before
  pub word : (i : ℕ) → i < length before → get_or after i 0 ≡ moved_word w p i (tree_of f i) (get_or before i 0)
