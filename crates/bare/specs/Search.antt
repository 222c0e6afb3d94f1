-- How the number of a bare tree is found (src/lib.rt): by hash and bytes of the atoms at the front of the table.
use Rattle.std.specs.Prelude.{◌≡◌, ℕ, ◌+◌, ◌<◌, List, Bool, ◌&&◌, eqb, Option, Some, None}
use Rattle.base.specs.Choice.{when}
use Rattle.base.specs.Lists.{eq_list}
use Rattle.semilinear.specs.Items.{front_word, tree_span, fold_atoms, atom_count}

-- the atom at the front has this hash, and a tree with the bytes t
unfoldable pub atom_has : ℕ → List ℕ → List ℕ → Bool
atom_has hash t r = eqb (front_word r) hash && eq_list (tree_span r) t

-- the number of the first atom that has them; the count of atoms where there is none
abbrev pub atom_with : ℕ → List ℕ → List ℕ → ℕ
atom_with hash t = fold_atoms (λ r. 0) (λ r n. when (atom_has hash t r) (λ _. 0) (λ _. 1 + n))

-- r is that number, or none where there is none
abbrev pub IsAtomWith : ℕ → List ℕ → List ℕ → Option ℕ → Type 0
IsAtomWith hash t f None = atom_with hash t f ≡ atom_count f
IsAtomWith hash t f (Some i) = (i ≡ atom_with hash t f) × (i < atom_count f)
