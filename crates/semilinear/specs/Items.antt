-- The parts of a semilinear form's bytes, read from the front: an atom's head and tree, and a term. Recursion over the
-- atoms at the front of any bytes.
use Rattle.std.specs.Prelude.{ℕ, zero, suc, ◌+◌, ◌*◌, List, Bool, ◌&&◌, length, get_or, take, drop, leb, eqb}
use Rattle.base.specs.Choice.{when}
use Rattle.record.specs.Fields.{u16, u64}
use Rattle.base.specs.Limits.{record_length}

-- the fields of the record at the front; bytes 2 and 3 are a head's tree size or a term's atom number
unfoldable pub front_kind : List ℕ → ℕ
front_kind r = get_or r 0 0

unfoldable pub provenance : List ℕ → ℕ
provenance r = get_or r 1 0

unfoldable pub front_number : List ℕ → ℕ
front_number r = u16 r 2

unfoldable pub front_width : List ℕ → ℕ
front_width r = get_or r 4 0

unfoldable pub front_spare : List ℕ → ℕ
front_spare r = get_or r 5 0 + get_or r 6 0 + get_or r 7 0

unfoldable pub front_word : List ℕ → ℕ
front_word r = u64 r 8

-- the bytes of the atom at the front, head and tree
unfoldable pub atom_length : List ℕ → ℕ
atom_length r = record_length + record_length * front_number r

-- an atom's head stands at the front, and there is room for its tree
unfoldable pub is_atom : List ℕ → Bool
is_atom r = leb record_length (length r) && (eqb (front_kind r) 33 && leb (atom_length r) (length r))

-- the tree of the atom at the front, and what stands after the atom
unfoldable pub tree_span : List ℕ → List ℕ
tree_span r = take (record_length * front_number r) (drop record_length r)

unfoldable pub after_atom : List ℕ → List ℕ
after_atom r = drop (atom_length r) r

-- recursion over the atoms at the front; `done` is given what stands after them
module _ {A : Type 0} (done : List ℕ → A) (atom : List ℕ → A → A) where
  unfoldable pub atoms_f : ℕ → List ℕ → A
  atoms_f zero r = done r
  atoms_f (suc n) r = when (is_atom r) (λ _. atom r (atoms_f n (after_atom r))) (λ _. done r)

  unfoldable pub fold_atoms : List ℕ → A
  fold_atoms r = atoms_f (length r) r

-- how many atoms stand at the front, how many tree records they have, and what stands after them
abbrev pub atom_count : List ℕ → ℕ
atom_count = fold_atoms (λ r. 0) (λ r n. 1 + n)

abbrev pub atom_records : List ℕ → ℕ
atom_records = fold_atoms (λ r. 0) (λ r n. front_number r + n)

abbrev pub after_atoms : List ℕ → List ℕ
after_atoms = fold_atoms (λ r. r) (λ r x. x)

-- a term stands at the front
unfoldable pub is_term : List ℕ → Bool
is_term q = leb record_length (length q) && eqb (front_kind q) 34
