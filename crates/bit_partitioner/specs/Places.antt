-- The loop over places: what holds when the places below one are joined to their classes.
use Rattle.std.specs.Prelude.{◌≡◌, ℕ, ◌+◌, ◌-◌, ◌*◌, ◌<◌, ◌≤◌, List, [], length}
use Rattle.base.specs.Put.{padded}
use Rattle.semilinear.specs.Form.{Row}
use Rattle.semilinear.specs.Items.{atom_count, after_atoms}
use Rattle.semilinear.specs.DecodeForm.{rows_of, decode_form}
use Rattle.bit_partitioner.specs.declared.places.Places.{Places}
use Rattle.partition_laws.specs.Partition.{profile_from, classes_f, classes_of, class_words}
use Rattle.partition_laws.specs.Classes.{class_number, ClassesIn}
use Rattle.profile.specs.declared.index.AtomFacts.{AtomFacts}
use Rattle.profile.specs.Index.{atom_trees, AtomsValid, AtomsIndexed}
use Rattle.base.specs.Limits.{column_words}

-- the rows of the atoms and terms f
abbrev pub form_rows : List ℕ → List Row
form_rows f = rows_of 0 f (after_atoms f)

-- the places below p are in their classes; the profile and the class are those of the last of them
pub record PlacesJoined (f : List ℕ) (w : ℕ) (x : Places) (p : ℕ) (profile out : List ℕ) : Type 0 where
  pub long : length profile ≡ length (atom_trees f)
  pub classes : ClassesIn (length profile) out x.count (classes_f p w (form_rows f))
  pub last : 0 < p → profile ≡ profile_from w (p - 1) 0 (form_rows f)
  pub class : 0 < p → x.class ≡ class_number profile (classes_f p w (form_rows f))

-- what joining a place asks: the index of one atom or more, and room for a class of each place
pub record PlacesRoom (f : List ℕ) (index : List AtomFacts) (edges w : ℕ) (profile out : List ℕ) : Type 0 where
  pub indexed : AtomsIndexed f index edges
  pub some : 0 < length (atom_trees f)
  pub width_le : w ≤ 64
  pub room : 64 * (length profile + 1) ≤ length out

-- what `partition_atoms` asks: one atom or more, and a place of the index and a word of the profile for each
pub record AtomsRoom (f : List ℕ) (w : ℕ) (index : List AtomFacts) (profile out : List ℕ) : Type 0 where
  pub atoms : AtomsValid f
  pub some : 0 < atom_count f
  pub entries : atom_count f ≤ length index
  pub long : length profile ≡ atom_count f
  pub width_le : w ≤ 64
  pub room : 64 * (atom_count f + 1) ≤ length out
  pub zeros : out ≡ padded (length out) []

-- what partitioning n atoms, at most so many, asks
pub record FewAtoms (most n : ℕ) (f : List ℕ) (w : ℕ) (out : List ℕ) : Type 0 where
  pub atoms : AtomsValid f
  pub count : n ≡ atom_count f
  pub some : 0 < n
  pub few : n ≤ most
  pub width_le : w ≤ 64
  pub room : 64 * (n + 1) ≤ length out
  pub zeros : out ≡ padded (length out) []

-- place p is in its class too
pub record PlacedNext (f : List ℕ) (w p : ℕ) (y : Places) (profile before after : List ℕ) : Type 0 where
  pub long : length after ≡ length before
  pub placed : PlacesJoined f w y (p + 1) profile after

-- all places of w are: the words of their classes, and how many there are
pub record AllPlaced (f : List ℕ) (w : ℕ) (before after : List ℕ) (count : ℕ) : Type 0 where
  pub number : count ≡ length (classes_f w w (form_rows f))
  pub words : after ≡ padded (length before) (class_words (classes_f w w (form_rows f)))

-- the classes of the form s are in the words, and r says how many there are
pub record FormPlaced (s out : List ℕ) (r : ℕ) : Type 0 where
  pub number : r ≡ length (classes_of (decode_form s))
  pub words : out ≡ padded column_words (class_words (classes_of (decode_form s)))
