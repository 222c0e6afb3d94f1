-- The classes of places at which every atom has the same table, their words, and what the entry point gives
-- (document 01, "Hint columns"; bit_partitioner.rs 105-153). Difference 4: the classes stand by their lowest place.
use Rattle.std.specs.Prelude.{ℕ, zero, suc, ◌+◌, ◌^◌, List, [], ◌∷◌, ◌++◌, Bool, ◌||◌, length, eqb, ltb}
use Rattle.std.specs.Int.Bits.{bit_or}
use Rattle.base.specs.Choice.{when}
use Rattle.base.specs.Lists.{eq_list}
use Rattle.record.specs.Tree.{Tree}
use Rattle.expr.specs.Vars.{support}
use Rattle.truth.specs.Truth.{has_shift, table}
use Rattle.semilinear.specs.Form.{Row, Form}
use Rattle.base.specs.Outcome.{Outcome, accepted}
use Rattle.semilinear.specs.PassOutcome.{read_outcome}
use Rattle.base.specs.Limits.{column_words}

-- the most variables of an atom whose profile word is its table
abbrev pub column_vars : ℕ
column_vars = 5

-- the atom's profile word says nothing of its bits: too many variables, or a shift (lines 98-103 and 115-132)
unfoldable pub is_opaque : Tree → Bool
is_opaque t = ltb column_vars (length (support t)) || has_shift t

-- the profile word of the opaque atom i
unfoldable pub opaque_word : ℕ → ℕ
opaque_word i = bit_or 0xDEAD_0000_0000_0000 i

-- the profile word of atom i, with the tree t, at place p of w
unfoldable pub profile_word : ℕ → ℕ → ℕ → Tree → ℕ
profile_word w p i t = when (is_opaque t) (λ _. opaque_word i) (λ _. table w p (support t) (length (support t)) t)

-- the profile at place p: a word for each atom of the rows, numbered from i, used or not
unfoldable pub profile_from : ℕ → ℕ → ℕ → List Row → List ℕ
profile_from w p i [] = []
profile_from w p i (x ∷ l) = profile_word w p i x.tree ∷ profile_from w p (i + 1) l

-- places as the bits of a mask, and the profile that they have
pub record PartitionClass : Type 0 where
  pub mask : ℕ
  pub profile : List ℕ

-- place p, with the profile q, in the class of this profile, or in one of its own after the last
unfoldable pub join_class : ℕ → List ℕ → List PartitionClass → List PartitionClass
join_class p q [] = record { mask = 2 ^ p; profile = q } ∷ []
join_class p q (x ∷ l) =
    when (eq_list x.profile q) (λ _. record { mask = bit_or x.mask (2 ^ p); profile = x.profile } ∷ l)
    (λ _. x ∷ join_class p q l)

-- the classes of the n low places of w
unfoldable pub classes_f : ℕ → ℕ → List Row → List PartitionClass
classes_f zero w rows = []
classes_f (suc p) w rows = join_class p (profile_from w p 0 rows) (classes_f p w rows)

-- the classes of a form; none without atoms
unfoldable pub classes_of : Form → List PartitionClass
classes_of f = when (eqb (length f.rows) 0) (λ _. []) (λ _. classes_f f.bitwidth f.bitwidth f.rows)

-- the words of classes: for each its mask, then its profile
unfoldable pub class_words : List PartitionClass → List ℕ
class_words [] = []
class_words (x ∷ l) = (x.mask ∷ x.profile) ++ class_words l

-- what `compute_partitions` gives for a form: the words and the count of classes
unfoldable pub partitions_outcome : Form → Outcome
partitions_outcome f = accepted (class_words (classes_of f)) (length (classes_of f) ∷ [])

-- for the bytes s and a result slice of len words
unfoldable pub compute_partitions : List ℕ → ℕ → Outcome
compute_partitions = read_outcome column_words partitions_outcome
