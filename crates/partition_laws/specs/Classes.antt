-- The words of classes as the code reads and writes them: for each class its mask, then its profile of n words, and
-- zeros behind the last class.
use Rattle.std.specs.Prelude.{◌≡◌, ℕ, ◌+◌, ◌*◌, ◌^◌, ◌≤◌, List, [], ◌∷◌, Bool, length, get_or, take, drop, set, eqb}
use Rattle.std.specs.Int.Bits.{bit_or}
use Rattle.base.specs.Choice.{when}
use Rattle.base.specs.Lists.{eq_list}
use Rattle.base.specs.Put.{padded}
use Rattle.partition_laws.specs.Partition.{PartitionClass, join_class, class_words}

-- each class of a list is one that P holds of
unfoldable pub EachClass : (PartitionClass → Type 0) → List PartitionClass → Type 0
EachClass P [] = Unit {0}
EachClass P (x ∷ l) = P x × EachClass P l

-- the class has a profile of n words
abbrev pub HasWords : ℕ → PartitionClass → Type 0
HasWords n x = length x.profile ≡ n

-- the number of the first class with the profile q, or how many classes there are
unfoldable pub class_number : List ℕ → List PartitionClass → ℕ
class_number q [] = 0
class_number q (x ∷ l) = when (eq_list x.profile q) (λ _. 0) (λ _. class_number q l + 1)

-- class j of the words has the profile q
abbrev pub has_profile : List ℕ → List ℕ → ℕ → Bool
has_profile out q j = eq_list (take (length q) (drop (j * (length q + 1) + 1) out)) q

-- place p is put into the mask at index `at`
unfoldable pub add_place : ℕ → ℕ → List ℕ → List ℕ
add_place at p out = set out at (bit_or (get_or out at 0) (2 ^ p))

-- the words are those of the k classes l, whose profiles have n words
pub record ClassesIn (n : ℕ) (out : List ℕ) (k : ℕ) (l : List PartitionClass) : Type 0 where
  pub count : k ≡ length l
  pub each : EachClass (HasWords n) l
  pub words : out ≡ padded (length out) (class_words l)

-- how many classes there are after a place joined class r of k: one more where it is a new one
unfoldable pub count_after : ℕ → ℕ → ℕ
count_after k r = when (eqb r k) (λ _. k + 1) (λ _. k)

-- place p, with the profile q, was joined to the k classes of the words: its class is r. Said of all classes that the
-- words are those of.
pub record Joins (p : ℕ) (q before : List ℕ) (k : ℕ) (after : List ℕ) (r : ℕ) : Type 0 where
  pub class_le : r ≤ k
  pub long : length after ≡ length before
  pub classes : (l : List PartitionClass) → ClassesIn (length q) before k l
      → ClassesIn (length q) after (count_after k r) (join_class p q l)
  pub class : (l : List PartitionClass) → ClassesIn (length q) before k l → r ≡ class_number q l
