-- Laws of the classes of a form: what they are, how many, and how many words they have.
use mathlib.Core.Path.{◌≡◌, ap, ◌∙◌}
use Prim.Native.Nat.{ℕ, ◌+◌, ◌*◌, ◌≤◌, ◌<◌}
use native.Mathlib.Omega.{arith}
use native.Mathlib.Decide.{ℕ_discrete}
use mathlib.Core.List.{List, []}
use lib.ListN.{length}
use borrow.Author.Tests.{ne_eqb, eq-eqb}
use Rattle.semilinear.specs.Form.{Form}
use Rattle.partition_laws.specs.Partition.{PartitionClass, classes_f, classes_of, class_words}
use Rattle.partition_laws.specs.Classes.{EachClass, HasWords}
use Rattle.partition_laws.proofs.PartitionLaws.{Class, each_map}
use Rattle.partition_laws.proofs.PartitionLaws.{profiles, classes_each, classes_length}
use Rattle.partition_laws.proofs.ProfileLaws.{profile_length}
use Rattle.partition_laws.proofs.ProfileLaws.{class_words_length}

pub classes_none : (f : Form) → length f.rows ≡ 0 → classes_of f ≡ []
unfolding classes_of
classes_none f e = simp (eq-eqb (length f.rows) 0 e)

pub classes_some : (f : Form) → 0 < length f.rows → classes_of f ≡ classes_f f.bitwidth f.bitwidth f.rows
unfolding classes_of
classes_some f h = simp (ne_eqb (length f.rows) 0 (omega arith))

module _ (f : Form) (P : List PartitionClass → Type 0) (none : P [])
    (some : P (classes_f f.bitwidth f.bitwidth f.rows)) where
  pub classes_either : P (classes_of f)
  classes_either = go (ℕ_discrete (length f.rows) 0)
    where
      go : Dec (length f.rows ≡ 0) → P (classes_of f)
      go (yes e) = rw (classes_none f e) none
      go (no d) = rw (classes_some f (omega arith)) some

module _ (f : Form) where
  -- how many classes, and how many atoms
  abbrev pub count : ℕ
  count = length (classes_of f)

  abbrev pub atoms : ℕ
  atoms = length f.rows

  abbrev pub IsClass : PartitionClass → Type 0
  IsClass = Class (profiles f.bitwidth f.rows) f.bitwidth

  pub classes_ok : EachClass IsClass (classes_of f)
  unfolding EachClass
  classes_ok = classes_either f (EachClass IsClass) tt (classes_each f.bitwidth f.rows f.bitwidth)

  pub classes_words : EachClass (HasWords atoms) (classes_of f)
  classes_words =
      each_map IsClass (HasWords atoms)
      (λ x c. ap length (c.own c.some c.some_there) ∙ profile_length f.bitwidth c.some 0 f.rows)
      (classes_of f) classes_ok

  -- there are at most as many classes as places
  pub columns_count : count ≤ f.bitwidth
  columns_count =
      classes_either f (λ l. length l ≤ f.bitwidth) (omega arith)
      (classes_length f.bitwidth f.rows f.bitwidth)

  pub columns_length : length (class_words (classes_of f)) ≡ count * (atoms + 1)
  columns_length = class_words_length atoms (classes_of f) classes_words
