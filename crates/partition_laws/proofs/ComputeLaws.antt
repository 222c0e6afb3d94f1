-- What `compute_partitions` gives, by the first test that decides, and what its words say for an accepted form.
use mathlib.Core.Path.{◌≡◌, refl, sym, subst, ◌∙◌}
use Prim.Native.Nat.{ℕ}
use mathlib.Core.List.{List}
use mathlib.Core.Bool.{true, false}
use lib.ListN.{get_or}
use borrow.Author.Tests.{eq-eqb, ne_eqb}
use Rattle.record.specs.Tree.{IsBytes}
use Rattle.semilinear.specs.Valid.{length_refused, is_semilinear}
use Rattle.semilinear.specs.DecodeForm.{decode_form}
use Rattle.base.specs.Outcome.{Outcome, refused, numbers_of, written_of}
use Rattle.semilinear.proofs.AcceptLaws.{form_valid, length_accepted}
use Rattle.partition_laws.specs.Partition.{partitions_outcome, compute_partitions}
use Rattle.partition_laws.specs.Columns.{Columns}
use Rattle.partition_laws.proofs.ColumnsLaws.{columns}
use Rattle.partition_laws.proofs.RetiredLaws.{partitions_retired}

module _ (s : List ℕ) (len : ℕ) where
  pub partitions_length : length_refused s ≡ true → compute_partitions s len ≡ refused 1
  unfolding compute_partitions
  partitions_length e = simp e

  pub partitions_slice : length_refused s ≡ false → (len ≡ 16448 → ⊥) → compute_partitions s len ≡ refused 2
  unfolding compute_partitions
  partitions_slice e n = simp (e, ne_eqb len 16448 n)

  pub partitions_refused : length_refused s ≡ false → len ≡ 16448 → is_semilinear s ≡ false
      → compute_partitions s len ≡ refused 10
  unfolding compute_partitions
  partitions_refused e n z = simp (e, eq-eqb len 16448 n, z)

  pub partitions_accepted : length_refused s ≡ false → len ≡ 16448 → is_semilinear s ≡ true
      → compute_partitions s len ≡ partitions_outcome (decode_form s)
  unfolding compute_partitions
  partitions_accepted e n z = (simp (e, eq-eqb len 16448 n, z)) ∙ partitions_retired (decode_form s)

-- the whole result slice and the count returned have the columns of the form
abbrev pub GivesColumns : List ℕ → Outcome → Type 0
GivesColumns s o = Columns (decode_form s) (written_of 16448 o) (get_or (numbers_of 1 o) 0 0)

pub partitions_columns : (s : List ℕ) → IsBytes s → is_semilinear s ≡ true → GivesColumns s (compute_partitions s 16448)
unfolding numbers_of partitions_outcome
partitions_columns s h e =
    subst (GivesColumns s) (sym (partitions_accepted s 16448 (length_accepted s h e) refl e))
    (columns (decode_form s) (form_valid s h e) 16448)
