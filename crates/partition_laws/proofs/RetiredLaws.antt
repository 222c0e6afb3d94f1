-- The classes of a form say nothing of byte 1 of its heads: they are those of the form that is read with new heads
-- (semilinear/specs/DecodeForm.antt, ticket #107).
use mathlib.Core.Path.{◌≡◌, refl, ap}
use Prim.Native.Nat.{ℕ, zero, suc, ◌+◌}
use mathlib.Core.List.{List, [], ◌∷◌}
use lib.ListN.{length}
use Rattle.base.specs.Outcome.{accepted}
use Rattle.semilinear.specs.Form.{Row, Form}
use Rattle.semilinear.specs.DecodeForm.{retired_rows, retired}
use Rattle.semilinear.proofs.RetiredLaws.{length_retired}
use Rattle.partition_laws.specs.Partition.{PartitionClass, profile_from, classes_f, classes_of, class_words}
use Rattle.partition_laws.specs.Partition.{partitions_outcome}

profile_retired : (w p i : ℕ) (l : List Row) → profile_from w p i (retired_rows l) ≡ profile_from w p i l
unfolding profile_from retired_rows
profile_retired w p i [] = refl
profile_retired w p i (x ∷ l) = rw (profile_retired w p (i + 1) l)

places_retired : (n w : ℕ) (l : List Row) → classes_f n w (retired_rows l) ≡ classes_f n w l
unfolding classes_f
places_retired zero w l = refl
places_retired (suc p) w l = rw (profile_retired w p 0 l, places_retired p w l)

classes_retired : (f : Form) → classes_of (retired f) ≡ classes_of f
unfolding classes_of
classes_retired f = rw (length_retired f.rows, places_retired f.bitwidth f.bitwidth f.rows)

-- the same columns
pub partitions_retired : (f : Form) → partitions_outcome (retired f) ≡ partitions_outcome f
unfolding partitions_outcome
partitions_retired f =
    ap (λ (l : List PartitionClass). accepted (class_words l) (length l ∷ [])) (classes_retired f)
