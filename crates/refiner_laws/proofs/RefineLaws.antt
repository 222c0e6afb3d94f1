-- Laws of specs/RefineTerms.antt: refining a group keeps the sum of its live entries modulo 2 ^ w, and what else
-- `KeptWork` says.
use mathlib.Core.Path.{◌≡◌}
use Prim.Native.Nat.{ℕ, ◌≤◌}
use mathlib.Core.List.{List}
use mathlib.Core.Bool.{true}
use Rattle.record.specs.Tree.{Tree}
use Rattle.group.specs.declared.Group.{Group}
use Rattle.semilinear.specs.Form.{Row, is_atom_tree}
use Rattle.group.specs.Group.{Work, work, on_group}
use Rattle.group.specs.Steps.{cut_masks, drop_zero, bucket_merge, pair_merge, to_minus_one}
use Rattle.refiner_laws.specs.RefineTerms.{refine_group}
use Rattle.refiner_laws.proofs.KeptLaws.{KeptWork}
use Rattle.refiner_laws.proofs.StepsLaws.{cut_masks_keep, drop_zero_keeps, minus_one_keeps}
use Rattle.refiner_laws.proofs.MergeLaws.{bucket_keeps, pair_merge_keeps}
use Rattle.refiner_laws.proofs.CollapseLaws.{three_term_keeps}

module _ (w : ℕ) (hw : w ≤ 64) (vars : List ℕ) (b : Tree) (hb : is_atom_tree b ≡ true) (g0 : Group)
    (rows0 : List Row) where
  pub refine_keeps : (x : Work) → KeptWork w vars b g0 rows0 x → KeptWork w vars b g0 rows0 (refine_group w b x)
  unfolding refine_group on_group work
  refine_keeps x h =
      let cut : Work = cut_masks w b x in
      let merged : Work = pair_merge w b (bucket_merge w b (work (drop_zero w cut.group) cut.rows)) in
      three_term_keeps w hw vars b hb g0 rows0 _
      (pair_merge_keeps w hw vars b hb g0 rows0 (work (to_minus_one w merged.group) merged.rows)
      (minus_one_keeps w hw vars b hb g0 rows0 merged.group merged.rows
      (pair_merge_keeps w hw vars b hb g0 rows0 _
      (bucket_keeps w hw vars b hb g0 rows0 _
      (drop_zero_keeps w hw vars b hb g0 rows0 cut.group cut.rows
      (cut_masks_keep w hw vars b hb g0 rows0 x h))))))
