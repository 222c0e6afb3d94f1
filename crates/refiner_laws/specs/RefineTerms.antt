-- Refining the terms of a semilinear form (term_refiner.rs 187-374). Differs from the Rust in differences 1, 3 and 4.
use Rattle.std.specs.Prelude.{ℕ, List, [], ◌∷◌, false}
use Rattle.record.specs.Tree.{Tree}
use Rattle.semilinear.specs.Form.{Row, Form}
use Rattle.group.specs.Group.{Work, work, on_group, empty_group, group_of, settle}
use Rattle.views.specs.Grouping.{any_basis, bases_of, ungrouped}
use Rattle.base.specs.Outcome.{Outcome}
use Rattle.semilinear.specs.PassOutcome.{pass_outcome, limit_outcome}
use Rattle.group.specs.Steps.{cut_masks, drop_zero, bucket_merge, pair_merge, to_minus_one}
use Rattle.group.specs.Collapse.{three_term_collapse}

-- the steps in the Rust's order; the second pair merge follows the change of coefficients (187-292)
unfoldable pub refine_group : ℕ → Tree → Work → Work
refine_group w b x =
    let cut : Work = cut_masks w b x in
    let dropped : Work = on_group (drop_zero w) cut in
    let bucketed : Work = bucket_merge w b dropped in
    let paired : Work = pair_merge w b bucketed in
    let minus : Work = on_group (to_minus_one w) paired in
    let again : Work = pair_merge w b minus in
    three_term_collapse w b again

-- the groups in turn; a group is read off the form as it was, and its atoms and terms go to the table
unfoldable pub refine_all : ℕ → List Row → List Tree → List Row → List Row
refine_all w before [] rows = rows
refine_all w before (b ∷ l) rows =
    refine_all w before l (settled (refine_group w b (work (group_of any_basis w b 0 before empty_group) rows)))
  where
    settled : Work → List Row
    settled x = settle w x.group x.rows

unfoldable pub refine_form : Form → Form
refine_form f =
    record {
      bitwidth = f.bitwidth;
      constant = f.constant;
      rows =
          refine_all f.bitwidth f.rows (bases_of any_basis f.bitwidth f.rows [])
          (ungrouped any_basis f.bitwidth f.rows);
    }

-- what `refine_terms` gives for the bytes s and a result slice of len bytes
unfoldable pub refine_terms : List ℕ → ℕ → Outcome
refine_terms = pass_outcome (λ f. limit_outcome (refine_form f) false)
