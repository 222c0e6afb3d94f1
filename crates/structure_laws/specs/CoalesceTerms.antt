-- Coalescing the terms of one variable by the coefficient of each bit (structure_recovery.rs 337-473). Differs from the
-- Rust in differences 3 and 4.
use Rattle.std.specs.Prelude.{ℕ, ◌-◌, ◌^◌, List, [], ◌∷◌, false, ◌||◌, length, eqb, ltb, leb}
use Rattle.base.specs.Choice.{when}
use Rattle.record.specs.Tree.{Tree}
use Rattle.group.specs.declared.Group.{Group}
use Rattle.semilinear.specs.Form.{Row, Form}
use Rattle.group.specs.Group.{used, empty_group}
use Rattle.made.specs.Rows.{create_masked, add_coeff}
use Rattle.views.specs.Grouping.{variable_basis, bases_of, ungrouped}
use Rattle.group.specs.Group.{group_of, settle}
use Rattle.base.specs.Outcome.{Outcome}
use Rattle.semilinear.specs.PassOutcome.{pass_outcome, limit_outcome}
use Rattle.structure_laws.specs.RecoverStructure.{row_with, with_bare}
use Rattle.structure_laws.specs.Carried.{Carried, carried_of}

-- the new terms: a new masked atom each, or the basis itself for all bits
unfoldable pub carried_rows : ℕ → Tree → List Carried → List Row → List Row
carried_rows w b [] rows = rows
carried_rows w b (x ∷ l) rows =
    when (eqb x.mask (2 ^ w - 1))
    (λ _. carried_rows w b l (add_coeff w x.coeff (row_with w b 0 rows) (with_bare w b rows)))
    (λ _. carried_rows w b l (add_coeff w x.coeff (length rows) (create_masked w b x.mask rows)))

-- a group of two or more is rewritten where that leaves strictly fewer terms
unfoldable pub coalesce_group : ℕ → Tree → Group → List Row → List Row
coalesce_group w b g rows =
    when (ltb g.len 2 || leb g.len (length (carried_of w (used g))))
    (λ _. settle w g rows) (λ _. carried_rows w b (carried_of w (used g)) rows)

unfoldable pub coalesce_all : ℕ → List Row → List Tree → List Row → List Row
coalesce_all w before [] rows = rows
coalesce_all w before (b ∷ l) rows =
    coalesce_all w before l (coalesce_group w b (group_of variable_basis w b 0 before empty_group) rows)

unfoldable pub coalesce_form : Form → Form
coalesce_form f =
    record {
      bitwidth = f.bitwidth;
      constant = f.constant;
      rows =
          coalesce_all f.bitwidth f.rows (bases_of variable_basis f.bitwidth f.rows [])
          (ungrouped variable_basis f.bitwidth f.rows);
    }

-- what `coalesce_terms` gives for the bytes s and a result slice of len bytes
unfoldable pub coalesce_terms : List ℕ → ℕ → Outcome
coalesce_terms = pass_outcome (λ f. limit_outcome (coalesce_form f) false)
