-- Flattening the atoms of one variable (structure_recovery.rs 478-566): f(0), and the bits that the variable passes or
-- inverts. No difference from the Rust can show: only whether an atom has a mask is asked, not which.
use Rattle.std.specs.Prelude.{ℕ, ◌-◌, ◌^◌, List, [], ◌∷◌, ◌++◌, Bool, true, false, not, ◌&&◌, length, replicate, eqb}
use Rattle.std.specs.Int.Bits.{bit_and}
use Rattle.arith.specs.Width.{mod_add, mod_mul, mod_neg}
use Rattle.base.specs.Choice.{when}
use Rattle.record.specs.Tree.{Tree}
use Rattle.record.specs.Tree.Tree.{Variable}
use Rattle.expr_utils.specs.Utils.{has_shr}
use Rattle.expr.specs.Vars.{next_var, support}
use Rattle.expr.specs.Value.{value}
use Rattle.semilinear.specs.Form.{Row, Form, new_row}
use Rattle.decompose.specs.Decompose.{Decomposed, no_basis, masked, decompose_atom}
use Rattle.views.specs.Grouping.{variable_basis}
use Rattle.made.specs.Rows.{masked_tree}
use Rattle.base.specs.Outcome.{Outcome}
use Rattle.semilinear.specs.PassOutcome.{pass_outcome, limit_outcome}

-- a variable, or a variable under a mask
unfoldable pub is_plain : ℕ → Tree → Bool
is_plain w t = plain_view (decompose_atom w t)
  where
    plain_view : Decomposed → Bool
    plain_view no_basis = false
    plain_view (masked b m) = variable_basis b

-- the row has a term, and an atom of one variable that is neither plain nor has a Shr
unfoldable pub is_complex : ℕ → Row → Bool
is_complex w x =
    not (eqb x.coeff 0)
    && (not (is_plain w x.tree) && (eqb (length (support x.tree)) 1 && not (has_shr x.tree)))

-- the value where variable v has all bits 0, and all bits 1
unfoldable pub at_zero : ℕ → Tree → ℕ
at_zero w t = value w [] t

unfoldable pub at_ones : ℕ → ℕ → Tree → ℕ
at_ones w v t = value w (replicate v 0 ++ ((2 ^ w - 1) ∷ [])) t

-- the form that is being made: the table with new rows behind, the constant, and whether an atom was flattened
pub record Flat : Type 0 where
  pub added : List Row
  pub constant : ℕ
  pub flag : Bool

-- a new row for the bits m of variable v, unless there are none
unfoldable pub flat_row : ℕ → ℕ → ℕ → ℕ → List Row → List Row
flat_row w v m c l =
    when (eqb m 0) (λ _. l)
    (λ _. l ++ (new_row (masked_tree w (Variable v) m) c ∷ []))

-- the bits passed before the bits inverted
unfoldable pub flatten_row : ℕ → Row → Flat → Flat
flatten_row w x s =
    when (is_complex w x)
    (λ _. record {
      added =
          flat_row w v (bit_and zeroed (2 ^ w - 1 - raised)) (mod_neg x.coeff w)
          (flat_row w v (bit_and raised (2 ^ w - 1 - zeroed)) x.coeff s.added);
      constant = mod_add s.constant (mod_mul x.coeff zeroed w) w;
      flag = true;
    })
    (λ _. s)
  where
    v : ℕ
    v = next_var 0 x.tree

    zeroed : ℕ
    zeroed = at_zero w x.tree

    raised : ℕ
    raised = at_ones w (next_var 0 x.tree) x.tree

unfoldable pub flatten_rows : ℕ → List Row → Flat → Flat
flatten_rows w [] s = s
flatten_rows w (x ∷ l) s = flatten_rows w l (flatten_row w x s)

-- the old rows, without the terms of those that were flattened
unfoldable pub kept_rows : ℕ → List Row → List Row
kept_rows w [] = []
kept_rows w (x ∷ l) =
    when (is_complex w x) (λ _. record { provenance = x.provenance; tree = x.tree; coeff = 0 } ∷ kept_rows w l)
    (λ _. x ∷ kept_rows w l)

unfoldable pub flattened : Form → Flat
flattened f = flatten_rows f.bitwidth f.rows (record { added = []; constant = f.constant; flag = false })

unfoldable pub flatten_form : Form → Form
flatten_form f =
    record {
      bitwidth = f.bitwidth;
      constant = (flattened f).constant;
      rows = kept_rows f.bitwidth f.rows ++ (flattened f).added;
    }

-- what `flatten_complex_atoms` gives for the bytes s and a result slice of len bytes, with its flag
unfoldable pub flatten_complex_atoms : List ℕ → ℕ → Outcome
flatten_complex_atoms = pass_outcome (λ f. limit_outcome (flatten_form f) (flattened f).flag)
