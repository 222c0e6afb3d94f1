-- Rows that a pass adds, and what is added to their coefficients (term_refiner.rs 73-83).
use Rattle.std.specs.Prelude.{ℕ, zero, suc, ◌+◌, ◌-◌, ◌^◌, List, [], ◌∷◌, ◌++◌, eqb}
use Rattle.arith.specs.Width.{mod_add}
use Rattle.base.specs.Choice.{when}
use Rattle.record.specs.Tree.{Tree}
use Rattle.record.specs.Tree.Tree.{Constant, Binary}
use Rattle.semilinear.specs.Form.{Row, new_row}

-- `create_atom`: a row more, without a term; its number is the count of rows before
unfoldable pub create_row : Tree → List Row → List Row
create_row t rows = rows ++ (new_row t 0 ∷ [])

-- basis & mask, or the basis alone under the full mask
unfoldable pub masked_tree : ℕ → Tree → ℕ → Tree
masked_tree w b m = when (eqb m (2 ^ w - 1)) (λ _. b) (λ _. Binary 4 b (Constant m))

-- `create_masked_atom` (term_refiner.rs 73-83)
unfoldable pub create_masked : ℕ → Tree → ℕ → List Row → List Row
create_masked w b m rows = create_row (masked_tree w b m) rows

-- c added to the coefficient of row j
unfoldable pub add_coeff : ℕ → ℕ → ℕ → List Row → List Row
add_coeff w c j [] = []
add_coeff w c zero (x ∷ l) =
    record { provenance = x.provenance; tree = x.tree; coeff = mod_add x.coeff c w } ∷ l
add_coeff w c (suc j) (x ∷ l) = x ∷ add_coeff w c j l
