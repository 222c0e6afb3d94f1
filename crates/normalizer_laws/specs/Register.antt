-- The atom table of the normaliser (semilinear_normalizer.rs 235-282, `register_atom`). A new row says no provenance
-- (ticket #107). Difference 1: sharing by hash needs equal trees; the published Rust asks for it too and keeps one slot
-- for each (hash, variables), that of the newest atom.
use Rattle.std.specs.Prelude.{ℕ, zero, suc, ◌+◌, List, [], ◌∷◌, Bool, false, ◌&&◌, length, eqb}
use Rattle.arith.specs.Width.{mod_add}
use Rattle.base.specs.Choice.{when}
use Rattle.record.specs.Tree.{Tree}
use Rattle.expr.specs.Vars.{same_vars}
use Rattle.expr.specs.Hash.{structural_hash}
use Rattle.truth.specs.Key.{same_table}
use Rattle.semilinear.specs.Form.{Row, new_row, eq_tree}
use Rattle.normalizer_laws.specs.Collect.{Emitted}

-- the same hash and the same variables
unfoldable pub same_slot : Tree → Tree → Bool
same_slot t u = eqb (structural_hash t) (structural_hash u) && same_vars t u

-- the number of the newest row that passes a test, in rows numbered from i; `none` where no row does
unfoldable pub newest_row : (Row → Bool) → ℕ → List Row → ℕ → ℕ
newest_row test i [] none = none
newest_row test i (x ∷ l) none = newest_row test (i + 1) l (when (test x) (λ _. i) (λ _. none))

-- the number of the first row that passes a test; the number after the last where no row does
unfoldable pub first_row : (Row → Bool) → ℕ → List Row → ℕ
first_row test i [] = i
first_row test i (x ∷ l) = when (test x) (λ _. i) (λ _. first_row test (i + 1) l)

-- row j has the tree t
unfoldable pub has_tree : ℕ → Tree → ℕ → List Row → Bool
has_tree w t j [] = false
has_tree w t zero (x ∷ l) = eq_tree w x.tree t
has_tree w t (suc j) (x ∷ l) = has_tree w t j l

-- the row that the tree t shares: the newest of the same hash and variables where it has this very tree, else the first
-- with the same table; the number after the last where it shares none
unfoldable pub shared_row : ℕ → Tree → List Row → ℕ
shared_row w t rows =
    when (has_tree w t (newest_row (λ x. same_slot x.tree t) 0 rows (length rows)) rows)
    (λ _. newest_row (λ x. same_slot x.tree t) 0 rows (length rows))
    (λ _. first_row (λ x. same_table x.tree t) 0 rows)

-- the coefficient of `new` added to row j, or `new` as a row after the last
unfoldable pub add_row : ℕ → Row → ℕ → List Row → List Row
add_row w new j [] = new ∷ []
add_row w new zero (x ∷ l) =
    record { provenance = x.provenance; tree = x.tree; coeff = mod_add x.coeff new.coeff w } ∷ l
add_row w new (suc j) (x ∷ l) = x ∷ add_row w new j l

-- one atom: added to the row that it shares, or a row more
unfoldable pub register_atom : ℕ → Emitted → List Row → List Row
register_atom w e rows = add_row w (new_row e.tree e.coeff) (shared_row w e.tree rows) rows

-- all that was emitted, in order
unfoldable pub register_all : ℕ → List Emitted → List Row → List Row
register_all w [] rows = rows
register_all w (e ∷ l) rows = register_all w l (register_atom w e rows)
