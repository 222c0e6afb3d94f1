-- The sums by which code judges: at one place, the coefficients of the atoms that have bit 1 there, for each index.
use Rattle.std.specs.Prelude.{◌≡◌, ℕ, ◌+◌, ◌*◌, List, [], ◌∷◌, false}
use Rattle.truth.specs.Truth.{shifts_var, bit_of, row_bits}
use Rattle.semilinear.specs.Form.{Row}

-- at place p of w and index i of the variables vs
unfoldable pub place_sum : ℕ → ℕ → List ℕ → ℕ → List Row → ℕ
place_sum w p vs i [] = 0
place_sum w p vs i (x ∷ l) = x.coeff * bit_of w p (row_bits 0 vs i) x.tree + place_sum w p vs i l

-- no row's tree has a non-zero shift over a variable
unfoldable pub RowsUnshifted : List Row → Type 0
RowsUnshifted [] = Unit {0}
RowsUnshifted (x ∷ l) = (shifts_var x.tree ≡ false) × RowsUnshifted l
