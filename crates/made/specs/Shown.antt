-- The table of a pass with the coefficients of its rows, which stand in words of their own.
use Rattle.made.specs.declared.Made.{Made}
use Rattle.std.specs.Prelude.{◌≡◌, ℕ, List, true}
use Rattle.base.specs.Put.{padded}
use Rattle.semilinear.specs.Form.{Row, fits_table}
use Rattle.atom_table.specs.Terms.{coeffs_of}
use Rattle.made.specs.Made.{Held}
use Rattle.base.specs.Limits.{atom_limit}

-- the words and bytes hold the rows l, and the coefficients are theirs where they keep the limits
pub record Shown (w : ℕ) (made : Made) (out coeffs : List ℕ) (l : List Row) : Type 0 where
  pub held : Held w made out l
  pub terms : fits_table l ≡ true → coeffs ≡ padded atom_limit (coeffs_of l)
