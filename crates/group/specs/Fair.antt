-- What a pass made of a group beside the rows that it began with.
use Rattle.std.specs.Prelude.{◌≡◌, ℕ, ◌<◌, List, true, length}
use Rattle.base.specs.Put.{padded}
use Rattle.semilinear.specs.Form.{Row, fits_table}
use Rattle.atom_table.specs.Terms.{coeffs_of}
use Rattle.group.specs.declared.Group.{Group}
use Rattle.group.specs.Group.{at, is_live}
use Rattle.base.specs.Limits.{atom_limit}

-- what a pass made of a group beside the rows l: rows without a term are added, live entries have atoms of the table
pub record Fair (l : List Row) (g : Group) (rows : List Row) : Type 0 where
  pub fits : fits_table rows ≡ true → fits_table l ≡ true
  pub coeffs : fits_table rows ≡ true → padded atom_limit (coeffs_of rows) ≡ padded atom_limit (coeffs_of l)
  pub atoms : (i : ℕ) → i < g.len → is_live (at g i) ≡ true → (at g i).atom < length rows
