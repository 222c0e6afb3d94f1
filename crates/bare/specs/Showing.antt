-- The table of a pass that finds the number of an atom by a search: where the table is full, all that is said of its rows is that
-- they pass a limit, since the search does not see the rows that had no room.
use Rattle.made.specs.declared.Made.{Made}
use Rattle.std.specs.Prelude.{◌≡◌, ℕ, List, true, false, length}
use Rattle.record.specs.Tree.{Tree}
use Rattle.semilinear.specs.Form.{Row, fits_table}
use Rattle.made.specs.Made.{Room, Later, Held}
use Rattle.made.specs.Shown.{Shown}
use Rattle.structure_laws.specs.RecoverStructure.{row_with, with_bare}

-- the words, bytes and coefficients show the rows l, or the table is full and they pass a limit
pub record Shows (w : ℕ) (made : Made) (out coeffs : List ℕ) (l : List Row) : Type 0 where
  pub shown : made.table.full ≡ false → Shown w made out coeffs l
  pub past : made.table.full ≡ true → fits_table l ≡ false

-- r is the number of the first row with the tree t, which has one now
pub record BareFound (w : ℕ) (t : Tree) (r : ℕ) (made : Made) (out : List ℕ) (made' : Made) (out' : List ℕ) : Type 0 where
  pub room : Room made' out'
  pub later : Later 1 made made'
  pub long : length out' ≡ length out
  pub held : made.table.full ≡ false → (l : List Row) → Held w made out l → Held w made' out' (with_bare w t l)
  pub found : made.table.full ≡ false → (l : List Row) → Held w made out l → r ≡ row_with w t 0 l
