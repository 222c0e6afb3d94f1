-- How coalescing goes through the groups (src/lib.rt, coalesce/src/lib.rt): the coefficients with the bits that carry them
-- in two lent arrays, and what a turn makes of the table, the coefficients and the bytes, said for all rows that they
-- show.
use Rattle.made.specs.declared.Made.{Made}
use Rattle.std.specs.Prelude.{◌≡◌, ℕ, ◌+◌, ◌-◌, ◌^◌, ◌<◌, ◌≤◌, List, [], ◌∷◌, length, take, ◌==◌, slice_index, slice_index_or}
use Rattle.base.specs.Choice.{when}
use Rattle.record.specs.Tree.{Tree}
use Rattle.semilinear.specs.Form.{Row}
use Rattle.made.specs.Rows.{create_masked, add_coeff}
use Rattle.views.specs.Grouping.{variable_basis, bases_of, ungrouped}
use Rattle.made.specs.Made.{Room, Held, Makes}
use Rattle.structure_laws.specs.RecoverStructure.{row_with, with_bare}
use Rattle.structure_laws.specs.Carried.{Carried}
use Rattle.structure_laws.specs.CoalesceTerms.{coalesce_all}
use Rattle.bare.specs.Showing.{Shows}
use Rattle.base.specs.Limits.{atom_limit}

-- ---- the two arrays

unfoldable pub pairs : List ℕ → List ℕ → List Carried
pairs [] bits = []
pairs (c ∷ l) [] = []
pairs (c ∷ l) (m ∷ bits) = record { coeff = c; mask = m } ∷ pairs l bits

-- the first n of both
unfoldable pub carried_in : ℕ → List ℕ → List ℕ → List Carried
carried_in n carried bits = pairs (take n carried) (take n bits)

-- the bit p can be joined to the first `count`: there is room for one more, and their bits are below p
pub record CarryReady (p count : ℕ) (carried bits : List ℕ) : Type 0 where
  pub place : p < 64
  pub carried_room : count < length carried
  pub bits_room : count < length bits
  pub below : (k : ℕ) → k < count → slice_index bits k < 2 ^ p

-- room in both for what all bits carry
pub record CarriedReady (w : ℕ) (carried bits : List ℕ) : Type 0 where
  pub width : w ≤ 64
  pub carried_long : length carried ≡ 64
  pub bits_long : length bits ≡ 64

-- the first r of both are now l
pub record IsCarried (l : List Carried) (carried bits carried' bits' : List ℕ) (r : ℕ) : Type 0 where
  pub count : r ≡ length l
  pub are : carried_in r carried' bits' ≡ l
  pub long : length carried' ≡ length carried
  pub wide : length bits' ≡ length bits

-- ---- the table

-- atoms over the basis b can be made for the first `count` of both arrays
pub record PutReady (w count hash : ℕ) (carried bits b : List ℕ) (made : Made) (out : List ℕ) : Type 0 where
  pub makes : Makes w count hash b made out
  pub carried_room : count ≤ length carried
  pub bits_room : count ≤ length bits

-- one new term: c with the bits m
unfoldable pub carried_row : ℕ → Tree → ℕ → ℕ → List Row → List Row
carried_row w b c m rows =
    when (m == 2 ^ w - 1) (λ _. add_coeff w c (row_with w b 0 rows) (with_bare w b rows))
    (λ _. add_coeff w c (length rows) (create_masked w b m rows))

-- a turn: F on the rows, of which there are m or more, and at most n more then
pub record Coalesced (w m n : ℕ) (F : List Row → List Row) (made : Made) (out coeffs : List ℕ) (made' : Made) (out' coeffs' : List ℕ) : Type 0 where
  pub room : Room made' out'
  pub rows_le : made'.rows ≤ made.rows + n
  pub long : length out' ≡ length out
  pub wide : length coeffs' ≡ length coeffs
  pub shows : (l : List Row) → m ≤ length l → Shows w made out coeffs l → Shows w made' out' coeffs' (F l)

-- the rows of a form coalesced, for a table that holds them
pub record RowsCoalesced (w : ℕ) (rows : List Row) (made : Made) (out : List ℕ) (made' : Made) (out' coeffs' : List ℕ) : Type 0 where
  pub room : Room made' out'
  pub long : length out' ≡ length out
  pub wide : length coeffs' ≡ atom_limit
  pub shows : Held w made out rows
      → Shows w made' out' coeffs'
      (coalesce_all w rows (bases_of variable_basis w rows []) (ungrouped variable_basis w rows))
