-- How refining goes through the groups (term_refiner): what a turn makes of the table, of the words with the coefficients
-- and of the bytes, said for all rows that they show.
use Rattle.made.specs.declared.Made.{Made}
use Rattle.std.specs.Prelude.{◌≡◌, ℕ, List, [], length}
use Rattle.record.specs.Tree.{Tree}
use Rattle.semilinear.specs.Form.{Row}
use Rattle.group.specs.declared.Group.{Group}
use Rattle.group.specs.Group.{Work, work, empty_group, group_of, settle}
use Rattle.views.specs.Grouping.{any_basis, bases_of, ungrouped}
use Rattle.made.specs.Made.{Room, Later, Held}
use Rattle.made.specs.Shown.{Shown}
use Rattle.group.specs.Fair.{Fair}
use Rattle.group.specs.Turns.{EachAllowed}
use Rattle.refiner_laws.specs.RefineTerms.{refine_group, refine_all}
use Rattle.base.specs.Limits.{atom_limit}

-- what refining a group makes of the rows l is fair
abbrev pub FairWork : List Row → Work → Type 0
FairWork l x = Fair l x.group x.rows

-- the rows with a refined group settled
unfoldable pub settled_rows : ℕ → Work → List Row
settled_rows w x = settle w x.group x.rows

-- the group g of the basis t refined: the table has at most n rows more
pub record GroupRefined (w n : ℕ) (t : Tree) (g : Group) (made : Made) (out coeffs : List ℕ) (made' : Made) (out' coeffs' : List ℕ) : Type 0 where
  pub room : Room made' out'
  pub later : Later n made made'
  pub long : length out' ≡ length out
  pub wide : length coeffs' ≡ length coeffs
  pub shown : (l : List Row) → FairWork l (refine_group w t (work g l)) → Shown w made out coeffs l
      → Shown w made' out' coeffs' (settled_rows w (refine_group w t (work g l)))

-- the groups of these bases, read off the rows `before`, in turn
abbrev pub one_refined : ℕ → List Row → Tree → List Row → Work
one_refined w before b l = refine_group w b (work (group_of any_basis w b 0 before empty_group) l)

unfoldable pub refine_turn : ℕ → List Row → Tree → List Row → List Row
refine_turn w before b l = settled_rows w (one_refined w before b l)

unfoldable pub FairTurn : ℕ → List Row → Tree → List Row → Type 0
FairTurn w before b l = FairWork l (one_refined w before b l)

-- each of them is fair
abbrev pub AllFairWork : ℕ → List Row → List Tree → List Row → Type 0
AllFairWork w before = EachAllowed (refine_turn w before) (FairTurn w before)

-- all groups refined
pub record AllRefined (w : ℕ) (before : List Row) (bases : List Tree) (made : Made) (out coeffs : List ℕ) (made' : Made) (out' coeffs' : List ℕ)
    : Type 0 where
  pub room : Room made' out'
  pub long : length out' ≡ length out
  pub wide : length coeffs' ≡ length coeffs
  pub shown : (l : List Row) → AllFairWork w before bases l → Shown w made out coeffs l
      → Shown w made' out' coeffs' (refine_all w before bases l)

-- the rows of a form refined: for a table that holds them, where refining them is fair
pub record RowsRefined (w : ℕ) (rows : List Row) (made : Made) (out : List ℕ) (made' : Made) (out' coeffs' : List ℕ) : Type 0 where
  pub room : Room made' out'
  pub long : length out' ≡ length out
  pub wide : length coeffs' ≡ atom_limit
  pub shown : AllFairWork w rows (bases_of any_basis w rows []) (ungrouped any_basis w rows) → Held w made out rows
      → Shown w made' out' coeffs' (refine_all w rows (bases_of any_basis w rows []) (ungrouped any_basis w rows))
