-- How recovering goes through the entries of a group (recover_pair) and through the groups (structure_recovery): what a
-- turn makes of the group, of the words of the table with the constant, and of the bytes. Where the table is full the rows
-- pass a limit, and nothing else is said of them (bare/specs/Showing.antt).
use Rattle.made.specs.declared.Made.{Made}
use Rattle.std.specs.Prelude.{◌≡◌, ◌≢◌, ℕ, ◌+◌, ◌-◌, ◌*◌, ◌^◌, ◌≤◌, ◌<◌, List, [], Bool, true, false, ◌&&◌, length, get_or, eqb}
use Rattle.base.specs.Loop.{first_in}
use Rattle.record.specs.Tree.{Tree, encode, Encodable}
use Rattle.record.specs.Tree.Tree.{Constant, Binary}
use Rattle.record.specs.Decode.{decode}
use Rattle.semilinear.specs.Form.{Row, Form, fits_table}
use Rattle.group.specs.declared.Group.{Group}
use Rattle.entries.specs.Marks.{blank}
use Rattle.group.specs.Group.{Entry, empty_group, group_of, settle}
use Rattle.views.specs.Grouping.{any_basis, bases_of, ungrouped}
use Rattle.made.specs.Made.{Room, Held, Makes}
use Rattle.made.specs.Shown.{Shown}
use Rattle.group.specs.Fair.{Fair}
use Rattle.group.specs.Turns.{EachAllowed}
use Rattle.structure_laws.specs.RecoverStructure.{Recovery, as_gathered, recover_group, recover_all}
use Rattle.bare.specs.Showing.{Shows}
use Rattle.base.specs.Limits.{group_entries, record_length}

-- the Xor of a literal and a basis
abbrev pub xor_tree : ℕ → Tree → Tree
xor_tree m b = Binary 6 (Constant m) b

-- ---- the search for a partner among lent entries

unfoldable pub partner_fits : ℕ → List Entry → ℕ → Bool
partner_fits m es j = as_gathered (get_or es j blank).mark && eqb (get_or es j blank).mask m

-- the first entry from a on that is as it was gathered and has the mask m; or the number of entries
abbrev pub partner_in : ℕ → List Entry → ℕ → ℕ
partner_in m es a = first_in (partner_fits m es) a (length es)

-- no entry has a partner
abbrev pub NoPartner : ℕ → List Entry → Type 0
NoPartner full es = (i : ℕ) → i < length es → length es ≤ partner_in (full - (get_or es i blank).mask) es (i + 1)

-- ---- what a step asks

-- the Xor of a literal and the tree of the bytes b, of `size` records, has room in out from index `at` on
pub record TreeFits (w at size : ℕ) (b out : List ℕ) : Type 0 where
  pub inside : at + 32 + length b ≤ length out
  pub same : encode w (decode b) ≡ b
  pub size_lt : size < 2 ^ 16
  pub size_is : size * record_length ≡ length b + 32

-- the Xor of a literal and the tree of the bytes b can be made
pub record XorMakes (w : ℕ) (b : List ℕ) (made : Made) (out : List ℕ) : Type 0 where
  pub same : encode w (decode b) ≡ b
  pub encodable : Encodable (decode b)
  pub room : Room made out
  pub more : made.rows + 1 < 2 ^ 64

-- the same for entry src, which consumes entry dst
pub record XorReady (w src dst : ℕ) (b : List ℕ) (made : Made) (out : List ℕ) : Type 0 where
  pub width : w ≤ 64
  pub makes : XorMakes w b made out
  pub src_lt : src < group_entries
  pub dst_lt : dst < group_entries
  pub apart : dst ≢ src

-- an atom over the basis b can be made for entries i and j, in a table that is not full
pub record PairReady (w i j hash : ℕ) (b : List ℕ) (made : Made) (out : List ℕ) : Type 0 where
  pub makes : Makes w 1 hash b made out
  pub i_lt : i < group_entries
  pub j_lt : j < group_entries
  pub apart : j ≢ i
  pub not_full : made.table.full ≡ false

-- the same for entry i of the group g
pub record EntryReady (w i hash : ℕ) (b : List ℕ) (g : Group) (made : Made) (out : List ℕ) : Type 0 where
  pub makes : Makes w 1 hash b made out
  pub within : i < g.len
  pub few : g.len ≤ group_entries
  pub not_full : made.table.full ≡ false

-- ---- steps of a group beside the table and the constant

-- a group, the words and the bytes stand for x
pub record StandsRecovery (w : ℕ) (g : Group) (made : Made) (out : List ℕ) (x : Recovery) : Type 0 where
  pub same : g ≡ x.group
  pub held : Held w made out x.rows
  pub constant : made.constant ≡ x.constant

-- a step after which they stand for what f makes of it
pub record Turned (w n : ℕ) (f : Recovery → Recovery) (g : Group) (made : Made) (out : List ℕ) (r : Group) (made' : Made) (out' : List ℕ)
    : Type 0 where
  pub room : Room made' out'
  pub rows_le : made'.rows ≤ made.rows + n
  pub long : length out' ≡ length out
  pub len : r.len ≡ g.len
  pub stands : (x : Recovery) → StandsRecovery w g made out x → StandsRecovery w r made' out' (f x)

-- they stand for x, or the table is full and the rows of x pass a limit
pub record Recovers (w : ℕ) (g : Group) (made : Made) (out : List ℕ) (x : Recovery) : Type 0 where
  pub stands : made.table.full ≡ false → StandsRecovery w g made out x
  pub past : made.table.full ≡ true → fits_table x.rows ≡ false

-- steps after which it may be
pub record Recovered (w n : ℕ) (f : Recovery → Recovery) (g : Group) (made : Made) (out : List ℕ) (r : Group)
    (made' : Made) (out' : List ℕ) : Type 0 where
  pub room : Room made' out'
  pub rows_le : made'.rows ≤ made.rows + n
  pub long : length out' ≡ length out
  pub len : r.len ≡ g.len
  pub recovers : (x : Recovery) → StandsRecovery w g made out x → Recovers w r made' out' (f x)

-- ---- the groups in turn

-- a group beside rows and a constant
abbrev pub recovery : Group → List Row → ℕ → Recovery
recovery g l c = record { group = g; rows = l; constant = c }

-- what recovering a group makes of the rows l is fair
abbrev pub FairRecovery : List Row → Recovery → Type 0
FairRecovery l x = Fair l x.group x.rows

-- the form that is being made, after a group is settled
unfoldable pub settled_form : ℕ → Recovery → Form
settled_form w x = record { bitwidth = w; constant = x.constant; rows = settle w x.group x.rows }

-- the words, bytes and coefficients show the form f, or the table is full and its rows pass a limit
pub record ShowsForm (w : ℕ) (made : Made) (out coeffs : List ℕ) (f : Form) : Type 0 where
  pub shows : Shows w made out coeffs f.rows
  pub constant : made.table.full ≡ false → made.constant ≡ f.constant

-- the group g of the basis t recovered and settled: the table has at most n rows more
pub record GroupRecovered (w n : ℕ) (t : Tree) (g : Group) (made : Made) (out coeffs : List ℕ) (made' : Made) (out' coeffs' : List ℕ) : Type 0 where
  pub room : Room made' out'
  pub rows_le : made'.rows ≤ made.rows + n
  pub long : length out' ≡ length out
  pub wide : length coeffs' ≡ length coeffs
  pub shown : (l : List Row) → FairRecovery l (recover_group w t (recovery g l made.constant))
      → Shown w made out coeffs l
      → ShowsForm w made' out' coeffs' (settled_form w (recover_group w t (recovery g l made.constant)))

-- the groups of these bases, read off the rows `before`, in turn
abbrev pub one_recovered : ℕ → List Row → Tree → List Row → ℕ → Recovery
one_recovered w before b l c = recover_group w b (recovery (group_of any_basis w b 0 before empty_group) l c)

unfoldable pub recover_turn : ℕ → List Row → Tree → Form → Form
recover_turn w before b x = settled_form w (one_recovered w before b x.rows x.constant)

unfoldable pub FairTurn : ℕ → List Row → Tree → Form → Type 0
FairTurn w before b x = FairRecovery x.rows (one_recovered w before b x.rows x.constant)

-- each of them is fair, from the rows l and the constant c on
abbrev pub AllFairRecovery : ℕ → List Row → List Tree → List Row → ℕ → Type 0
AllFairRecovery w before bases l c =
    EachAllowed (recover_turn w before) (FairTurn w before) bases (record { bitwidth = w; constant = c; rows = l })

-- all groups recovered
pub record AllRecovered (w : ℕ) (before : List Row) (bases : List Tree) (made : Made) (out coeffs : List ℕ) (made' : Made) (out' coeffs' : List ℕ)
    : Type 0 where
  pub room : Room made' out'
  pub long : length out' ≡ length out
  pub wide : length coeffs' ≡ length coeffs
  pub shown : (l : List Row) → AllFairRecovery w before bases l made.constant → Shown w made out coeffs l
      → ShowsForm w made' out' coeffs' (recover_all w before bases l made.constant)

-- the form of these rows recovered: for a table that holds them, where recovering them is fair
abbrev pub rows_recovered : ℕ → List Row → ℕ → Form
rows_recovered w rows c = recover_all w rows (bases_of any_basis w rows []) (ungrouped any_basis w rows) c

pub record RowsRecovered (w : ℕ) (rows : List Row) (made : Made) (out : List ℕ) (made' : Made) (out' coeffs' : List ℕ) : Type 0 where
  pub room : Room made' out'
  pub long : length out' ≡ length out
  pub wide : length coeffs' ≡ group_entries
  pub shown : AllFairRecovery w rows (bases_of any_basis w rows []) (ungrouped any_basis w rows) made.constant
      → Held w made out rows → ShowsForm w made' out' coeffs' (rows_recovered w rows made.constant)
