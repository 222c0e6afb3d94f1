-- The atom table of a pass, beside the lent bytes that hold its atoms. The rows of the table without limits do not
-- stand in it: what is done is said for all rows that the table and the bytes stand for.
use Rattle.made.specs.declared.Made.{Made}
use Rattle.std.specs.Prelude.{ℕ, ◌+◌, ◌*◌, ◌^◌, ◌<◌, ◌≤◌, ◌≡◌, List, [], ◌∷◌, Bool, true, false, length, get_or, eqb}
use Rattle.record.specs.Tree.{encode, Encodable}
use Rattle.record.specs.Decode.{decode}
use Rattle.expr.specs.Hash.{structural_hash}
use Rattle.atom_table.specs.declared.table.Table.{Table}
use Rattle.semilinear.specs.Form.{Row}
use Rattle.atom_table.specs.Table.{Placed, Holds, Clean}
use Rattle.base.specs.Limits.{record_length}

-- a table with n rows and the constant k
abbrev pub made_of : Table → ℕ → ℕ → Made
made_of tab n k = record { table = tab; rows = n; constant = k }

-- the same table with the constant k
abbrev pub with_constant : Made → ℕ → Made
with_constant made k = made_of made.table made.rows k

-- len bytes have room for the table
pub record Room (made : Made) (out : List ℕ) : Type 0 where
  pub placed : Placed made.table (length out)

-- at most n rows later, with the constant as it was
pub record Later (n : ℕ) (made made' : Made) : Type 0 where
  pub rows_le : made'.rows ≤ made.rows + n
  pub constant : made'.constant ≡ made.constant

-- the words and the bytes hold the rows l, or are full where those pass a limit
pub record Held (w : ℕ) (made : Made) (out : List ℕ) (l : List Row) : Type 0 where
  pub holds : Holds w made.table out l
  pub clean : Clean made.table out
  pub rows : made.rows ≡ length l

-- ---- steps

-- a step of the table alone: F on the rows
pub record Grew (w n : ℕ) (F : List Row → List Row) (made : Made) (out : List ℕ) (made' : Made) (out' : List ℕ) : Type 0 where
  pub room : Room made' out'
  pub later : Later n made made'
  pub long : length out' ≡ length out
  pub held : (l : List Row) → Held w made out l → Held w made' out' (F l)

-- ---- a basis

-- the bytes b are those of a tree with this hash
pub record Basis (w hash : ℕ) (b : List ℕ) : Type 0 where
  pub same : encode w (decode b) ≡ b
  pub encodable : Encodable (decode b)
  pub hashed : hash ≡ structural_hash (decode b)

-- ---- what is asked

-- n atoms over the basis b can be made: there is room for them, and their numbers are words
pub record Makes (w n hash : ℕ) (b : List ℕ) (made : Made) (out : List ℕ) : Type 0 where
  pub width : w ≤ 64
  pub basis : Basis w hash b
  pub room : Room made out
  pub more : made.rows + n < 2 ^ 64

-- an atom of `size` tree records, the tree b and two more, has room in out from index `at` on
pub record AtomFits (at size : ℕ) (b out : List ℕ) : Type 0 where
  pub inside : at + 48 + length b ≤ length out
  pub size_lt : size < 2 ^ 16
  pub size_is : size * record_length ≡ length b + 32
