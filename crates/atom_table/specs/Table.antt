-- The atom table while a pass adds atoms to it (semilinear.rs 263-288): its numbers, and the lent bytes whose first
-- `at` are the atoms so far. An atom that would pass 256 atoms or 3,072 tree records (refusal 9) makes it full; a full
-- table stays as it is.
use Rattle.std.specs.Prelude.{ℕ, ◌+◌, ◌*◌, ◌≤◌, ◌≡◌, List, [], ◌++◌, Bool, true, false, ◌&&◌, length, take, ltb, leb}
use Rattle.base.specs.Choice.{when}
use Rattle.record.specs.Fields.{size}
use Rattle.record.specs.Tree.{record_bytes}
use Rattle.record.specs.Decode.{decode}
use Rattle.base.specs.Put.{put, padded}
use Rattle.expr.specs.Hash.{structural_hash}
use Rattle.atom_table.specs.declared.table.Table.{Table}
use Rattle.semilinear.specs.Form.{head_byte, Row, atoms_bytes, tree_records, fits_table}
use Rattle.semilinear.specs.Items.{fold_atoms, tree_span}
use Rattle.semilinear.specs.Scan.{IsAtomTable}
use Rattle.base.specs.Limits.{atom_limit, record_length, tree_record_limit}

-- the table's numbers agree, keep the limits, and len bytes have room for every table within them
pub record Placed (tab : Table) (len : ℕ) : Type 0 where
  pub place : tab.at ≡ record_length * (tab.count + tab.records)
  pub atoms_le : tab.count ≤ atom_limit
  pub records_le : tab.records ≤ tree_record_limit
  pub room : 53248 ≤ len

-- a table and the bytes beside it
pub record Store : Type 0 where
  pub table : Table
  pub bytes : List ℕ

abbrev pub store_of : Table → List ℕ → Store
store_of tab out = record { table = tab; bytes = out }

-- the table without atoms
unfoldable pub empty_table : Table
empty_table = record { at = 0; count = 0; records = 0; full = false }

-- the bytes of a new atom whose tree has the bytes t
unfoldable pub atom_span : ℕ → List ℕ → List ℕ
atom_span w t = record_bytes 33 head_byte (size t) w (structural_hash (decode t)) ++ t

-- the atoms at the front of f, each as a new one
abbrev pub atom_spans : ℕ → List ℕ → List ℕ
atom_spans w = fold_atoms (λ r. []) (λ r x. atom_span w (tree_span r) ++ x)

-- they are put into the bytes from the start on, and r is their table
pub record AtomsPut (w : ℕ) (f before after : List ℕ) (r : Table) : Type 0 where
  pub found : IsAtomTable f (record { at = r.at; count = r.count; records = r.records })
  pub more : r.full ≡ false
  pub written : after ≡ put before 0 (atom_spans w f)

-- with this atom more the table keeps its limits
unfoldable pub fits_more : Table → List ℕ → Bool
fits_more tab t = ltb tab.count atom_limit && leb (tab.records + size t) tree_record_limit

-- the table's numbers with this atom more
unfoldable pub more_atoms : Table → List ℕ → Table
more_atoms tab t =
    record {
      at = tab.at + record_length + length t;
      count = tab.count + 1;
      records = tab.records + size t;
      full = tab.full;
    }

unfoldable pub full_table : Table → Table
full_table tab = record { at = tab.at; count = tab.count; records = tab.records; full = true }

-- the store after `create_atom`
unfoldable pub create_atom : ℕ → List ℕ → Store → Store
create_atom w t s =
    when s.table.full (λ _. s)
    (λ _. when (fits_more s.table t)
    (λ _. store_of (more_atoms s.table t) (put s.bytes s.table.at (atom_span w t)))
    (λ _. store_of (full_table s.table) s.bytes))

-- ---- a table with limits beside the rows of a table without them

-- the table holds the rows l, and they keep the limits
pub record Kept (w : ℕ) (tab : Table) (out : List ℕ) (l : List Row) : Type 0 where
  pub bytes : take tab.at out ≡ atoms_bytes w l
  pub count : tab.count ≡ length l
  pub records : tab.records ≡ tree_records l
  pub fits : fits_table l ≡ true

-- either so, or it is full and the rows pass a limit
pub record Holds (w : ℕ) (tab : Table) (out : List ℕ) (l : List Row) : Type 0 where
  pub placed : Placed tab (length out)
  pub kept : tab.full ≡ false → Kept w tab out l
  pub past : tab.full ≡ true → fits_table l ≡ false

-- zeros behind the atoms
abbrev pub Clean : Table → List ℕ → Type 0
Clean tab out = out ≡ padded (length out) (take tab.at out)
