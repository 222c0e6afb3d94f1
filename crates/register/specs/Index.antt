-- The atom table as the code keeps it while normalising: the atoms' bytes in the result slice, and beside them an index,
-- an entry to an atom: its coefficient, its hash, where its tree starts and ends in the result slice, and its key. A view
-- gives the rows that they stand for.
use Rattle.std.specs.Prelude.{◌≡◌, ℕ, zero, suc, ◌+◌, ◌^◌, ◌≤◌, ◌<◌, min, List, [], ◌∷◌, ◌++◌, Bool, true, false, ◌&&◌, length, get_or, take, eqb, Option, None, Some, IfSome}
use Rattle.std.specs.List.{position}
use Rattle.base.specs.Choice.{when}
use Rattle.base.specs.Lists.{eq_list}
use Rattle.record.specs.Span.{sized}
use Rattle.record.specs.Tree.{Tree}
use Rattle.record.specs.Decode.{decode}
use Rattle.expr_refusal.specs.Refusal.{tree_refusal}
use Rattle.expr.specs.Vars.{same_vars}
use Rattle.expr.specs.Hash.{structural_hash}
use Rattle.truth.specs.Key.{not_pure, key_of}
use Rattle.atom_table.specs.declared.table.Table.{Table}
use Rattle.semilinear.specs.Form.{Row, new_row, fits_table}
use Rattle.atom_table.specs.Table.{Holds, Clean}
use Rattle.normalizer_laws.specs.Collect.{Emitted}
use Rattle.ways.specs.Spans.{span_of}
use Rattle.descent.specs.declared.collect.Atom.{Atom}
use Rattle.descent.specs.Spots.{AtomOk, SpotsOk}
use Rattle.arith.specs.Width.{mod_add}
use Rattle.register.specs.declared.index.Entry.{Entry}
use Rattle.base.specs.Limits.{atom_limit}

-- an entry of nothing, for places where none stands
abbrev pub no_entry : Entry
no_entry = record { coeff = 0; hash = 0; start = 0; end = 0; key = [] }

-- the entry of atom j
abbrev pub entry_at : List Entry → ℕ → Entry
entry_at index j = get_or index j no_entry

-- the bytes of an entry's tree
unfoldable pub entry_span : List ℕ → Entry → List ℕ
entry_span out e = span_of out e.start e.end

-- the tree
abbrev pub entry_tree : List ℕ → Entry → Tree
entry_tree out e = decode (entry_span out e)

-- the row
unfoldable pub entry_row : List ℕ → Entry → Row
entry_row out e = new_row (entry_tree out e) e.coeff

-- the rows of the first n atoms
unfoldable pub index_rows : List Entry → List ℕ → ℕ → List Row
index_rows index out zero = []
index_rows index out (suc n) = index_rows index out n ++ (entry_row out (entry_at index n) ∷ [])

-- the entry with a coefficient that has grown by c
unfoldable pub grown : ℕ → ℕ → Entry → Entry
grown w c e =
    record { coeff = mod_add e.coeff c w; hash = e.hash; start = e.start; end = e.end; key = e.key }

-- an entry says what its tree is, which stands before `top`
pub record EntryOk (w : ℕ) (out : List ℕ) (top : ℕ) (e : Entry) : Type 0 where
  pub rising : e.start ≤ e.end
  pub inside : e.end ≤ top
  pub tree : tree_refusal w (entry_span out e) ≡ 0
  pub hash : e.hash ≡ structural_hash (entry_tree out e)
  pub key : e.key ≡ key_of (entry_tree out e)

-- a table that is not full, beside its index
pub record Indexed (w : ℕ) (tab : Table) (index : List Entry) (out : List ℕ) : Type 0 where
  pub more : tab.full ≡ false
  pub holds : Holds w tab out (index_rows index out tab.count)
  pub clean : Clean tab out
  pub entries : (j : ℕ) → j < tab.count → EntryOk w out tab.at (entry_at index j)
  pub room : tab.count ≤ length index

-- the index has room for an atom more, unless the table has the most atoms
abbrev pub RoomMore : Table → List Entry → Type 0
RoomMore tab index = tab.count < atom_limit → tab.count < length index

-- what an atom with the tree of the bytes t asks to be registered
pub record Registrable (w : ℕ) (tab : Table) (t : List ℕ) (index : List Entry) (out : List ℕ) : Type 0 where
  pub indexed : Indexed w tab index out
  pub accepted : tree_refusal w t ≡ 0
  pub room : RoomMore tab index

-- a step from one table to another makes the rows of it; where it is full, they pass a limit
pub record Registers (w : ℕ) (rows : List Row) (index : List Entry) (out : List ℕ) (r : Table) : Type 0 where
  pub rows_are : r.full ≡ false → index_rows index out r.count ≡ rows
  pub indexed : r.full ≡ false → Indexed w r index out
  pub past : r.full ≡ true → fits_table rows ≡ false

-- the atom of the tree with the bytes t
abbrev pub emitted : ℕ → List ℕ → Emitted
emitted c t = record { coeff = c; tree = decode t }

-- the row of an atom that shares none
abbrev pub appended_row : Emitted → Row
appended_row e = new_row e.tree e.coeff

-- what `put_tree` asks: an accepted tree, and room for it, the literal and the And
pub record TreeRoom (w : ℕ) (literal : Option ℕ) (t tree : List ℕ) : Type 0 where
  pub accepted : tree_refusal w t ≡ 0
  pub literal_lt : IfSome literal (λ v. v < 2 ^ w)
  pub long : length t ≤ 1048000
  pub room : length t + 32 ≤ length tree

-- what `build_tree` asks of an atom: a part of the file, and room for its tree
pub record SpotRoom (w : ℕ) (a : Atom) (file tree : List ℕ) : Type 0 where
  pub ok : AtomOk w file a
  pub room : length file + 32 ≤ length tree
  pub long : length file ≤ 1048000

-- what registering the first n spots asks: room for each of their trees, and for their entries
pub record SpotsRoom (w n : ℕ) (spots : List Atom) (file tree : List ℕ) (index : List Entry) : Type 0 where
  pub spots_ok : SpotsOk w file spots n
  pub inside : n ≤ length spots
  pub room : length file + 32 ≤ length tree
  pub long : length file ≤ 1048000
  pub entries : min atom_limit n ≤ length index

-- the first r bytes of a slice are an accepted tree of width w: the tree t
pub record Built (w : ℕ) (t : Tree) (before after : List ℕ) (r : ℕ) : Type 0 where
  pub inside : r ≤ length after
  pub same_length : length after ≡ length before
  pub accepted : tree_refusal w (take r after) ≡ 0
  pub tree_is : decode (take r after) ≡ t

-- the coefficients of the entries stand in front, as many as both hold
pub record CoeffsPut (index : List Entry) (before after : List ℕ) : Type 0 where
  pub same_length : length after ≡ length before
  pub written : (i : ℕ) → i < length index → i < length before → get_or after i 0 ≡ (entry_at index i).coeff

-- ---- the searches

-- the last number below n that passes the test
unfoldable pub last_f : ℕ → (ℕ → Bool) → Option ℕ
last_f zero p = None
last_f (suc n) p = when (p n) (λ _. Some n) (λ _. last_f n p)

-- a number that was found, where it passes the test
unfoldable pub only_if : (ℕ → Bool) → Option ℕ → Option ℕ
only_if p None = None
only_if p (Some j) = when (p j) (λ _. Some j) (λ _. None)

-- the atom of an entry has this hash and the variables of the tree t
unfoldable pub slot_at : ℕ → Tree → List ℕ → Entry → Bool
slot_at hash t out e = eqb e.hash hash && same_vars (entry_tree out e) t

-- the newest of the first n atoms with this hash and the variables of t
unfoldable pub newest_slot : ℕ → ℕ → Tree → List Entry → List ℕ → Option ℕ
newest_slot n hash t index out = last_f n (λ j. slot_at hash t out (entry_at index j))

-- the newest of the first n atoms with this hash and these variables, where it has the bytes t
unfoldable pub row_by_hash : ℕ → ℕ → List ℕ → List Entry → List ℕ → Option ℕ
row_by_hash n hash t index out =
    only_if (λ j. eq_list (entry_span out (entry_at index j)) t) (newest_slot n hash (decode t) index out)

-- the first of the entries with this key
unfoldable pub row_by_key : List ℕ → List Entry → Option ℕ
row_by_key key index =
    when (eqb (get_or key 0 0) not_pure) (λ _. None) (λ _. position (λ e. eq_list e.key key) index)

-- the tree of an entry stands in the slice
pub record EntryIn (out : List ℕ) (e : Entry) : Type 0 where
  pub rising : e.start ≤ e.end
  pub inside : e.end ≤ length out
  pub tree : sized (entry_span out e) ≡ true

-- what the searches ask of the index: the trees of the first n atoms stand in the slice
pub record Searchable (index : List Entry) (out : List ℕ) (n : ℕ) : Type 0 where
  pub room : n ≤ length index
  pub entries : (j : ℕ) → j < n → EntryIn out (entry_at index j)
