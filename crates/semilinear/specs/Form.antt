-- The semilinear form (document 01, "The sheet"; semilinear.rs 25-88): a constant and weighted bitwise atoms modulo
-- 2 ^ w. One row for each atom, with the coefficient of its term, 0 where it has none: so the terms' order, one term to
-- an atom and the count of terms need no rules of their own.
use Rattle.std.specs.Prelude.{ℕ, ◌+◌, ◌*◌, ◌%◌, ◌^◌, List, [], ◌∷◌, ◌++◌, Bool, true, not, ◌&&◌, length, eqb, ltb, leb}
use Rattle.base.specs.Choice.{when}
use Rattle.base.specs.Lists.{eq_list}
use Rattle.record.specs.Tree.{Tree, size_of, record_bytes, encode}
use Rattle.expr_refusal.specs.Refusal.{is_expr}
use Rattle.expr_utils.specs.Utils.{has_var_dep, has_arith}
use Rattle.expr.specs.Value.{value}
use Rattle.expr.specs.Hash.{structural_hash}
use Rattle.base.specs.Limits.{atom_limit, tree_record_limit}

-- byte 1 of every new head (ticket #107): once it said what an atom was made of, by 0 to 4
abbrev pub head_byte : ℕ
head_byte = 4

-- an atom, with byte 1 of its head as it is read, and its coefficient
pub record Row : Type 0 where
  pub provenance : ℕ
  pub tree : Tree
  pub coeff : ℕ

-- a new row
abbrev pub new_row : Tree → ℕ → Row
new_row t c = record { provenance = head_byte; tree = t; coeff = c }

-- byte 1 of every row's head is that of a new one
unfoldable pub new_rows : List Row → Bool
new_rows [] = true
new_rows (x ∷ l) = eqb x.provenance head_byte && new_rows l

pub record Form : Type 0 where
  pub bitwidth : ℕ
  pub constant : ℕ
  pub rows : List Row

-- the coefficient times the atom, of all rows
unfoldable pub sum_rows : ℕ → List ℕ → List Row → ℕ
sum_rows w vars [] = 0
sum_rows w vars (x ∷ l) = x.coeff * value w vars x.tree + sum_rows w vars l

-- the value under an assignment
unfoldable pub form_value : List ℕ → Form → ℕ
form_value vars f = (f.constant + sum_rows f.bitwidth vars f.rows) % 2 ^ f.bitwidth

-- the count of terms (document 01: par)
unfoldable pub term_count : List Row → ℕ
term_count [] = 0
term_count (x ∷ l) = when (eqb x.coeff 0) (λ _. term_count l) (λ _. 1 + term_count l)

-- ---- the bytes

-- an atom: its head, with the tree's size and hash, and its tree
unfoldable pub atom_bytes : ℕ → ℕ → Tree → List ℕ
atom_bytes w p t = record_bytes 33 p (size_of t) w (structural_hash t) ++ encode w t

unfoldable pub atoms_bytes : ℕ → List Row → List ℕ
atoms_bytes w [] = []
atoms_bytes w (x ∷ l) = atom_bytes w x.provenance x.tree ++ atoms_bytes w l

-- a term: the atom's number and the coefficient
unfoldable pub term_bytes : ℕ → ℕ → ℕ → List ℕ
term_bytes w i c = record_bytes 34 0 i w c

-- the terms of the rows from number i on
unfoldable pub terms_bytes : ℕ → ℕ → List Row → List ℕ
terms_bytes w i [] = []
terms_bytes w i (x ∷ l) =
    when (eqb x.coeff 0) (λ _. terms_bytes w (i + 1) l) (λ _. term_bytes w i x.coeff ++ terms_bytes w (i + 1) l)

-- the sum record, with the constant
unfoldable pub sum_bytes : ℕ → ℕ → List ℕ
sum_bytes w c = record_bytes 32 0 0 w c

unfoldable pub encode_form : Form → List ℕ
encode_form f =
    (atoms_bytes f.bitwidth f.rows ++ terms_bytes f.bitwidth 0 f.rows) ++ sum_bytes f.bitwidth f.constant

-- trees of width w are equal when their bytes are
unfoldable pub eq_tree : ℕ → Tree → Tree → Bool
eq_tree w t u = eq_list (encode w t) (encode w u)

-- ---- validity

-- a tree that an atom may have: a variable, and only kinds 0, 1, 4 to 7 and 9 with counts up to 63
unfoldable pub is_atom_tree : Tree → Bool
is_atom_tree t = is_expr t && (has_var_dep t && not (has_arith t))

-- byte 1 of a head is 0 to 4, whatever the tree
unfoldable pub row_ok : ℕ → Row → Bool
row_ok w x = leb x.provenance 4 && (is_atom_tree x.tree && ltb x.coeff (2 ^ w))

unfoldable pub rows_ok : ℕ → List Row → Bool
rows_ok w [] = true
rows_ok w (x ∷ l) = row_ok w x && rows_ok w l

-- the tree records of all atoms
unfoldable pub tree_records : List Row → ℕ
tree_records [] = 0
tree_records (x ∷ l) = size_of x.tree + tree_records l

-- the table's limits: 256 atoms, 3,072 tree records
unfoldable pub fits_table : List Row → Bool
fits_table l = leb (length l) atom_limit && leb (tree_records l) tree_record_limit

unfoldable pub valid_form : Form → Bool
valid_form f =
    (leb 1 f.bitwidth && leb f.bitwidth 64)
    && (ltb f.constant (2 ^ f.bitwidth) && (fits_table f.rows && rows_ok f.bitwidth f.rows))
