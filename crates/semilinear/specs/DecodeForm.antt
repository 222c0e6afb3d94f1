-- The semilinear form that bytes stand for. Every list of bytes has one; the atoms and the terms are read side by side.
use Rattle.std.specs.Prelude.{ℕ, zero, suc, ◌+◌, List, [], ◌∷◌, Bool, ◌&&◌, length, drop, eqb}
use Rattle.base.specs.Choice.{when}
use Rattle.record.specs.Fields.{width, literal}
use Rattle.record.specs.Span.{body}
use Rattle.record.specs.Decode.{decode}
use Rattle.semilinear.specs.Form.{Row, Form, new_row}
use Rattle.semilinear.specs.Items.{provenance, front_number, front_word, is_atom, tree_span}
use Rattle.semilinear.specs.Items.{after_atom, after_atoms, is_term}
use Rattle.base.specs.Limits.{record_length}

-- the term at the front is that of atom i
unfoldable pub has_term : ℕ → List ℕ → Bool
has_term i q = is_term q && eqb (front_number q) i

-- the coefficient of atom i, where q are the terms from i on; and the terms after it
unfoldable pub coeff_at : ℕ → List ℕ → ℕ
coeff_at i q = when (has_term i q) (λ _. front_word q) (λ _. 0)

unfoldable pub after_term : ℕ → List ℕ → List ℕ
after_term i q = when (has_term i q) (λ _. drop record_length q) (λ _. q)

-- the row of atom i, which stands at the front of r
unfoldable pub row_at : ℕ → List ℕ → List ℕ → Row
row_at i r q = record { provenance = provenance r; tree = decode (tree_span r); coeff = coeff_at i q }

-- the rows of the atoms at the front of r, numbered from i, with the terms q
unfoldable pub rows_f : ℕ → ℕ → List ℕ → List ℕ → List Row
rows_f zero i r q = []
rows_f (suc n) i r q =
    when (is_atom r) (λ _. row_at i r q ∷ rows_f n (i + 1) (after_atom r) (after_term i q)) (λ _. [])

unfoldable pub rows_of : ℕ → List ℕ → List ℕ → List Row
rows_of i r q = rows_f (length r) i r q

unfoldable pub decode_form : List ℕ → Form
decode_form s =
    record { bitwidth = width s; constant = literal s; rows = rows_of 0 (body s) (after_atoms (body s)) }

-- ---- what the passes and the columns read (ticket #107): the same form, with each row as a new one

abbrev pub retired_row : Row → Row
retired_row x = new_row x.tree x.coeff

unfoldable pub retired_rows : List Row → List Row
retired_rows [] = []
retired_rows (x ∷ l) = retired_row x ∷ retired_rows l

abbrev pub retired : Form → Form
retired f = record { bitwidth = f.bitwidth; constant = f.constant; rows = retired_rows f.rows }

abbrev pub read_form : List ℕ → Form
read_form s = retired (decode_form s)

-- its row of atom i, and its rows from number i on
abbrev pub read_row : ℕ → List ℕ → List ℕ → Row
read_row i r q = retired_row (row_at i r q)

abbrev pub read_rows : ℕ → List ℕ → List ℕ → List Row
read_rows i r q = retired_rows (rows_of i r q)
