-- Laws of the form that is read with new heads (specs/DecodeForm.antt, ticket #107): it has the width, the constant, the
-- trees, the terms and so the value of the form in the bytes, and is valid where that is. What new heads are, in rows and
-- in bytes.
use mathlib.Core.Path.{◌≡◌, refl, ap, sym, ◌∙◌}
use Prim.Native.Nat.{ℕ, ◌+◌}
use native.Mathlib.Omega.{arith}
use mathlib.Core.List.{List, [], ◌∷◌, ◌++◌}
use mathlib.Core.Bool.{Bool, true, false, ◌&&◌}
use lib.ListN.{length}
use lib.Dec.{eqb}
use Rattle.base.proofs.BoolLaws.{and_true}
use Rattle.record.specs.Span.{body}
use Rattle.record.specs.Tree.{IsBytes}
use Rattle.semilinear.specs.Form.{Row, Form, new_rows, sum_rows, form_value, tree_records, rows_ok, valid_form}
use Rattle.semilinear.specs.Form.{encode_form}
use Rattle.semilinear.specs.Items.{provenance, is_atom, after_atom, after_atoms}
use Rattle.semilinear.specs.Valid.{new_heads, is_semilinear}
use Rattle.semilinear.specs.DecodeForm.{after_term, row_at, rows_of, decode_form, retired_row, retired_rows}
use Rattle.semilinear.specs.DecodeForm.{retired, read_form, read_row, read_rows}
use Rattle.semilinear.proofs.ItemsLaws.{fold_atom, fold_done, atoms_ind, rows_atom, rows_end}
use Rattle.semilinear.proofs.FormLaws.{good_row, rows_cons, form_parts, parts_form}
use Rattle.semilinear.proofs.EncodeFormLaws.{form_decode}
use Rattle.semilinear.proofs.AcceptLaws.{form_valid}

-- ---- the rows that are read, atom by atom

pub read_rows_atom : (i : ℕ) (r q : List ℕ) → is_atom r ≡ true
    → read_rows i r q ≡ read_row i r q ∷ read_rows (i + 1) (after_atom r) (after_term i q)
unfolding retired_rows
read_rows_atom i r q e = ap retired_rows (rows_atom i r q e)

pub read_rows_end : (i : ℕ) (r q : List ℕ) → is_atom r ≡ false → read_rows i r q ≡ []
unfolding retired_rows
read_rows_end i r q e = ap retired_rows (rows_end i r q e)

-- ---- rows

pub length_retired : (l : List Row) → length (retired_rows l) ≡ length l
unfolding retired_rows
length_retired [] = refl
length_retired (x ∷ l) = rw (length_retired l)

pub records_retired : (l : List Row) → tree_records (retired_rows l) ≡ tree_records l
unfolding retired_rows tree_records
records_retired [] = refl
records_retired (x ∷ l) = rw (records_retired l)

sum_retired : (w : ℕ) (vars : List ℕ) (l : List Row) → sum_rows w vars (retired_rows l) ≡ sum_rows w vars l
unfolding retired_rows sum_rows
sum_retired w vars [] = refl
sum_retired w vars (x ∷ l) = rw (sum_retired w vars l)

rows_ok_retired : (w : ℕ) (l : List Row) → rows_ok w l ≡ true → rows_ok w (retired_rows l) ≡ true
unfolding retired_rows rows_ok
rows_ok_retired w [] ok = refl
rows_ok_retired w (x ∷ l) ok =
    let p = rows_cons w x l ok in
    let good = good_row w (retired_row x) (record { known = omega arith; atom = p.0.atom; fits = p.0.fits }) in
    simp (good, rows_ok_retired w l p.1)

-- ---- new heads

pub new_retired : (l : List Row) → new_rows (retired_rows l) ≡ true
unfolding retired_rows new_rows
new_retired [] = refl
new_retired (x ∷ l) = new_retired l

pub new_append : (l m : List Row) → new_rows l ≡ true → new_rows m ≡ true → new_rows (l ++ m) ≡ true
unfolding new_rows
new_append [] m e h = h
new_append (x ∷ l) m e h =
    let p = and_true (eqb x.provenance 4) (new_rows l) e in
    simp (p.0, new_append l m p.1 h)

-- the heads in the bytes are those of the rows
heads_rows : (r : List ℕ) (i : ℕ) (q : List ℕ) → new_heads r ≡ new_rows (rows_of i r q)
unfolding new_rows row_at
heads_rows =
    atoms_ind (λ r. (i : ℕ) (q : List ℕ) → new_heads r ≡ new_rows (rows_of i r q))
    (λ r e i q. fold_done _ _ r e ∙ sym (ap new_rows (rows_end i r q e)))
    (λ r e below i q.
    fold_atom _ _ r e
    ∙ ap (λ (b : Bool). eqb (provenance r) 4 && b) (below (i + 1) (after_term i q))
    ∙ sym (ap new_rows (rows_atom i r q e)))

pub heads_form : (f : Form) → valid_form f ≡ true → new_rows f.rows ≡ true → new_heads (body (encode_form f)) ≡ true
unfolding decode_form
heads_form f ok new =
    let t : List ℕ = encode_form f in
    let same : decode_form t ≡ f = form_decode f ok in
    heads_rows (body t) 0 (after_atoms (body t)) ∙ ap (λ (g : Form). new_rows g.rows) same ∙ new

-- ---- forms

-- the same value
pub value_retired : (vars : List ℕ) (f : Form) → form_value vars (retired f) ≡ form_value vars f
unfolding form_value
value_retired vars f = rw (sum_retired f.bitwidth vars f.rows)

pub valid_retired : (f : Form) → valid_form f ≡ true → valid_form (retired f) ≡ true
valid_retired f ok =
    let v = form_parts f ok in
    parts_form (retired f)
    record {
      width_pos = v.width_pos;
      width_le = v.width_le;
      fits = v.fits;
      atoms_le = rw (length_retired f.rows) v.atoms_le;
      records_le = rw (records_retired f.rows) v.records_le;
      rows_ok_lem = rows_ok_retired f.bitwidth f.rows v.rows_ok_lem;
    }

-- ---- what is read of bytes

pub read_valid : (s : List ℕ) → IsBytes s → is_semilinear s ≡ true → valid_form (read_form s) ≡ true
read_valid s h ok = valid_retired (decode_form s) (form_valid s h ok)

pub read_encode : (f : Form) → valid_form f ≡ true → read_form (encode_form f) ≡ retired f
read_encode f ok = ap retired (form_decode f ok)
