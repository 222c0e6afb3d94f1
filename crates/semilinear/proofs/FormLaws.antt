-- Laws of specs/Form.antt: the length of a form's bytes, and what a valid form and a valid row are.
use mathlib.Core.Path.{◌≡◌, refl, ◌∙◌}
use Prim.Native.Nat.{ℕ, ◌+◌, ◌*◌, ◌%◌, ◌^◌, ◌≤◌, ◌<◌}
use native.Mathlib.Omega.{arith}
use native.Mathlib.Decide.{ℕ_discrete}
use mathlib.Core.List.{List, [], ◌∷◌, ◌++◌}
use mathlib.Core.Bool.{Bool, true, false, ◌&&◌}
use lib.ListN.{length, length-append}
use lib.Dec.{ltb, leb}
use borrow.Author.Tests.{leb-true, ltb-true, eq-eqb, ne_eqb, le-ltb, lt-ltb, le-leb}
use Rattle.base.proofs.BoolLaws.{and_true}
use Rattle.record.proofs.BytesLaws.{length_record}
use Rattle.semilinear.specs.Form.{Row, Form, term_count, atom_bytes, atoms_bytes, term_bytes, terms_bytes, sum_bytes}
use Rattle.semilinear.specs.Form.{encode_form, is_atom_tree, row_ok, rows_ok, tree_records, fits_table, valid_form}
use Rattle.semilinear.specs.Valid.{length_refused}
use Rattle.semilinear.proofs.FrontLaws.{length_atom, length_front}

-- ---- valid forms

-- what a valid row is
pub record Good (w : ℕ) (x : Row) : Type 0 where
  pub known : x.provenance ≤ 4
  pub atom : is_atom_tree x.tree ≡ true
  pub fits : x.coeff < 2 ^ w

pub row_good : (w : ℕ) (x : Row) → row_ok w x ≡ true → Good w x
unfolding row_ok
row_good w x e =
    let p = and_true (leb x.provenance 4) (is_atom_tree x.tree && ltb x.coeff (2 ^ w)) e in
    let q = and_true (is_atom_tree x.tree) (ltb x.coeff (2 ^ w)) p.1 in
    record { known = leb-true _ _ p.0; atom = q.0; fits = ltb-true _ _ q.1 }

pub good_row : (w : ℕ) (x : Row) → Good w x → row_ok w x ≡ true
unfolding row_ok
good_row w x g = simp (le-leb x.provenance 4 g.known, g.atom, lt-ltb x.coeff (2 ^ w) g.fits)

pub rows_cons : (w : ℕ) (x : Row) (l : List Row) → rows_ok w (x ∷ l) ≡ true → Good w x × (rows_ok w l ≡ true)
unfolding rows_ok
rows_cons w x l e = let p = and_true (row_ok w x) (rows_ok w l) e in (row_good w x p.0, p.1)

-- what a valid form is
pub record Valid (f : Form) : Type 0 where
  pub width_pos : 1 ≤ f.bitwidth
  pub width_le : f.bitwidth ≤ 64
  pub fits : f.constant < 2 ^ f.bitwidth
  pub atoms_le : length f.rows ≤ 256
  pub records_le : tree_records f.rows ≤ 3072
  pub rows_ok_lem : rows_ok f.bitwidth f.rows ≡ true

pub form_parts : (f : Form) → valid_form f ≡ true → Valid f
unfolding valid_form fits_table
form_parts f e =
    let w : ℕ = f.bitwidth in
    let l : List Row = f.rows in
    let table : Bool = leb (length l) 256 && leb (tree_records l) 3072 in
    let p =
    and_true (leb 1 w && leb w 64) (ltb f.constant (2 ^ w) && (table && rows_ok w l)) e in
    let wide = and_true (leb 1 w) (leb w 64) p.0 in
    let q = and_true (ltb f.constant (2 ^ w)) (table && rows_ok w l) p.1 in
    let t = and_true table (rows_ok w l) q.1 in
    let u = and_true (leb (length l) 256) (leb (tree_records l) 3072) t.0 in
    record {
      width_pos = leb-true _ _ wide.0;
      width_le = leb-true _ _ wide.1;
      fits = ltb-true _ _ q.0;
      atoms_le = leb-true _ _ u.0;
      records_le = leb-true _ _ u.1;
      rows_ok_lem = t.1;
    }

pub parts_form : (f : Form) → Valid f → valid_form f ≡ true
unfolding valid_form fits_table
parts_form f v =
    simp (
      le-leb 1 f.bitwidth v.width_pos,
      le-leb f.bitwidth 64 v.width_le,
      lt-ltb f.constant (2 ^ f.bitwidth) v.fits,
      le-leb (length f.rows) 256 v.atoms_le,
      le-leb (tree_records f.rows) 3072 v.records_le,
      v.rows_ok_lem,
    )

-- ---- terms

-- the terms of a row and those after it
module _ (w i : ℕ) (x : Row) (l : List Row) where
  pub terms_bytes_zero : x.coeff ≡ 0 → terms_bytes w i (x ∷ l) ≡ terms_bytes w (i + 1) l
  unfolding terms_bytes
  terms_bytes_zero z = simp (eq-eqb x.coeff 0 z)

  pub terms_bytes_some : (x.coeff ≡ 0 → ⊥)
      → terms_bytes w i (x ∷ l) ≡ term_bytes w i x.coeff ++ terms_bytes w (i + 1) l
  unfolding terms_bytes
  terms_bytes_some z = simp (ne_eqb x.coeff 0 z)

-- ---- lengths

pub length_atoms : (w : ℕ) (l : List Row) → length (atoms_bytes w l) ≡ 16 * (length l + tree_records l)
unfolding atoms_bytes tree_records
length_atoms w [] = refl
length_atoms w (x ∷ l) =
    length-append (atom_bytes w x.provenance x.tree) (atoms_bytes w l)
    ∙ omega (arith, length_atom w x.provenance x.tree, length_atoms w l)

pub length_terms : (w i : ℕ) (l : List Row) → length (terms_bytes w i l) ≡ 16 * term_count l
unfolding terms_bytes term_count term_bytes
length_terms w i [] = refl
length_terms w i (x ∷ l) = go (ℕ_discrete x.coeff 0) (length_terms w (i + 1) l)
  where
    go : Dec (x.coeff ≡ 0) → length (terms_bytes w (i + 1) l) ≡ 16 * term_count l
        → length (terms_bytes w i (x ∷ l)) ≡ 16 * term_count (x ∷ l)
    go (yes z) below = simp (eq-eqb x.coeff 0 z, below)
    go (no z) below =
        rw (terms_bytes_some w i x l z, length_front 34 0 i w x.coeff (terms_bytes w (i + 1) l))
        (simp (ne_eqb x.coeff 0 z) (omega arith))

pub term_count_le : (l : List Row) → term_count l ≤ length l
unfolding term_count
term_count_le [] = omega arith
term_count_le (x ∷ l) = go (ℕ_discrete x.coeff 0) (term_count_le l)
  where
    go : Dec (x.coeff ≡ 0) → term_count l ≤ length l → term_count (x ∷ l) ≤ length (x ∷ l)
    go (yes z) below = simp (eq-eqb x.coeff 0 z) (omega arith)
    go (no z) below = simp (ne_eqb x.coeff 0 z) (omega arith)

pub length_form : (f : Form)
    → length (encode_form f) ≡ 16 * (length f.rows + tree_records f.rows + term_count f.rows + 1)
unfolding encode_form sum_bytes
length_form f =
    let w : ℕ = f.bitwidth in
    let l : List Row = f.rows in
    length_record (atoms_bytes w l ++ terms_bytes w 0 l) 32 0 0 w f.constant
    ∙ simp length-append (omega (arith, length_atoms w l, length_terms w 0 l))

module _ (f : Form) (ok : valid_form f ≡ true) where
  pub length_form_le : length (encode_form f) ≤ 57360
  length_form_le = let v = form_parts f ok in omega (arith, length_form f, term_count_le f.rows)

  -- the bytes of a valid form are not refused for their length
  pub form_not_refused : length_refused (encode_form f) ≡ false
  unfolding length_refused
  form_not_refused =
      let e = length_form f in
      simp (
        ne_eqb (length (encode_form f)) 0 (omega arith),
        le-ltb 57360 (length (encode_form f)) length_form_le,
        eq-eqb (length (encode_form f) % 16) 0 (omega arith),
      )
