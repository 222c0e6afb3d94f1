-- The bytes of a valid form: they decode to it, they are accepted, and they are bytes.
use mathlib.Core.Path.{◌≡◌}
use Prim.Native.Nat.{ℕ, ◌+◌, ◌^◌, ◌≤◌, ◌<◌}
use native.Mathlib.Omega.{arith}
use native.Mathlib.Decide.{ℕ_discrete}
use mathlib.Core.List.{List, [], ◌∷◌, ◌++◌}
use mathlib.Core.Bool.{true}
use lib.ListN.{length}
use lib.Dec.{lit<}
use borrow.Author.Tests.{le-leb, lt-ltb}
use Rattle.record.specs.Tree.{Tree, size_of, record_bytes, encode, IsBytes}
use Rattle.record.proofs.BytesLaws.{record_big, kind_record, byte1_record, size_record, width_record, spare_record}
use Rattle.record.proofs.BytesLaws.{literal_record, body_record, bytes_append, bytes_record}
use Rattle.expr_refusal.specs.Refusal.{is_expr}
use Rattle.expr.specs.Hash.{structural_hash}
use Rattle.expr.proofs.IsExprLaws.{bytes_encode}
use Rattle.semilinear.specs.Form.{Row, Form, atom_bytes, atoms_bytes, term_bytes, terms_bytes, sum_bytes, encode_form}
use Rattle.semilinear.specs.Form.{rows_ok, tree_records, valid_form}
use Rattle.semilinear.specs.Valid.{sum_ok, front_ok, is_semilinear}
use Rattle.semilinear.specs.DecodeForm.{decode_form}
use Rattle.semilinear.proofs.FormLaws.{rows_cons, Valid, form_parts, terms_bytes_zero, terms_bytes_some}
use Rattle.semilinear.proofs.RowsLaws.{word_lt, atom_expr_parts, terms_not_atom, terms_accept, Read, rows_read}

-- ---- bytes

bytes_atom : (w p : ℕ) (t : Tree) → is_expr t ≡ true → w < 256 → p < 256 → size_of t < 2 ^ 16
    → IsBytes (atom_bytes w p t)
unfolding atom_bytes
bytes_atom w p t e hw hp hn =
    bytes_append (record_bytes 33 p (size_of t) w (structural_hash t)) (encode w t)
    (bytes_record 33 p (size_of t) w (structural_hash t) (lit< tt) hp hn hw) (bytes_encode w t e hw hn)

bytes_atoms : (w : ℕ) (l : List Row) → rows_ok w l ≡ true → w < 256 → tree_records l < 2 ^ 16
    → IsBytes (atoms_bytes w l)
unfolding atoms_bytes tree_records
bytes_atoms w [] ok hw hn = λ i. lit< tt
bytes_atoms w (x ∷ l) ok hw hn =
    let p = rows_cons w x l ok in
    let e = (atom_expr_parts x.tree p.0.atom).0 in
    bytes_append (atom_bytes w x.provenance x.tree) (atoms_bytes w l)
    (bytes_atom w x.provenance x.tree e hw (omega (arith, p.0.known)) (omega arith))
    (bytes_atoms w l p.1 hw (omega arith))

bytes_terms : (w i : ℕ) (l : List Row) → w < 256 → i + length l ≤ 2 ^ 16 → IsBytes (terms_bytes w i l)
unfolding terms_bytes term_bytes
bytes_terms w i [] hw hn = λ j. lit< tt
bytes_terms w i (x ∷ l) hw hn = go (ℕ_discrete x.coeff 0) (bytes_terms w (i + 1) l hw (omega arith))
  where
    go : Dec (x.coeff ≡ 0) → IsBytes (terms_bytes w (i + 1) l) → IsBytes (terms_bytes w i (x ∷ l))
    go (yes z) below = rw (terms_bytes_zero w i x l z) below
    go (no z) below =
        rw (terms_bytes_some w i x l z)
        (bytes_append (term_bytes w i x.coeff) (terms_bytes w (i + 1) l)
        (bytes_record 34 0 i w x.coeff (lit< tt) (lit< tt) (omega arith) hw) below)

-- ---- valid forms

module _ (f : Form) (ok : valid_form f ≡ true) where
  abbrev w : ℕ
  w = f.bitwidth

  abbrev front : List ℕ
  front = atoms_bytes f.bitwidth f.rows ++ terms_bytes f.bitwidth 0 f.rows

  valid : Valid f
  valid = form_parts f ok

  fits : f.constant < 2 ^ 64
  fits = word_lt w f.constant valid.width_le valid.fits

  read : Read w f.rows (terms_bytes w 0 f.rows)
  read =
      rows_read w valid.width_pos valid.width_le f.rows (terms_bytes w 0 f.rows) valid.rows_ok_lem
      (terms_not_atom w 0 f.rows)

  pub form_decode : decode_form (encode_form f) ≡ f
  unfolding decode_form encode_form sum_bytes
  form_decode =
      simp (
        width_record front 32 0 0 w f.constant,
        literal_record front 32 0 0 w f.constant fits,
        body_record front 32 0 0 w f.constant,
        read.after,
        read.rows 0,
      )

  sum_accept : sum_ok (encode_form f) ≡ true
  unfolding sum_ok encode_form sum_bytes
  sum_accept =
      simp (
        le-leb 16 _ (record_big front 32 0 0 w f.constant),
        kind_record front 32 0 0 w f.constant,
        byte1_record front 32 0 0 w f.constant,
        size_record front 32 0 0 w f.constant,
        spare_record front 32 0 0 w f.constant,
        width_record front 32 0 0 w f.constant,
        literal_record front 32 0 0 w f.constant fits,
        le-leb 1 w valid.width_pos,
        le-leb w 64 valid.width_le,
        lt-ltb f.constant (2 ^ w) valid.fits,
      )

  front_accept : front_ok w front ≡ true
  unfolding front_ok
  front_accept =
      simp (
        read.atoms_ok_lem,
        read.count,
        read.records,
        read.after,
        le-leb (length f.rows) 256 valid.atoms_le,
        le-leb (tree_records f.rows) 3072 valid.records_le,
        terms_accept w valid.width_pos valid.width_le f.rows 0 0 (length f.rows) valid.rows_ok_lem
            (omega arith) (omega arith),
      )

  pub form_accept : is_semilinear (encode_form f) ≡ true
  unfolding is_semilinear encode_form sum_bytes
  form_accept =
      simp (
        sum_accept,
        width_record front 32 0 0 w f.constant,
        body_record front 32 0 0 w f.constant,
        front_accept,
      )

  pub bytes_form : IsBytes (encode_form f)
  unfolding encode_form sum_bytes
  bytes_form =
      let hw : f.bitwidth < 256 = omega (arith, valid.width_le) in
      let atoms : List ℕ = atoms_bytes f.bitwidth f.rows in
      let terms : List ℕ = terms_bytes f.bitwidth 0 f.rows in
      bytes_append (atoms ++ terms) (record_bytes 32 0 0 f.bitwidth f.constant)
      (bytes_append atoms terms
      (bytes_atoms f.bitwidth f.rows valid.rows_ok_lem hw (omega (arith, valid.records_le)))
      (bytes_terms f.bitwidth 0 f.rows hw (omega (arith, valid.atoms_le))))
      (bytes_record 32 0 0 f.bitwidth f.constant (lit< tt) (lit< tt) (lit< tt) hw)
