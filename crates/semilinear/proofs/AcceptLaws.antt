-- Accepted bytes are the bytes of a valid form, the one that they stand for; with EncodeFormLaws, the theorem both
-- ways: bytes are accepted just where they are the bytes of a valid form.
use mathlib.Core.Path.{◌≡◌, refl, sym, ◌∙◌}
use Prim.Native.Nat.{ℕ, ◌+◌, ◌-◌, ◌*◌, ◌^◌, ◌<◌}
use native.Mathlib.Omega.{arith}
use mathlib.Core.Logic.{◌↔◌}
use mathlib.Core.List.{List, [], ◌∷◌, ◌++◌, append_assoc}
use mathlib.Core.Bool.{Bool, true, false}
use lib.ListN.{length, take, drop, take-append-drop}
use lib.Seq.{take-add}
use lib.Pow.{pow_pos}
use Rattle.base.specs.Choice.{when}
use Rattle.record.specs.Fields.{width, literal}
use Rattle.record.specs.Span.{body}
use Rattle.record.specs.Tree.{size_of, record_bytes, encode, IsBytes}
use Rattle.record.specs.Decode.{decode}
use Rattle.base.proofs.BoolLaws.{and_true}
use Rattle.record.proofs.SpanLaws.{split_one}
use Rattle.record.proofs.BytesLaws.{last_record, bytes_take, bytes_drop, bytes_body}
use Rattle.expr.proofs.AcceptLaws.{accept_encode, accept_expr, size_accepted}
use Rattle.semilinear.specs.Form.{Row, Form, atom_bytes, atoms_bytes, term_bytes, terms_bytes, sum_bytes, encode_form}
use Rattle.semilinear.specs.Form.{is_atom_tree, rows_ok, tree_records, valid_form}
use Rattle.semilinear.specs.Items.{provenance, front_number, front_word, atom_length, is_atom, tree_span, after_atom}
use Rattle.semilinear.specs.Items.{atom_count, atom_records, after_atoms, is_term}
use Rattle.semilinear.specs.Valid.{atom_ok, atoms_ok, term_ok, terms_ok, is_semilinear, length_refused}
use Rattle.semilinear.specs.Valid.{semilinear_refusal}
use Rattle.semilinear.specs.DecodeForm.{has_term, coeff_at, after_term, row_at, rows_of, decode_form}
use Rattle.semilinear.proofs.ItemsLaws.{atom_room, length_tree_span, fold_atom, fold_done, atoms_ind, rows_atom}
use Rattle.semilinear.proofs.ItemsLaws.{rows_end, term_big, term_kind, has_term_is}
use Rattle.semilinear.proofs.FrontLaws.{front_record}
use Rattle.semilinear.proofs.FormLaws.{Good, good_row, parts_form, form_not_refused, terms_bytes_zero}
use Rattle.semilinear.proofs.FormLaws.{terms_bytes_some}
use Rattle.semilinear.proofs.ValidLaws.{atom_parts, term_parts, terms_first, terms_nil, terms_later, SumParts}
use Rattle.semilinear.proofs.ValidLaws.{FrontParts, semilinear_parts}
use Rattle.semilinear.proofs.EncodeFormLaws.{form_accept}

-- ---- the atom and the term at the front

pub bytes_tree_span : (r : List ℕ) → IsBytes r → IsBytes (tree_span r)
unfolding tree_span
bytes_tree_span r h = bytes_take (16 * front_number r) (drop 16 r) (bytes_drop 16 r h)

-- the atom at the front
module _ (w : ℕ) (r : List ℕ) (h : IsBytes r) (e : is_atom r ≡ true) (ok : atom_ok w r ≡ true) where
  pub atom_size : size_of (decode (tree_span r)) ≡ front_number r
  atom_size =
      let p = atom_parts w r ok in
      omega (arith, size_accepted w (tree_span r) (bytes_tree_span r h) p.accepted, length_tree_span r e)

  pub atom_bytes_lem : take (atom_length r) r ≡ atom_bytes w (provenance r) (decode (tree_span r))
  unfolding atom_length atom_bytes tree_span
  atom_bytes_lem =
      let p = atom_parts w r ok in
      let room = atom_room r e in
      let hd = front_record r room.big h p.unused in
      let same : encode w (decode (tree_span r)) ≡ tree_span r =
      accept_encode w (tree_span r) (bytes_tree_span r h) p.accepted in
      take-add 16 (16 * front_number r) r ∙ rw (same, ← p.hash, atom_size, ← hd, room.head, p.wide)

-- the term at the front
module _ (w n next : ℕ) (q : List ℕ) (h : IsBytes q) (e : is_term q ≡ true) (ok : term_ok w n next q ≡ true) where
  pub term_bytes_lem : take 16 q ≡ term_bytes w (front_number q) (front_word q)
  unfolding term_bytes
  term_bytes_lem =
      let p = term_parts w n next q ok in
      let hd = front_record q (term_big q e) h p.unused in
      rw (← hd, term_kind q e, p.blank, p.wide)

pub bytes_after_atom : (r : List ℕ) → IsBytes r → IsBytes (after_atom r)
unfolding after_atom
bytes_after_atom r h = bytes_drop (atom_length r) r h

pub bytes_after_atoms : (r : List ℕ) → IsBytes r → IsBytes (after_atoms r)
bytes_after_atoms =
    atoms_ind (λ r. IsBytes r → IsBytes (after_atoms r)) (λ r e h. rw (fold_done (λ r. r) (λ r x. x) r e) h)
    (λ r e below h. rw (fold_atom (λ r. r) (λ r x. x) r e) (below (bytes_after_atom r h)))

-- ---- the rows of accepted atoms and terms

-- the term of atom i, where q are terms from number i on
record Term (w n i : ℕ) (q : List ℕ) : Type 0 where
  later : terms_ok w n (i + 1) (after_term i q) ≡ true
  fit : IsBytes (after_term i q)
  fits : coeff_at i q < 2 ^ w
  bytes : (x : Row) (l : List Row) → x.coeff ≡ coeff_at i q → terms_bytes w (i + 1) l ≡ after_term i q
      → terms_bytes w i (x ∷ l) ≡ q

term_read : (w n i : ℕ) (q : List ℕ) → IsBytes q → terms_ok w n i q ≡ true → Term w n i q
unfolding after_term coeff_at
term_read w n i q h ok = go (has_term i q) refl
  where
    go : (b : Bool) → has_term i q ≡ b → Term w n i q
    go true e =
        let is = has_term_is i q e in
        let both = terms_first w n i q ok is.0 in
        let p = term_parts w n i q both.0 in
        let c : coeff_at i q ≡ front_word q = simp e in
        let a : after_term i q ≡ drop 16 q = simp e in
        record {
          later = rw a (rw is.1 at both.1);
          fit = rw a (bytes_drop 16 q h);
          fits = rw c p.fits;
          bytes =
              λ x l same below.
              let same' : x.coeff ≡ front_word q = same ∙ c in
              terms_bytes_some w i x l (rw same' p.nonzero)
              ∙ rw (same', below, a, ← is.1, ← term_bytes_lem w n i q h is.0 both.0) (take-append-drop 16 q);
        }
    go false e =
        let c : coeff_at i q ≡ 0 = simp e in
        let a : after_term i q ≡ q = simp e in
        record {
          later = rw a (terms_later w n i q ok e);
          fit = rw a h;
          fits = rw c (pow_pos w);
          bytes = λ x l same below. terms_bytes_zero w i x l (same ∙ c) ∙ below ∙ a;
        }

-- the rows of atoms at the front of r, numbered from i, with the terms q
pub record Written (w i : ℕ) (r q : List ℕ) : Type 0 where
  pub atoms : atoms_bytes w (rows_of i r q) ++ after_atoms r ≡ r
  pub terms : terms_bytes w i (rows_of i r q) ≡ q
  pub rows_ok_lem : rows_ok w (rows_of i r q) ≡ true
  pub count : length (rows_of i r q) ≡ atom_count r
  pub records : tree_records (rows_of i r q) ≡ atom_records r

-- the row of an accepted atom
good_atom : (w i : ℕ) (r q : List ℕ) → IsBytes r → atom_ok w r ≡ true → coeff_at i q < 2 ^ w → Good w (row_at i r q)
unfolding row_at is_atom_tree
good_atom w i r q h ok fits =
    let p = atom_parts w r ok in
    record {
      known = p.known;
      atom = simp (accept_expr w (tree_span r) (bytes_tree_span r h) p.accepted, p.bitwise);
      fits = fits;
    }

module _ (w : ℕ) where
  Back : List ℕ → Type 0
  Back r = (i n : ℕ) (q : List ℕ) → n ≡ i + atom_count r → IsBytes r → IsBytes q → atoms_ok w r ≡ true
      → terms_ok w n i q ≡ true → Written w i r q

  back_done : (r : List ℕ) → is_atom r ≡ false → Back r
  unfolding Back atoms_bytes terms_bytes rows_ok tree_records
  back_done r e i n q same h k ok terms =
      let none = rows_end i r q e in
      let zero-count : atom_count r ≡ 0 = fold_done _ _ r e in
      record {
        atoms = rw none (fold_done _ _ r e);
        terms = rw none (go (is_term q) refl zero-count);
        rows_ok_lem = rw none;
        count = rw none (sym zero-count);
        records = rw none (sym (fold_done _ _ r e));
      }
    where
      go : (b : Bool) → is_term q ≡ b → atom_count r ≡ 0 → [] ≡ q
      go true t z =
          let p = term_parts w n i q (terms_first w n i q terms t).0 in
          absurd (omega (arith, p.low, p.high))
      go false t z = terms_nil w n i q terms t

  back_atom : (r : List ℕ) → is_atom r ≡ true → Back (after_atom r) → Back r
  unfolding Back atoms_bytes rows_ok tree_records after_atom row_at
  back_atom r e below i n q same h k ok terms =
      let both = and_true (atom_ok w r) (atoms_ok w (after_atom r)) (sym (fold_atom _ _ r e) ∙ ok) in
      let counts : atom_count r ≡ 1 + atom_count (after_atom r) = fold_atom _ _ r e in
      let sizes : atom_records r ≡ front_number r + atom_records (after_atom r) = fold_atom _ _ r e in
      let past : after_atoms r ≡ after_atoms (after_atom r) = fold_atom _ _ r e in
      let t = term_read w n i q k terms in
      let b : Written w (i + 1) (after_atom r) (after_term i q) =
      below (i + 1) n (after_term i q) (omega arith) (bytes_after_atom r h) t.fit both.1 t.later in
      let first = rows_atom i r q e in
      let l : List Row = rows_of (i + 1) (after_atom r) (after_term i q) in
      let atom : List ℕ = atom_bytes w (provenance r) (decode (tree_span r)) in
      record {
        atoms =
            rw (first, past)
            (append_assoc atom (atoms_bytes w l) (after_atoms (after_atom r))
            ∙ rw (b.atoms, ← atom_bytes_lem w r h e both.0) (take-append-drop (atom_length r) r));
        terms = rw first (t.bytes (row_at i r q) l refl b.terms);
        rows_ok_lem = rw first (simp (good_row w (row_at i r q) (good_atom w i r q h both.0 t.fits), b.rows_ok_lem));
        count = rw (first, counts) (omega (arith, b.count));
        records = rw (first, sizes) (omega (arith, b.records, atom_size w r h e both.0));
      }

  pub rows_written : (r : List ℕ) (i n : ℕ) (q : List ℕ) → n ≡ i + atom_count r → IsBytes r → IsBytes q
      → atoms_ok w r ≡ true → terms_ok w n i q ≡ true → Written w i r q
  unfolding Back
  rows_written = atoms_ind Back back_done back_atom

-- ---- accepted bytes

module _ (s : List ℕ) (h : IsBytes s) (ok : is_semilinear s ≡ true) where
  sum : SumParts s
  sum = (semilinear_parts s ok).0

  front : FrontParts (width s) (body s)
  front = (semilinear_parts s ok).1

  pub written : Written (width s) 0 (body s) (after_atoms (body s))
  written =
      let hb = bytes_body s h in
      rows_written (width s) (body s) 0 (atom_count (body s)) (after_atoms (body s)) (omega arith) hb
      (bytes_after_atoms (body s) hb) front.atoms front.terms

  pub form_encode : encode_form (decode_form s) ≡ s
  unfolding encode_form decode_form sum_bytes
  form_encode =
      let last : record_bytes 32 0 0 (width s) (literal s) ≡ drop (length s - 16) s =
      rw (sum.kind_sum, sum.blank, sum.no_size) at (last_record s sum.big h sum.unused) in
      rw (written.terms, written.atoms, last) (split_one s)

  pub form_valid : valid_form (decode_form s) ≡ true
  unfolding decode_form
  form_valid =
      parts_form (decode_form s)
      record {
        width_pos = sum.width_pos;
        width_le = sum.width_le;
        fits = sum.fits;
        atoms_le = rw written.count front.atoms_le;
        records_le = rw written.records front.records_le;
        rows_ok_lem = written.rows_ok_lem;
      }

  -- their length is allowed, so that no refusal applies
  pub length_accepted : length_refused s ≡ false
  length_accepted = rw form_encode at (form_not_refused (decode_form s) form_valid)

  pub refusal_none : semilinear_refusal s ≡ 0
  unfolding semilinear_refusal
  refusal_none = simp (length_accepted, ok)

pub accepted_semilinear : (s : List ℕ) → semilinear_refusal s ≡ 0 → is_semilinear s ≡ true
unfolding semilinear_refusal
accepted_semilinear s e = go (length_refused s) (is_semilinear s) refl e
  where
    go : (a b : Bool) → is_semilinear s ≡ b
        → ◌≡◌ {A = ℕ} (when a (λ _. 1) (λ _. when b (λ _. 0) (λ _. 10))) 0 → is_semilinear s ≡ true
    go true b f z = absurd (omega arith)
    go false true f z = f
    go false false f z = absurd (omega arith)

-- ---- both ways

-- bytes are accepted just where they are the bytes of a valid form
pub semilinears : (s : List ℕ) → IsBytes s
    → (is_semilinear s ≡ true) ↔ ((f : Form) × (valid_form f ≡ true) × (encode_form f ≡ s))
semilinears s h = (
  λ e. (decode_form s, form_valid s h e, form_encode s h e),
  λ p. rw p.2 at (form_accept p.0 p.1),
)

-- and so where no refusal applies, that of the length included
pub no_refusal : (s : List ℕ) → IsBytes s
    → (semilinear_refusal s ≡ 0) ↔ ((f : Form) × (valid_form f ≡ true) × (encode_form f ≡ s))
no_refusal s h = (
  λ e. (semilinears s h).0 (accepted_semilinear s e),
  λ p. refusal_none s h ((semilinears s h).1 p),
)
