-- Laws of the atoms that are copied with new heads (specs/Table.antt, `atom_spans`): an accepted atom as a new one, that
-- all of them are the bytes of the rows that are read, and what holds while they are put one after the other.
use mathlib.Core.Path.{◌≡◌, refl, ap, ap₂, sym, ◌∙◌}
use Prim.Native.Nat.{ℕ, ◌+◌, ◌≤◌}
use native.Mathlib.Omega.{arith}
use mathlib.Core.List.{List, [], ◌++◌}
use mathlib.Core.Bool.{true, false}
use lib.ListN.{length}
use Rattle.base.specs.Put.{put}
use Rattle.base.proofs.PutLaws.{length_put, put_then}
use Rattle.record.specs.Tree.{IsBytes}
use Rattle.record.specs.Decode.{decode}
use Rattle.expr.proofs.AcceptLaws.{accept_encode}
use Rattle.semilinear.specs.Form.{head_byte, atom_bytes, atoms_bytes}
use Rattle.expr.specs.Hash.{structural_hash}
use Rattle.record.specs.Span.{sized}
use Rattle.semilinear.specs.Items.{front_word, atom_length, is_atom, tree_span, after_atom}
use Rattle.semilinear.specs.declared.items.Atom.{Atom}
use Rattle.semilinear.specs.Atoms.{FrontAtom}
use Rattle.semilinear.specs.Valid.{atom_ok, atoms_ok}
use Rattle.semilinear.specs.DecodeForm.{after_term, row_at, read_rows}
use Rattle.semilinear.proofs.ItemsLaws.{length_tree_span, fold_atom, fold_done, atoms_ind}
use Rattle.semilinear.proofs.ScanLaws.{Scanned, passed_none, passed_table, passed_atom, given_length, atom_inside}
use Rattle.semilinear.proofs.ValidLaws.{atom_parts, first_atom_ok, later_atoms_ok}
use Rattle.semilinear.proofs.AcceptLaws.{bytes_tree_span, bytes_after_atom}
use Rattle.semilinear.proofs.RetiredLaws.{read_rows_atom, read_rows_end}
use Rattle.expr_refusal.proofs.RefusalLaws.{sized_accepted}
use Rattle.atom_table.specs.Table.{atom_span, atom_spans, AtomsPut}
use Rattle.atom_table.proofs.TableLaws.{length_atom_span}
use Rattle.atom_table.proofs.HoldsLaws.{span_same}
use Rattle.atom_table.proofs.TermLengthLaws.{put_none}

-- ---- an accepted atom as a new one

pub length_span : (w : ℕ) (r : List ℕ) → is_atom r ≡ true → length (atom_span w (tree_span r)) ≡ atom_length r
unfolding atom_length
length_span w r e = omega (arith, length_atom_span w (tree_span r), length_tree_span r e)

-- what `put_atom` asks of its tree and its hash
pub atom_ready : (w : ℕ) (r : List ℕ) → atom_ok w r ≡ true
    → (sized (tree_span r) ≡ true) × (front_word r ≡ structural_hash (decode (tree_span r)))
atom_ready w r ok = let p = atom_parts w r ok in (sized_accepted w (tree_span r) p.accepted, p.hash)

pub span_atom : (w : ℕ) (r : List ℕ) → IsBytes r → atom_ok w r ≡ true
    → atom_span w (tree_span r) ≡ atom_bytes w head_byte (decode (tree_span r))
span_atom w r h ok =
    let p = atom_parts w r ok in
    span_same w (tree_span r) (sized_accepted w (tree_span r) p.accepted)
    (accept_encode w (tree_span r) (bytes_tree_span r h) p.accepted)

-- all of them: the bytes of the rows that are read
module _ (w : ℕ) where
  Reads : List ℕ → Type 0
  Reads r = IsBytes r → atoms_ok w r ≡ true → (i : ℕ) (q : List ℕ) → atom_spans w r ≡ atoms_bytes w (read_rows i r q)

  reads_done : (r : List ℕ) → is_atom r ≡ false → Reads r
  unfolding Reads atoms_bytes
  reads_done r e h ok i q = fold_done _ _ r e ∙ sym (ap (atoms_bytes w) (read_rows_end i r q e))

  reads_atom : (r : List ℕ) → is_atom r ≡ true → Reads (after_atom r) → Reads r
  unfolding Reads atoms_bytes row_at
  reads_atom r e below h ok i q =
      fold_atom _ _ r e
      ∙ ap₂ (λ (a b : List ℕ). a ++ b) (span_atom w r h (first_atom_ok w r ok e))
      (below (bytes_after_atom r h) (later_atoms_ok w r ok e) (i + 1) (after_term i q))
      ∙ sym (ap (atoms_bytes w) (read_rows_atom i r q e))

  pub spans_read : (r : List ℕ) → IsBytes r → atoms_ok w r ≡ true → (i : ℕ) (q : List ℕ)
      → atom_spans w r ≡ atoms_bytes w (read_rows i r q)
  unfolding Reads
  spans_read = atoms_ind Reads reads_done reads_atom

-- ---- one after the other

-- the atoms before the place `at`, so many with so many tree records, are put: with those that r has left, all are
pub record SpansPut (w : ℕ) (f before : List ℕ) (at count records : ℕ) (after r : List ℕ) : Type 0 where
  pub scanned : Scanned f at count records r
  pub left_ok : atoms_ok w r ≡ true
  pub long : length after ≡ length before
  pub all : put after at (atom_spans w r) ≡ put before 0 (atom_spans w f)

module _ (w : ℕ) (f before : List ℕ) (room : length f ≤ length before) where
  pub spans_none : atoms_ok w f ≡ true → SpansPut w f before 0 0 0 before f
  spans_none ok = record { scanned = passed_none f; left_ok = ok; long = refl; all = refl }

  module _ (at count records : ℕ) (after : List ℕ) {r : List ℕ} (h : SpansPut w f before at count records after r) where
    pub spans_all : is_atom r ≡ false
        → AtomsPut w f before after (record { at = at; count = count; records = records; full = false })
    spans_all end =
        let none : atom_spans w r ≡ [] = fold_done _ _ r end in
        record {
          found = passed_table f at count records h.scanned end;
          more = refl;
          written = put_none after at ∙ ap (put after at) (sym none) ∙ h.all;
        }

    module _ {a : Atom} {t : List ℕ} (g : FrontAtom r a t) where
      pub span_ready : (sized a.tree.now ≡ true) × (a.hash ≡ structural_hash (decode a.tree.now))
      span_ready =
          let p = atom_ready w r (first_atom_ok w r h.left_ok g.stands) in
          (rw g.tree p.0, g.hash ∙ rw g.tree p.1)

      -- the end of the atom stands within both
      pub span_room : at + 16 + length a.tree.now ≤ length after
      span_room = omega (arith, atom_inside f at r h.scanned.left g.stands h.scanned.inside, given_length g, h.long, room)

      pub spans_more : {out : List ℕ} → out ≡ put after at (atom_span w a.tree.now)
          → SpansPut w f before (at + (16 + length a.tree.now)) (count + 1) (records + a.size) out t
      spans_more {out} p =
          let x : List ℕ = atom_span w a.tree.now in
          let n : length x ≡ 16 + length a.tree.now = length_atom_span w a.tree.now in
          let fits : at + length x ≤ length after = omega (arith, n, span_room) in
          let rest : List ℕ = atom_spans w t in
          let step : atom_spans w r ≡ x ++ rest =
          fold_atom _ _ r g.stands ∙ rw (g.tree, g.rest) refl in
          record {
            scanned = passed_atom g f at count records h.scanned;
            left_ok = rw g.rest (later_atoms_ok w r h.left_ok g.stands);
            long = ap length p ∙ length_put after at x fits ∙ h.long;
            all =
                ap (λ (d : List ℕ). put d (at + (16 + length a.tree.now)) rest) p
                ∙ put_then after at x rest (at + (16 + length a.tree.now)) fits (omega (arith, n))
                ∙ ap (put after at) (sym step)
                ∙ h.all;
          }
