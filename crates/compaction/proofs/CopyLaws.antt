-- The copy of the used rows on its way: what holds of it, that each turn keeps it, and what it comes to.
use mathlib.Core.Path.{◌≡◌, refl, ap, ap₂, sym, ◌∙◌}
use Prim.Native.Nat.{ℕ, ◌+◌, ◌≤◌}
use native.Mathlib.Omega.{arith}
use native.Mathlib.Nat.{zero-add}
use mathlib.Core.List.{List, [], ◌++◌, append_assoc, append-nil}
use mathlib.Core.Bool.{true, false}
use lib.ListN.{length, drop, length-append}
use Rattle.base.specs.Put.{put, padded}
use Rattle.record.specs.Tree.{IsBytes}
use Rattle.base.proofs.PutLaws.{put_padded_at, length_padded}
use Rattle.std.specs.Option.{is_some}
use Rattle.record.specs.Span.{sized}
use Rattle.record.specs.Decode.{decode}
use Rattle.expr.specs.Hash.{structural_hash}
use Rattle.semilinear.specs.declared.items.FormRow.{FormRow}
use Rattle.semilinear.specs.Atoms.{RowsLeft, FrontRow}
use Rattle.semilinear.proofs.AcceptLaws.{bytes_after_atom}
use Rattle.semilinear.proofs.ScanLaws.{given_length}
use Rattle.semilinear.proofs.WalkLaws.{row_is_some}
use Rattle.atom_table.proofs.TableLaws.{length_atom_span}
use Rattle.atom_table.proofs.TermLengthLaws.{put_none}
use Rattle.atom_table.specs.declared.table.Written.{Written}
use Rattle.semilinear.specs.Form.{Row, atoms_bytes, terms_bytes}
use Rattle.semilinear.specs.Items.{is_atom, atom_length, after_atoms, atom_count}
use Rattle.semilinear.specs.Valid.{atoms_ok, terms_ok}
use Rattle.semilinear.specs.DecodeForm.{read_rows}
use Rattle.compaction.specs.Compact.{used_rows, renumber, TermsCopied, FrontCopied}
use Rattle.semilinear.specs.Scan.{AtomsEnd}
use Rattle.semilinear.proofs.ItemsLaws.{atom_room, length_after_atom, fold_atom, fold_done}
use Rattle.semilinear.proofs.RetiredLaws.{read_rows_end}
use Rattle.atom_table.specs.Table.{atom_span}
use Rattle.atom_table.proofs.SpansLaws.{atom_ready}
use Rattle.semilinear.proofs.FormLaws.{length_terms}
use Rattle.semilinear.proofs.ValidLaws.{FrontParts, first_atom_ok, later_atoms_ok}
use Rattle.compaction.proofs.CompactLaws.{terms_after, used_bytes, bytes_none, bytes_some, used_atoms, used_terms}

abbrev left : RowsLeft → List Row
left s = read_rows s.number s.atoms s.terms

-- the used atoms before those that s has left are put, up to `to`
pub record Copied (w : ℕ) (f : List ℕ) (to : ℕ) (out : List ℕ) (s : RowsLeft) : Type 0 where
  pub to_le : to + length s.atoms ≤ length f
  pub bytes : IsBytes s.atoms
  pub atoms : atoms_ok w s.atoms ≡ true
  pub terms : terms_ok w (s.number + atom_count s.atoms) s.number s.terms ≡ true
  pub end : after_atoms s.atoms ≡ after_atoms f
  pub done : List ℕ
  pub place : to ≡ length done
  pub written : out ≡ padded 57360 done
  pub all : done ++ atoms_bytes w (used_rows (left s)) ≡ atoms_bytes w (used_rows (read_rows 0 f (after_atoms f)))

module _ (w : ℕ) (f : List ℕ) (small : length f ≤ 57344) where
  pub copied_length : (to : ℕ) (out : List ℕ) (s : RowsLeft) → Copied w f to out s → length out ≡ 57360
  copied_length to out s h =
      ap length h.written
      ∙ length_padded 57360 h.done (omega (arith, h.place, h.to_le))

  pub copied_start : IsBytes f → FrontParts w f → (terms : ℕ) → AtomsEnd f terms → (out : List ℕ) → out ≡ padded 57360 []
      → Copied w f 0 out (record { number = 0; atoms = f; terms = drop terms f })
  copied_start bytes p terms e out z =
      record {
        to_le = omega arith;
        bytes = bytes;
        atoms = p.atoms;
        terms = rw (e.rest, zero-add (atom_count f)) p.terms;
        end = refl;
        done = [];
        place = refl;
        written = z;
        all = ap (λ (q : List ℕ). atoms_bytes w (used_rows (read_rows 0 f q))) e.rest;
      }

  module _ (to : ℕ) (out : List ℕ) {s t : RowsLeft} {x : FormRow} (h : Copied w f to out s) (g : FrontRow s x t) where
    long : ℕ
    long = 16 + length x.atom.tree.now

    room : to + long + length t.atoms ≤ length f
    unfolding long atom_length
    room =
        omega (
          arith,
          h.to_le,
          given_length g.atom,
          (atom_room s.atoms g.atom.stands).fits,
          length_after_atom s.atoms,
          ap length g.atom.rest,
        )

    -- what `put_atom` asks
    pub copied_ready : (to + 16 + length x.atom.tree.now ≤ length out)
        × (sized x.atom.tree.now ≡ true) × (x.atom.hash ≡ structural_hash (decode x.atom.tree.now))
    unfolding long
    copied_ready =
        let r = atom_ready w s.atoms (first_atom_ok w s.atoms h.atoms g.atom.stands) in (
          omega (arith, room, copied_length to out s h),
          rw g.atom.tree r.0,
          g.atom.hash ∙ rw g.atom.tree r.1,
        )

    more : (u : List ℕ) → used_bytes w s.number s.atoms s.terms ≡ u → length u ≤ long → (y : ℕ) → y ≡ to + length u
        → (out' : List ℕ) → out' ≡ put out to u → Copied w f y out' t
    more u eu lu y ey out' eo =
        let r : List ℕ = s.atoms in
        let i : ℕ = s.number in
        let n : ℕ = i + atom_count r in
        let e = g.atom.stands in
        let count : n ≡ t.number + atom_count t.atoms =
        omega (arith, fold_atom (λ r. 0) (λ r m. 1 + m) r e, ap atom_count g.atom.rest, g.after) in
        let row : atoms_bytes w (used_rows (left s)) ≡ u ++ atoms_bytes w (used_rows (left t)) =
        used_atoms w n i r s.terms e h.terms h.bytes (first_atom_ok w r h.atoms e)
        ∙ rw (g.after, g.atom.rest, g.terms, eu) refl in
        record {
          to_le = omega (arith, ey, lu, room);
          bytes = rw g.atom.rest (bytes_after_atom r h.bytes);
          atoms = rw g.atom.rest (later_atoms_ok w r h.atoms e);
          terms = rw (← count) (rw (g.after, g.terms) (terms_after w n i r s.terms e h.terms));
          end = ap after_atoms g.atom.rest ∙ sym (fold_atom (λ r. r) (λ r x. x) r e) ∙ h.end;
          done = h.done ++ u;
          place = omega (arith, ey, h.place, length-append h.done u);
          written = eo ∙ ap (λ (d : List ℕ). put d to u) h.written ∙ put_padded_at 57360 h.done u to h.place;
          all = append_assoc h.done u _ ∙ ap (λ (l : List ℕ). h.done ++ l) (sym row) ∙ h.all;
        }

    pub copied_without : is_some x.coeff ≡ false → Copied w f to out t
    copied_without e =
        more [] (bytes_none w s.number s.atoms s.terms (sym (row_is_some g) ∙ e)) (omega arith) to (omega arith) out
        (put_none out to)

    pub copied_with : is_some x.coeff ≡ true → (out' : List ℕ) → out' ≡ put out to (atom_span w x.atom.tree.now)
        → Copied w f (to + (16 + length x.atom.tree.now)) out' t
    unfolding long
    copied_with e out' p =
        let n = length_atom_span w x.atom.tree.now in
        more (atom_span w x.atom.tree.now)
        (bytes_some w s.number s.atoms s.terms (sym (row_is_some g) ∙ e) ∙ ap (atom_span w) (sym g.atom.tree))
        (omega (arith, n)) _ (omega (arith, n)) out' p

  -- the atoms are done: where they end, and what the terms then come to
  module _ (to : ℕ) (out : List ℕ) (s : RowsLeft) (h : Copied w f to out s) (e : is_atom s.atoms ≡ false) where
    abbrev rows : List Row
    rows = read_rows 0 f (after_atoms f)

    pub atoms_end : s.atoms ≡ after_atoms f
    atoms_end = sym (fold_done (λ r. r) (λ r x. x) s.atoms e) ∙ h.end

    atoms_done : h.done ≡ atoms_bytes w (used_rows rows)
    unfolding used_rows atoms_bytes
    atoms_done =
        let none : left s ≡ [] = read_rows_end s.number s.atoms s.terms e in
        sym (append-nil h.done)
        ∙ ap (λ (l : List Row). h.done ++ atoms_bytes w (used_rows l)) (sym none)
        ∙ h.all

    pub terms_room : (terms : ℕ) → AtomsEnd f terms → {q : List ℕ} → q ≡ drop terms f
        → (to + length q ≤ length out) × (length q ≤ 57360)
    terms_room terms end eq =
        let l = ap length (eq ∙ end.rest ∙ sym atoms_end) in
        (omega (arith, l, h.to_le, copied_length to out s h), omega (arith, l, h.to_le))

    pub copied_front : FrontParts w f → (terms : ℕ) → AtomsEnd f terms → {q : List ℕ} → q ≡ drop terms f
        → (out' : List ℕ) (r : Written) → TermsCopied w to q out out' r → FrontCopied w 57360 rows out' r
    copied_front p terms end {q} eq out' r c =
        let t : List ℕ = terms_bytes w 0 (used_rows rows) in
        let a : List ℕ = atoms_bytes w (used_rows rows) in
        let same : renumber w 0 q ≡ t =
        ap (renumber w 0) (eq ∙ end.rest)
        ∙ sym (used_terms w f 0 0 (atom_count f) (after_atoms f) (sym (zero-add (atom_count f))) p.terms) in
        let at : to ≡ length a = h.place ∙ ap length atoms_done in
        record {
          place = omega (arith, c.place, at, ap length same, length-append a t);
          count = omega (arith, c.count, ap length same, length_terms w 0 (used_rows rows));
          written =
              c.written
              ∙ ap₂ (λ (d z : List ℕ). put d to z) (h.written ∙ ap (padded 57360) atoms_done) same
              ∙ put_padded_at 57360 a t to at;
        }
