-- The bytes of rows: what is read of the atoms and the terms of valid rows, and that they are as they must be.
use mathlib.Core.Path.{◌≡◌, refl, ◌∙◌}
use Prim.Native.Nat.{ℕ, ◌+◌, ◌^◌, ◌≤◌, ◌<◌}
use native.Mathlib.Omega.{arith}
use native.Mathlib.Decide.{ℕ_discrete}
use mathlib.Core.List.{List, [], ◌∷◌, ◌++◌, append_assoc}
use mathlib.Core.Bool.{true, false, not, ◌&&◌}
use lib.ListN.{length}
use lib.Pow.{pow_mono}
use Rattle.record.specs.Tree.{Tree}
use Rattle.base.proofs.BoolLaws.{and_true}
use Rattle.expr_refusal.specs.Refusal.{is_expr}
use Rattle.expr_utils.specs.Utils.{has_var_dep, has_arith}
use Rattle.expr.proofs.HashLaws.{structural_hash_lt}
use Rattle.expr.proofs.IsExprLaws.{decode_encode}
use Rattle.expr.proofs.AcceptLaws.{expr_accept}
use Rattle.semilinear.specs.Form.{Row, atom_bytes, atoms_bytes, term_bytes, terms_bytes, is_atom_tree, rows_ok}
use Rattle.semilinear.specs.Form.{tree_records}
use Rattle.semilinear.specs.Items.{front_number, is_atom, after_atom, atom_count, atom_records, after_atoms, is_term}
use Rattle.semilinear.specs.Valid.{atom_ok, atoms_ok, term_ok, terms_ok}
use Rattle.semilinear.specs.DecodeForm.{has_term, coeff_at, after_term, row_at, rows_of}
use Rattle.semilinear.proofs.ItemsLaws.{fold_atom, fold_done, rows_atom, rows_end}
use Rattle.semilinear.proofs.FrontLaws.{atom_front, provenance_atom, number_atom, width_atom, spare_atom}
use Rattle.semilinear.proofs.FrontLaws.{word_atom, tree_span_atom, after_atom_atom, term_front, term_not_atom}
use Rattle.semilinear.proofs.FrontLaws.{provenance_term, number_term, width_term, spare_term, word_term}
use Rattle.semilinear.proofs.FrontLaws.{drop_term, has_term_other, coeff_front, after_term_front}
use Rattle.semilinear.proofs.FormLaws.{Good, rows_cons, terms_bytes_zero, terms_bytes_some}
use Rattle.semilinear.proofs.ValidLaws.{atom_of_parts, term_of_parts, terms_end, terms_term}

-- ---- the terms of rows

-- no atom stands at their front
pub terms_not_atom : (w i : ℕ) (l : List Row) → is_atom (terms_bytes w i l) ≡ false
unfolding terms_bytes is_atom
terms_not_atom w i [] = refl
terms_not_atom w i (x ∷ l) = go (ℕ_discrete x.coeff 0) (terms_not_atom w (i + 1) l)
  where
    go : Dec (x.coeff ≡ 0) → is_atom (terms_bytes w (i + 1) l) ≡ false → is_atom (terms_bytes w i (x ∷ l)) ≡ false
    go (yes z) below = rw (terms_bytes_zero w i x l z) below
    go (no z) below = rw (terms_bytes_some w i x l z) (term_not_atom w i x.coeff (terms_bytes w (i + 1) l))

-- nor a term of a row before them
pub has_term_later : (w i j : ℕ) (l : List Row) → i < j → has_term i (terms_bytes w j l) ≡ false
unfolding terms_bytes has_term is_term
has_term_later w i j [] h = refl
has_term_later w i j (x ∷ l) h = go (ℕ_discrete x.coeff 0) (has_term_later w i (j + 1) l (omega arith))
  where
    go : Dec (x.coeff ≡ 0) → has_term i (terms_bytes w (j + 1) l) ≡ false → has_term i (terms_bytes w j (x ∷ l)) ≡ false
    go (yes z) below = rw (terms_bytes_zero w j x l z) below
    go (no z) below =
        rw (terms_bytes_some w j x l z) (has_term_other w j x.coeff (terms_bytes w (j + 1) l) i (omega arith))

-- ---- valid rows

pub atom_expr_parts : (t : Tree) → is_atom_tree t ≡ true → (is_expr t ≡ true) × (has_var_dep t && not (has_arith t) ≡ true)
unfolding is_atom_tree
atom_expr_parts t e = and_true (is_expr t) (has_var_dep t && not (has_arith t)) e

-- what is read of the atoms of rows, with r after them
pub record Read (w : ℕ) (l : List Row) (r : List ℕ) : Type 0 where
  pub atoms_ok_lem : atoms_ok w (atoms_bytes w l ++ r) ≡ true
  pub count : atom_count (atoms_bytes w l ++ r) ≡ length l
  pub records : atom_records (atoms_bytes w l ++ r) ≡ tree_records l
  pub after : after_atoms (atoms_bytes w l ++ r) ≡ r
  pub rows : (i : ℕ) → rows_of i (atoms_bytes w l ++ r) (terms_bytes w i l) ≡ l

pub word_lt : (w v : ℕ) → w ≤ 64 → v < 2 ^ w → v < 2 ^ 64
word_lt w v le h = omega (arith, pow_mono le)

module _ (w : ℕ) (pos : 1 ≤ w) (le : w ≤ 64) where
  -- the terms of valid rows from number i on are as they must be
  pub terms_accept : (l : List Row) (i j n : ℕ) → rows_ok w l ≡ true → j ≤ i → i + length l ≤ n
      → terms_ok w n j (terms_bytes w i l) ≡ true
  unfolding terms_bytes
  terms_accept [] i j n ok low high = terms_end w n j [] refl
  terms_accept (x ∷ l) i j n ok low high =
      let p = rows_cons w x l ok in
      go (ℕ_discrete x.coeff 0) p.0
      (terms_accept l (i + 1) j n p.1 (omega arith) (omega arith))
      (terms_accept l (i + 1) (i + 1) n p.1 (omega arith) (omega arith))
    where
      go : Dec (x.coeff ≡ 0) → Good w x → terms_ok w n j (terms_bytes w (i + 1) l) ≡ true
          → terms_ok w n (i + 1) (terms_bytes w (i + 1) l) ≡ true → terms_ok w n j (terms_bytes w i (x ∷ l)) ≡ true
      go (yes z) good same next = rw (terms_bytes_zero w i x l z) same
      go (no z) good same next =
          let c : ℕ = x.coeff in
          let r : List ℕ = terms_bytes w (i + 1) l in
          let q : List ℕ = term_bytes w i c ++ r in
          let num : front_number q ≡ i = number_term w i c r in
          let word = word_term w i c r (word_lt w c le good.fits) in
          let ok : term_ok w n j q ≡ true =
          term_of_parts w n j q
          record {
            blank = provenance_term w i c r;
            low = rw num low;
            high = rw num (omega arith);
            wide = width_term w i c r;
            unused = spare_term w i c r;
            nonzero = rw word z;
            fits = rw word good.fits;
          } in
          rw (terms_bytes_some w i x l z)
          (terms_term w n j q (term_front w i c r) ∙ simp (ok, num, drop_term w i c r, next))

  pub atom_accept : (p : ℕ) (t : Tree) (r : List ℕ) → p ≤ 4 → is_atom_tree t ≡ true
      → atom_ok w (atom_bytes w p t ++ r) ≡ true
  atom_accept p t r known e =
      let tree = atom_expr_parts t e in
      let span = tree_span_atom w p t r in
      let back = decode_encode w t tree.0 in
      atom_of_parts w (atom_bytes w p t ++ r)
      record {
        known = rw (provenance_atom w p t r) known;
        wide = width_atom w p t r;
        unused = spare_atom w p t r;
        accepted = rw span (expr_accept w pos le t tree.0);
        bitwise = rw (span, back) tree.1;
        hash = rw (span, back) (word_atom w p t r (structural_hash_lt t tree.0));
      }

  -- a valid row, read of the atoms and the terms that begin with it
  module _ (i : ℕ) (x : Row) (l : List Row) (good : Good w x) where
    coeff_row : coeff_at i (terms_bytes w i (x ∷ l)) ≡ x.coeff
    unfolding coeff_at
    coeff_row = go (ℕ_discrete x.coeff 0)
      where
        go : Dec (x.coeff ≡ 0) → coeff_at i (terms_bytes w i (x ∷ l)) ≡ x.coeff
        go (yes z) =
            rw (terms_bytes_zero w i x l z) (simp (has_term_later w i (i + 1) l (omega arith), z))
        go (no z) =
            rw (terms_bytes_some w i x l z)
            (coeff_front w i x.coeff (terms_bytes w (i + 1) l) (word_lt w x.coeff le good.fits))

    after_row : after_term i (terms_bytes w i (x ∷ l)) ≡ terms_bytes w (i + 1) l
    unfolding after_term
    after_row = go (ℕ_discrete x.coeff 0)
      where
        go : Dec (x.coeff ≡ 0) → after_term i (terms_bytes w i (x ∷ l)) ≡ terms_bytes w (i + 1) l
        go (yes z) = rw (terms_bytes_zero w i x l z) (simp (has_term_later w i (i + 1) l (omega arith)))
        go (no z) =
            rw (terms_bytes_some w i x l z) (after_term_front w i x.coeff (terms_bytes w (i + 1) l))

    module _ (r : List ℕ) where
      row_read : row_at i (atom_bytes w x.provenance x.tree ++ r) (terms_bytes w i (x ∷ l)) ≡ x
      unfolding row_at
      row_read =
          simp (
            provenance_atom w x.provenance x.tree r,
            tree_span_atom w x.provenance x.tree r,
            decode_encode w x.tree (atom_expr_parts x.tree good.atom).0,
            coeff_row,
          )

      rows_step : rows_of (i + 1) r (terms_bytes w (i + 1) l) ≡ l
          → rows_of i (atom_bytes w x.provenance x.tree ++ r) (terms_bytes w i (x ∷ l)) ≡ x ∷ l
      rows_step below =
          let s : List ℕ = atom_bytes w x.provenance x.tree ++ r in
          rows_atom i s (terms_bytes w i (x ∷ l)) (atom_front w x.provenance x.tree r)
          ∙ simp (row_read, after_atom_atom w x.provenance x.tree r, after_row, below)

  -- all that is read of valid rows, where no atom stands after them
  pub rows_read : (l : List Row) (r : List ℕ) → rows_ok w l ≡ true → is_atom r ≡ false → Read w l r
  unfolding atoms_bytes tree_records
  rows_read [] r ok e =
      record {
        atoms_ok_lem = fold_done _ _ r e;
        count = fold_done _ _ r e;
        records = fold_done _ _ r e;
        after = fold_done _ _ r e;
        rows = λ i. rows_end i r (terms_bytes w i []) e;
      }
  rows_read (x ∷ l) r ok e =
      let p = rows_cons w x l ok in
      cons p.0 (rows_read l r p.1 e)
    where
      cons : Good w x → Read w l r → Read w (x ∷ l) r
      cons good below =
          let k : ℕ = x.provenance in
          let t : Tree = x.tree in
          let m : List ℕ = atoms_bytes w l ++ r in
          let s : List ℕ = atom_bytes w k t ++ m in
          let at : is_atom s ≡ true = atom_front w k t m in
          let past : after_atom s ≡ m = after_atom_atom w k t m in
          let same : atoms_bytes w (x ∷ l) ++ r ≡ s = append_assoc (atom_bytes w k t) (atoms_bytes w l) r in
          record {
            atoms_ok_lem =
                rw same
                (fold_atom _ _ s at
                ∙ simp (atom_accept k t m good.known good.atom, past, below.atoms_ok_lem));
            count = rw same (fold_atom _ _ s at ∙ simp (past, below.count) (omega arith));
            records = rw same (fold_atom _ _ s at ∙ simp (past, number_atom w k t m, below.records));
            after = rw same (fold_atom _ _ s at ∙ simp (past, below.after));
            rows = λ i. rw same (rows_step i x l good m (below.rows (i + 1)));
          }
