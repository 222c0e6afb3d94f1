-- Compacting: a row that is copied or left, and the copy on its way.
use mathlib.Core.Path.{◌≡◌, refl, ap, sym, subst, ◌∙◌}
use Prim.Native.Nat.{ℕ, ◌+◌}
use native.Mathlib.Omega.{arith}
use mathlib.Core.List.{List, [], ◌∷◌, ◌++◌}
use mathlib.Core.Bool.{Bool, true, false}
use lib.ListN.{drop}
use borrow.Author.Tests.{ne_eqb}
use Rattle.base.specs.Choice.{when}
use Rattle.record.specs.Tree.{IsBytes}
use Rattle.record.specs.Decode.{decode}
use Rattle.semilinear.specs.Form.{Row, new_row, atoms_bytes, term_bytes, terms_bytes}
use Rattle.semilinear.specs.Items.{front_word, is_atom, is_term, tree_span}
use Rattle.semilinear.specs.Items.{after_atom, atom_count}
use Rattle.semilinear.specs.Valid.{atom_ok, terms_ok}
use Rattle.semilinear.specs.DecodeForm.{has_term, coeff_at, after_term, row_at, read_rows}
use Rattle.compaction.specs.Compact.{used_rows, renumber}
use Rattle.semilinear.proofs.ItemsLaws.{fold_atom, fold_done, atoms_ind}
use Rattle.semilinear.proofs.ItemsLaws.{has_term_is, after_some, after_none}
use Rattle.semilinear.proofs.ValidLaws.{terms_first, terms_later, term_parts}
use Rattle.semilinear.proofs.RetiredLaws.{read_rows_atom, read_rows_end}
use Rattle.atom_table.specs.Table.{atom_span}
use Rattle.atom_table.proofs.SpansLaws.{span_atom}
use Rattle.compaction.proofs.RenumberLaws.{renumber_term, renumber_end}

-- the atom r of that number as a new one where it has a term among q, else nothing
pub used_bytes : ℕ → ℕ → List ℕ → List ℕ → List ℕ
used_bytes w number r q = when (has_term number q) (λ _. atom_span w (tree_span r)) (λ _. [])

pub bytes_none : (w i : ℕ) (r q : List ℕ) → has_term i q ≡ false → used_bytes w i r q ≡ []
unfolding used_bytes
bytes_none w i r q h = simp h

pub bytes_some : (w i : ℕ) (r q : List ℕ) → has_term i q ≡ true → used_bytes w i r q ≡ atom_span w (tree_span r)
unfolding used_bytes
bytes_some w i r q h = simp h

-- ---- the rows that are left

-- the first row, by whether it has a term
module _ (w n i : ℕ) (r q : List ℕ) (e : is_atom r ≡ true) (ok : terms_ok w n i q ≡ true) where
  abbrev rest : List Row
  rest = read_rows (i + 1) (after_atom r) (after_term i q)

  used_none : has_term i q ≡ false → used_rows (read_rows i r q) ≡ used_rows rest
  unfolding used_rows row_at coeff_at
  used_none h = rw (read_rows_atom i r q e) (simp h)

  used_some : has_term i q ≡ true
      → used_rows (read_rows i r q)
      ≡ new_row (decode (tree_span r)) (front_word q) ∷ used_rows rest
  unfolding used_rows row_at coeff_at
  used_some h =
      let t = has_term_is i q h in
      let c : front_word q ≡ 0 → ⊥ = (term_parts w n i q (terms_first w n i q ok t.0).0).nonzero in
      rw (read_rows_atom i r q e) (simp (h, ne_eqb (front_word q) 0 c))

  -- the terms of the rows after it
  pub terms_after : terms_ok w n (i + 1) (after_term i q) ≡ true
  unfolding after_term
  terms_after = go (has_term i q) refl
    where
      go : (b : Bool) → has_term i q ≡ b → terms_ok w n (i + 1) (when (has_term i q) (λ _. drop 16 q) (λ _. q)) ≡ true
      go true h =
          let t = has_term_is i q h in
          simp h
          (subst (λ (m : ℕ). terms_ok w n (m + 1) (drop 16 q) ≡ true) t.1 (terms_first w n i q ok t.0).1)
      go false h = simp h (terms_later w n i q ok h)

  -- the bytes of the used atoms begin with the first row's, where it has a term
  pub used_atoms : IsBytes r → atom_ok w r ≡ true
      → atoms_bytes w (used_rows (read_rows i r q)) ≡ used_bytes w i r q ++ atoms_bytes w (used_rows rest)
  unfolding atoms_bytes used_bytes
  used_atoms h good = go (has_term i q) refl
    where
      go : (b : Bool) → has_term i q ≡ b
          → atoms_bytes w (used_rows (read_rows i r q))
          ≡ when (has_term i q) (λ _. atom_span w (tree_span r)) (λ _. []) ++ atoms_bytes w (used_rows rest)
      go true t =
          rw (used_some t)
          (simp t (ap (λ (l : List ℕ). l ++ atoms_bytes w (used_rows rest)) (sym (span_atom w r h good))))
      go false t = rw (used_none t) (simp t)

-- the terms of the used rows are the terms, renumbered
module _ (w : ℕ) where
  Renumbers : List ℕ → Type 0
  Renumbers r =
      (i j n : ℕ) (q : List ℕ) → n ≡ i + atom_count r → terms_ok w n i q ≡ true
      → terms_bytes w j (used_rows (read_rows i r q)) ≡ renumber w j q

  renumbers_none : (r : List ℕ) → is_atom r ≡ false → Renumbers r
  unfolding Renumbers used_rows terms_bytes
  renumbers_none r e i j n q en ok = rw (read_rows_end i r q e) (sym (renumber_end w j q (go (is_term q) refl)))
    where
      go : (b : Bool) → is_term q ≡ b → is_term q ≡ false
      go true t =
          let p = term_parts w n i q (terms_first w n i q ok t).0 in
          absurd (omega (arith, p.low, p.high, fold_done (λ r. 0) (λ r m. 1 + m) r e))
      go false t = t

  renumbers_atom : (r : List ℕ) → is_atom r ≡ true → Renumbers (after_atom r) → Renumbers r
  unfolding Renumbers terms_bytes
  renumbers_atom r e below i j n q en ok = go (has_term i q) refl
    where
      count : n ≡ i + 1 + atom_count (after_atom r)
      count = omega (arith, fold_atom (λ r. 0) (λ r m. 1 + m) r e)

      after : terms_ok w n (i + 1) (after_term i q) ≡ true
      after = terms_after w n i r q e ok

      go : (b : Bool) → has_term i q ≡ b → terms_bytes w j (used_rows (read_rows i r q)) ≡ renumber w j q
      go true h =
          let t = has_term_is i q h in
          let c : front_word q ≡ 0 → ⊥ = (term_parts w n i q (terms_first w n i q ok t.0).0).nonzero in
          let s : after_term i q ≡ drop 16 q = after_some i q h in
          rw (used_some w n i r q e ok h)
          (simp (ne_eqb (front_word q) 0 c)
          (ap (λ (l : List ℕ). term_bytes w j (front_word q) ++ l)
          (below (i + 1) (j + 1) n (after_term i q) count after ∙ ap (renumber w (j + 1)) s)
          ∙ sym (renumber_term w j q t.0)))
      go false h =
          rw (used_none w n i r q e ok h)
          (below (i + 1) j n (after_term i q) count after ∙ ap (renumber w j) (after_none i q h))

  pub used_terms : (r : List ℕ) (i j n : ℕ) (q : List ℕ) → n ≡ i + atom_count r → terms_ok w n i q ≡ true
      → terms_bytes w j (used_rows (read_rows i r q)) ≡ renumber w j q
  unfolding Renumbers
  used_terms = atoms_ind Renumbers renumbers_none renumbers_atom
