-- Laws of specs/Atoms.antt: what the walk over atoms and terms side by side gives at a row.
use mathlib.Core.Path.{◌≡◌, refl, ap, sym, ◌∙◌}
use Prim.Native.Nat.{ℕ, ◌+◌, ◌<◌, ◌≤◌}
use mathlib.Core.List.{List, ◌∷◌, []}
use mathlib.Core.Bool.{Bool, true, false}
use Rattle.std.specs.Prelude.{None, Some}
use Rattle.std.specs.Option.{is_some}
use Rattle.std.proofs.lemmas.Option.{none-some, same_Some}
use Rattle.record.specs.Span.{sized}
use Rattle.record.specs.Decode.{decode}
use Rattle.expr_utils.specs.Utils.{has_var_dep}
use Rattle.semilinear.specs.declared.items.FormRow.{FormRow}
use Rattle.semilinear.specs.Form.{Row}
use Rattle.semilinear.specs.Items.{is_atom, front_word, after_atom}
use Rattle.semilinear.specs.Valid.{atoms_ok}
use Rattle.semilinear.specs.DecodeForm.{has_term, coeff_at, after_term, row_at, rows_of}
use Rattle.semilinear.specs.Atoms.{RowsLeft, FrontRow, term_of}
use Rattle.semilinear.proofs.ItemsLaws.{rows_atom, rows_end}
use Rattle.semilinear.proofs.ValidLaws.{later_atoms_ok, first_tree_sized, first_tree_variable}

-- the rows that a walk has left, and none where no atom is left
abbrev pub rows_left : RowsLeft → List Row
rows_left s = rows_of s.number s.atoms s.terms

pub left_none : (s : RowsLeft) → is_atom s.atoms ≡ false → rows_left s ≡ []
left_none s e = rows_end s.number s.atoms s.terms e

module _ {s t : RowsLeft} {x : FormRow} (g : FrontRow s x t) where
  pub left_row : rows_left s ≡ row_at s.number s.atoms s.terms ∷ rows_left t
  left_row = rw (g.after, g.atom.rest, g.terms) (rows_atom s.number s.atoms s.terms g.atom.stands)

  -- its coefficient, by whether it has a term
  pub row_without : x.coeff ≡ None → has_term s.number s.terms ≡ false
  unfolding term_of
  row_without e = go (has_term s.number s.terms) refl
    where
      go : (b : Bool) → has_term s.number s.terms ≡ b → has_term s.number s.terms ≡ false
      go true h = absurd (none-some (front_word s.terms) (sym e ∙ g.coeff ∙ simp h))
      go false h = h

  pub row_with : (c : ℕ) → x.coeff ≡ Some c → (has_term s.number s.terms ≡ true) × (c ≡ front_word s.terms)
  unfolding term_of
  row_with c e = go (has_term s.number s.terms) refl
    where
      go : (b : Bool) → has_term s.number s.terms ≡ b → (has_term s.number s.terms ≡ true) × (c ≡ front_word s.terms)
      go true h = (h, same_Some c (front_word s.terms) (sym e ∙ g.coeff ∙ simp h))
      go false h = absurd (none-some c (sym (g.coeff ∙ simp h) ∙ e))

  pub row_is_some : is_some x.coeff ≡ has_term s.number s.terms
  unfolding term_of
  row_is_some = ap is_some g.coeff ∙ go (has_term s.number s.terms) refl
    where
      go : (b : Bool) → has_term s.number s.terms ≡ b → is_some (term_of s.number s.terms) ≡ has_term s.number s.terms
      go true h = simp h
      go false h = simp h

  pub row_coeff_none : x.coeff ≡ None → coeff_at s.number s.terms ≡ 0
  unfolding coeff_at
  row_coeff_none e = simp (row_without e)

  pub row_coeff_some : (c : ℕ) → x.coeff ≡ Some c → coeff_at s.number s.terms ≡ c
  unfolding coeff_at
  row_coeff_some c e = let h = row_with c e in simp h.0 (sym h.1)

  -- an atom among good ones
  module _ (w : ℕ) (ok : atoms_ok w s.atoms ≡ true) where
    pub left_ok : atoms_ok w t.atoms ≡ true
    left_ok = rw g.atom.rest (later_atoms_ok w s.atoms ok g.atom.stands)

    pub row_sized : sized x.atom.tree.now ≡ true
    row_sized = rw g.atom.tree (first_tree_sized w s.atoms ok g.atom.stands)

    pub row_variable : has_var_dep (decode x.atom.tree.now) ≡ true
    row_variable = rw g.atom.tree (first_tree_variable w s.atoms ok g.atom.stands)
