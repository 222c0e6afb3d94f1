-- The rows of a form with the terms of groups taken off (views/specs/Grouping.antt, `ungrouped`): the same trees under
-- the same numbers.
use mathlib.Core.Path.{◌≡◌, refl, ap, ap₂, ◌∙◌}
use Prim.Native.Nat.{ℕ, zero, suc}
use native.Mathlib.Omega.{arith}
use lib.Pow.{pow_pos}
use mathlib.Core.List.{List, [], ◌∷◌}
use mathlib.Core.Bool.{Bool, true}
use lib.ListN.{length}
use Rattle.record.specs.Tree.{Tree}
use Rattle.expr.specs.Value.{value}
use Rattle.semilinear.specs.Form.{Row, rows_ok}
use Rattle.decompose.specs.Decompose.{Decomposed, no_basis, masked}
use Rattle.views.specs.Grouping.{view_row, ungrouped}
use Rattle.atom_table.proofs.HoldsLaws.{bare_rows, new_same}
use Rattle.semilinear.proofs.FormLaws.{Good, good_row, rows_cons}
use Rattle.group.proofs.WorkLaws.{row_value, Extends}

-- a row without its term
abbrev bare : Row → Row
bare x = record { provenance = x.provenance; tree = x.tree; coeff = 0 }

module _ (only : Tree → Bool) (w : ℕ) where
  -- the first row is there with its term or without
  record Head (x : Row) (l : List Row) : Type 0 where
    first : Row
    rest : ungrouped only w (x ∷ l) ≡ first ∷ ungrouped only w l
    tree_same : first.tree ≡ x.tree
    bare_same : bare first ≡ bare x
    good : Good w x → Good w first

  head : (x : Row) (l : List Row) → Head x l
  unfolding ungrouped
  head x l = go (view_row only w x) refl
    where
      go : (d : Decomposed) → view_row only w x ≡ d → Head x l
      go no_basis e = record { first = x; rest = simp e; tree_same = refl; bare_same = refl; good = λ g. g }
      go (masked b m) e =
          record {
            first = bare x;
            rest = simp e;
            tree_same = refl;
            bare_same = refl;
            good = λ g. record { known = g.known; atom = g.atom; fits = pow_pos w };
          }

  pub ungrouped_length : (l : List Row) → length (ungrouped only w l) ≡ length l
  unfolding ungrouped
  ungrouped_length [] = refl
  ungrouped_length (x ∷ l) = ap suc (ungrouped_length l)

  pub ungrouped_bare : (l : List Row) → bare_rows (ungrouped only w l) ≡ bare_rows l
  unfolding bare_rows ungrouped
  ungrouped_bare [] = refl
  ungrouped_bare (x ∷ l) =
      let h = head x l in
      ap bare_rows h.rest ∙ ap₂ (λ (y : Row) (m : List Row). y ∷ m) h.bare_same (ungrouped_bare l)

  module _ (vars : List ℕ) where
    ungrouped_value : (l : List Row) (j : ℕ) → row_value w vars (ungrouped only w l) j ≡ row_value w vars l j
    unfolding row_value ungrouped
    ungrouped_value [] j = refl
    ungrouped_value (x ∷ l) zero =
        let h = head x l in
        ap (λ (u : List Row). row_value w vars u 0) h.rest ∙ ap (value w vars) h.tree_same
    ungrouped_value (x ∷ l) (suc j) =
        let h = head x l in
        ap (λ (u : List Row). row_value w vars u (suc j)) h.rest ∙ ungrouped_value l j

    ungrouped_ok : (l : List Row) → rows_ok w l ≡ true → rows_ok w (ungrouped only w l) ≡ true
    unfolding rows_ok ungrouped
    ungrouped_ok [] e = refl
    ungrouped_ok (x ∷ l) e =
        let h = head x l in
        let p = rows_cons w x l e in
        ap (rows_ok w) h.rest ∙ simp (good_row w h.first (h.good p.0), ungrouped_ok l p.1)

    pub ungrouped_extends : (l : List Row) → Extends w vars l (ungrouped only w l)
    ungrouped_extends l =
        record {
          longer = omega (arith, ungrouped_length l);
          older = λ j h. ungrouped_value l j;
          ok = ungrouped_ok l;
          new = λ h. new_same (ungrouped only w l) l (ungrouped_bare l) ∙ h;
        }
