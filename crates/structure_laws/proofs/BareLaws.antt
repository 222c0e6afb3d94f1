-- Laws of `row_with` and `with_bare` (specs/RecoverStructure.antt): the row of a bare tree is there, and has its value.
use mathlib.Core.Path.{◌≡◌, refl, sym, ap, ◌∙◌, subst}
use Prim.Native.Nat.{ℕ, suc, ◌+◌, ◌≤◌, ◌<◌}
use native.Mathlib.Omega.{arith}
use mathlib.Core.List.{List, [], ◌∷◌}
use mathlib.Core.Bool.{Bool, true, false}
use lib.ListN.{length}
use lib.Dec.{ltb}
use borrow.Author.Tests.{ltb-true, ltb-false}
use Rattle.record.specs.Tree.{Tree}
use Rattle.expr.specs.Value.{value}
use Rattle.semilinear.specs.Form.{Row, eq_tree, rows_ok}
use Rattle.made.specs.Rows.{create_row}
use Rattle.semilinear.proofs.FormLaws.{Good, rows_cons}
use Rattle.semilinear.proofs.AtomLaws.{Atom, atom_tree_lem, tree_atom, eq_of_eq_tree}
use Rattle.group.proofs.WorkLaws.{row_value, Grown, grown_refl, grown_create, row_value_create}
use Rattle.made.proofs.CoeffsLaws.{length_create}
use Rattle.structure_laws.specs.RecoverStructure.{row_with, with_bare}

module _ (w : ℕ) (vars : List ℕ) (t : Tree) (ht : Atom t) where
  -- ---- the search

  -- where it ends among the rows l, numbered from i on
  record Search (i : ℕ) (l : List Row) : Type 0 where
    steps : ℕ
    place : row_with w t i l ≡ i + steps
    most : steps ≤ length l
    found : steps < length l → row_value w vars l steps ≡ value w vars t

  with_here : (i : ℕ) (x : Row) (l : List Row) → eq_tree w x.tree t ≡ true → row_with w t i (x ∷ l) ≡ i
  unfolding row_with
  with_here i x l e = simp e

  with_later : (i : ℕ) (x : Row) (l : List Row) → eq_tree w x.tree t ≡ false
      → row_with w t i (x ∷ l) ≡ row_with w t (i + 1) l
  unfolding row_with
  with_later i x l e = simp e

  search_rows : (l : List Row) → rows_ok w l ≡ true → (i : ℕ) → Search i l
  unfolding row_with row_value
  search_rows [] ok i =
      record { steps = 0; place = omega arith; most = omega arith; found = λ lt. absurd (omega (arith, lt)) }
  search_rows (x ∷ l) ok i =
      let p = rows_cons w x l ok in
      go p.0 (eq_tree w x.tree t) refl (search_rows l p.1 (i + 1))
    where
      go : Good w x → (s : Bool) → eq_tree w x.tree t ≡ s → Search (i + 1) l → Search i (x ∷ l)
      go g true e r =
          let same : x.tree ≡ t = eq_of_eq_tree w x.tree t (tree_atom x.tree g.atom).expr ht.expr e in
          record {
            steps = 0;
            place = omega (arith, with_here i x l e);
            most = omega arith;
            found = λ lt. ap (value w vars) same;
          }
      go g false e r =
          record {
            steps = suc r.steps;
            place = omega (arith, with_later i x l e, r.place);
            most = omega (arith, r.most);
            found = λ lt. r.found (omega (arith, lt));
          }

  -- ---- the rows with the tree

  pub record Bare (l m : List Row) : Type 0 where
    pub grown : Grown w vars l m
    pub bare_lt : row_with w t 0 l < length m
    pub bare_value : row_value w vars m (row_with w t 0 l) ≡ value w vars t

  bare_there : (l : List Row) → ltb (row_with w t 0 l) (length l) ≡ true → with_bare w t l ≡ l
  unfolding with_bare
  bare_there l e = simp e

  bare_new : (l : List Row) → ltb (row_with w t 0 l) (length l) ≡ false → with_bare w t l ≡ create_row t l
  unfolding with_bare
  bare_new l e = simp e

  pub with_bare_lem : (l : List Row) → rows_ok w l ≡ true → Bare l (with_bare w t l)
  with_bare_lem l ok = go (ltb (row_with w t 0 l) (length l)) refl (search_rows l ok 0)
    where
      go : (s : Bool) → ltb (row_with w t 0 l) (length l) ≡ s → Search 0 l → Bare l (with_bare w t l)
      go true e r =
          let lt : row_with w t 0 l < length l = ltb-true _ _ e in
          let at-steps : row_with w t 0 l ≡ r.steps = omega (arith, r.place) in
          subst (Bare l) (sym (bare_there l e))
          (record {
            grown = grown_refl w vars l;
            bare_lt = lt;
            bare_value = ap (row_value w vars l) at-steps ∙ r.found (omega (arith, lt, at-steps));
          })
      go false e r =
          let le : length l ≤ row_with w t 0 l = ltb-false _ _ e in
          let at_end : row_with w t 0 l ≡ length l = omega (arith, le, r.place, r.most) in
          subst (Bare l) (sym (bare_new l e))
          (record {
            grown = grown_create w vars t l (atom_tree_lem t ht);
            bare_lt = omega (arith, at_end, length_create t l);
            bare_value = ap (row_value w vars (create_row t l)) at_end ∙ row_value_create w vars t l;
          })
