-- Laws of the atom table (specs/Register.antt): a shared row has the value of the tree that shares it, whatever the
-- hash does; so what is registered adds coefficient times value, and the rows stay valid.
use mathlib.Core.Path.{◌≡◌, refl, ap, ◌∙◌}
use Prim.Native.Nat.{ℕ, zero, suc, ◌+◌, ◌*◌, ◌^◌, ◌≤◌, ◌<◌}
use native.Mathlib.Omega.{arith}
use mathlib.Core.List.{List, [], ◌∷◌}
use mathlib.Core.Bool.{Bool, true, false}
use lib.ListN.{length}
use lib.Dec.{eqb}
use Rattle.arith.specs.Congruence.{Eqm}
use Rattle.arith.specs.Width.{mod_add}
use Rattle.arith.proofs.CongruenceLaws.{eqm_of_eq, eqm_refl, eqm_trans, eqm_add, eqm_mul_r}
use Rattle.arith.proofs.WidthLaws.{mod_add_eqm, mod_add_lt}
use Rattle.base.specs.Choice.{when}
use Rattle.base.proofs.BoolLaws.{and_true}
use Rattle.record.specs.Tree.{Tree}
use Rattle.expr.specs.Value.{value}
use Rattle.truth.specs.Key.{same_table}
use Rattle.truth.proofs.TruthLaws.{table_value}
use Rattle.semilinear.specs.Form.{Row, new_row, new_rows, sum_rows, rows_ok}
use Rattle.semilinear.proofs.FormLaws.{Good, good_row, rows_cons}
use Rattle.semilinear.proofs.AtomLaws.{Atom, atom_tree_lem, tree_atom, eq_of_eq_tree}
use Rattle.normalizer_laws.specs.Collect.{Emitted}
use Rattle.normalizer_laws.specs.Register.{same_slot, newest_row, first_row, has_tree, shared_row, add_row, register_atom}
use Rattle.normalizer_laws.specs.Register.{register_all}
use Rattle.normalizer_laws.proofs.CollectLaws.{sum_emitted}
use Rattle.normalizer_laws.proofs.EmittedLaws.{GoodEmitted, AllGood}

-- ---- the row that a tree shares

first_row_le : (test : Row → Bool) (i : ℕ) (l : List Row) → i ≤ first_row test i l
unfolding first_row
first_row_le test i [] = omega arith
first_row_le test i (x ∷ l) = go (test x) (first_row_le test (i + 1) l)
  where
    go : (b : Bool) → i + 1 ≤ first_row test (i + 1) l → i ≤ when b (λ _. i) (λ _. first_row test (i + 1) l)
    go true h = omega arith
    go false h = omega arith

module _ (w : ℕ) (vars : List ℕ) where
  -- row j, where there is one, has the value v
  unfoldable pub RowHas : List Row → ℕ → ℕ → Type 0
  RowHas [] j v = Unit {0}
  RowHas (x ∷ l) zero v = value w vars x.tree ≡ v
  RowHas (x ∷ l) (suc j) v = RowHas l j v

  module _ (t : Tree) (atom : Atom t) where
    has_tree_row : (j : ℕ) (l : List Row) → rows_ok w l ≡ true → has_tree w t j l ≡ true → RowHas l j (value w vars t)
    unfolding has_tree RowHas
    has_tree_row j [] ok e = tt
    has_tree_row zero (x ∷ l) ok e =
        let row = tree_atom x.tree (rows_cons w x l ok).0.atom in
        ap (value w vars) (eq_of_eq_tree w x.tree t row.expr atom.expr e)
    has_tree_row (suc j) (x ∷ l) ok e = has_tree_row j l (rows_cons w x l ok).1 e

    first_row_has : (i n : ℕ) (l : List Row) → rows_ok w l ≡ true → first_row (λ x. same_table x.tree t) i l ≡ i + n
        → RowHas l n (value w vars t)
    unfolding first_row RowHas
    first_row_has i n [] ok e = tt
    first_row_has i n (x ∷ l) ok e =
        let p = rows_cons w x l ok in
        go p.0 (λ m. first_row_has (i + 1) m l p.1) (same_table x.tree t) refl n e
      where
        later : ℕ
        later = first_row (λ y. same_table y.tree t) (i + 1) l

        go : Good w x → ((m : ℕ) → later ≡ i + 1 + m → RowHas l m (value w vars t))
            → (b : Bool) → same_table x.tree t ≡ b → (m : ℕ) → when b (λ _. i) (λ _. later) ≡ i + m
            → RowHas (x ∷ l) m (value w vars t)
        go g below true same zero f =
            let row = tree_atom x.tree g.atom in
            table_value x.tree t same row.expr atom.expr row.plain atom.plain w vars
        go g below true same (suc m) f = absurd (omega arith)
        go g below false same zero f = absurd (omega (arith, first_row_le (λ y. same_table y.tree t) (i + 1) l))
        go g below false same (suc m) f = below m (f ∙ omega arith)

    -- the row that an atom shares has its value
    shared_row_has : (l : List Row) → rows_ok w l ≡ true → RowHas l (shared_row w t l) (value w vars t)
    unfolding shared_row
    shared_row_has l ok = go (has_tree w t newest l) refl
      where
        newest : ℕ
        newest = newest_row (λ x. same_slot x.tree t) 0 l (length l)

        first : ℕ
        first = first_row (λ x. same_table x.tree t) 0 l

        go : (b : Bool) → has_tree w t newest l ≡ b → RowHas l (when b (λ _. newest) (λ _. first)) (value w vars t)
        go true e = has_tree_row newest l ok e
        go false e = first_row_has 0 first l ok (omega arith)

-- ---- a row more

module _ (w : ℕ) (vars : List ℕ) (hw : w ≤ 64) where
  add_row_sum : (new : Row) (j : ℕ) (l : List Row) → RowHas w vars l j (value w vars new.tree)
      → Eqm (2 ^ w) (sum_rows w vars (add_row w new j l)) (sum_rows w vars l + new.coeff * value w vars new.tree)
  unfolding add_row sum_rows RowHas
  add_row_sum new j [] h = eqm_of_eq (omega arith)
  add_row_sum new zero (x ∷ l) h =
      let v : ℕ = value w vars x.tree in
      let s : ℕ = sum_rows w vars l in
      eqm_trans (eqm_add (eqm_mul_r v (mod_add_eqm x.coeff new.coeff w hw)) (eqm_refl s))
      (eqm_of_eq (omega (arith, ap (λ (y : ℕ). new.coeff * y) h)))
  add_row_sum new (suc j) (x ∷ l) h =
      eqm_trans (eqm_add (eqm_refl (x.coeff * value w vars x.tree)) (add_row_sum new j l h))
      (eqm_of_eq (omega arith))

  add_row_ok : (new : Row) (j : ℕ) (l : List Row) → Good w new → rows_ok w l ≡ true → rows_ok w (add_row w new j l) ≡ true
  unfolding add_row rows_ok
  add_row_ok new j [] g ok = simp (good_row w new g)
  add_row_ok new zero (x ∷ l) g ok =
      let p = rows_cons w x l ok in
      let c : ℕ = mod_add x.coeff new.coeff w in
      let y : Row = record { provenance = x.provenance; tree = x.tree; coeff = c } in
      let fits : c < 2 ^ w = mod_add_lt x.coeff new.coeff w hw in
      let good : Good w y = record { known = p.0.known; atom = p.0.atom; fits = fits } in
      simp (good_row w y good, p.1)
  add_row_ok new (suc j) (x ∷ l) g ok =
      let p = rows_cons w x l ok in
      simp (good_row w x p.0, add_row_ok new j l g p.1)

  add_row_new : (new : Row) (j : ℕ) (l : List Row) → new_rows (new ∷ []) ≡ true → new_rows l ≡ true
      → new_rows (add_row w new j l) ≡ true
  unfolding add_row new_rows
  add_row_new new j [] g h = g
  add_row_new new zero (x ∷ l) g h = h
  add_row_new new (suc j) (x ∷ l) g h =
      let p = and_true (eqb x.provenance 4) (new_rows l) h in
      simp (p.0, add_row_new new j l g p.1)

  -- ---- what is registered

  register_sum : (e : Emitted) (l : List Row) → GoodEmitted w hw e → rows_ok w l ≡ true
      → Eqm (2 ^ w) (sum_rows w vars (register_atom w e l)) (sum_rows w vars l + e.coeff * value w vars e.tree)
  unfolding register_atom
  register_sum e l g ok =
      add_row_sum (new_row e.tree e.coeff) (shared_row w e.tree l) l (shared_row_has w vars e.tree g.atom l ok)

  register_ok : (e : Emitted) (l : List Row) → GoodEmitted w hw e → rows_ok w l ≡ true
      → rows_ok w (register_atom w e l) ≡ true
  unfolding register_atom
  register_ok e l g ok =
      add_row_ok (new_row e.tree e.coeff) (shared_row w e.tree l) l
      (record { known = omega arith; atom = atom_tree_lem e.tree g.atom; fits = g.fits }) ok

  pub register_all_sum : (m : List Emitted) (l : List Row) → AllGood w hw m → rows_ok w l ≡ true
      → Eqm (2 ^ w) (sum_rows w vars (register_all w m l)) (sum_rows w vars l + sum_emitted w vars m)
  unfolding register_all AllGood sum_emitted
  register_all_sum [] l g ok = eqm_of_eq (omega arith)
  register_all_sum (e ∷ m) l g ok =
      eqm_trans (register_all_sum m (register_atom w e l) g.1 (register_ok e l g.0 ok))
      (eqm_trans (eqm_add (register_sum e l g.0 ok) (eqm_refl (sum_emitted w vars m))) (eqm_of_eq (omega arith)))

  pub register_all_ok : (m : List Emitted) (l : List Row) → AllGood w hw m → rows_ok w l ≡ true
      → rows_ok w (register_all w m l) ≡ true
  unfolding register_all AllGood
  register_all_ok [] l g ok = ok
  register_all_ok (e ∷ m) l g ok = register_all_ok m (register_atom w e l) g.1 (register_ok e l g.0 ok)

  -- and all heads are new ones
  pub register_all_new : (m : List Emitted) (l : List Row) → new_rows l ≡ true → new_rows (register_all w m l) ≡ true
  unfolding register_all register_atom new_rows
  register_all_new [] l h = h
  register_all_new (e ∷ m) l h =
      register_all_new m (register_atom w e l)
      (add_row_new (new_row e.tree e.coeff) (shared_row w e.tree l) l refl h)
