-- Rows to which terms are added (specs/CoalesceTerms.antt): the rows that were there stay, and the sum changes by what
-- is added, modulo 2 ^ w. The new terms of a group add what its carried bits come to.
use mathlib.Core.Path.{◌≡◌, refl, sym, ap, ◌∙◌, subst}
use Prim.Native.Nat.{ℕ, ◌+◌, ◌-◌, ◌*◌, ◌^◌, ◌≤◌, ◌<◌}
use native.Mathlib.Omega.{arith}
use native.Mathlib.Nat.{lt_of_lt_of_le}
use mathlib.Core.List.{List, [], ◌∷◌}
use mathlib.Core.Bool.{Bool, true, false}
use lib.ListN.{length}
use lib.Bits.{bit_and}
use lib.Dec.{eqb}
use lib.Pow.{pow_mono}
use borrow.Author.Tests.{eqb-true}
use Rattle.arith.proofs.CongruenceLaws.{eqm_of_eq}
use Rattle.arith.proofs.MaskLaws.{and_full}
use Rattle.record.specs.Tree.{Tree}
use Rattle.expr.specs.Value.{value}
use Rattle.expr.proofs.ValueLaws.{value_lt}
use Rattle.semilinear.specs.Form.{Row, rows_ok}
use Rattle.made.specs.Rows.{create_masked, add_coeff}
use Rattle.semilinear.proofs.AtomLaws.{Atom, atom_tree_lem}
use Rattle.group.proofs.WorkLaws.{row_value, Added, added_refl, added_trans, added_eqm, Grown, grown_added}
use Rattle.group.proofs.WorkLaws.{length_masked, row_value_masked, grown_masked}
use Rattle.group.proofs.SettleLaws.{added_coeff}
use Rattle.structure_laws.specs.RecoverStructure.{row_with, with_bare}
use Rattle.structure_laws.specs.Carried.{Carried}
use Rattle.structure_laws.specs.CoalesceTerms.{carried_rows}
use Rattle.structure_laws.proofs.BareLaws.{with_bare_lem}
use Rattle.structure_laws.proofs.CarriedLaws.{carried_sum, bits_below, below_cons}

module _ (w : ℕ) (hw : w ≤ 64) (vars : List ℕ) where
  -- a term of row j, after rows were added without one
  pub added_term : (c j : ℕ) (a b : List Row) → Grown w vars a b → j < length b
      → Added w vars (c * row_value w vars b j) a (add_coeff w c j b)
  added_term c j a b g lt =
      added_eqm w vars (eqm_of_eq (omega arith))
      (added_trans w vars (grown_added w vars g) (added_coeff w vars hw c j b lt))

  module _ (b : Tree) (hb : Atom b) where
    -- one new term, of the basis alone
    added_bare : (c m : ℕ) (rows : List Row) → rows_ok w rows ≡ true → m ≡ 2 ^ w - 1
        → Added w vars (c * bit_and (value w vars b) m) rows (add_coeff w c (row_with w b 0 rows) (with_bare w b rows))
    added_bare c m rows ok e =
        let r = with_bare_lem w vars b hb rows ok in
        let all : bit_and (value w vars b) m ≡ value w vars b =
        ap (bit_and (value w vars b)) e ∙ and_full w (value w vars b) (value_lt w vars b) in
        added_eqm w vars (eqm_of_eq (ap (λ (n : ℕ). c * n) (r.bare_value ∙ sym all)))
        (added_term c (row_with w b 0 rows) rows (with_bare w b rows) r.grown r.bare_lt)

    -- and of the basis under a mask
    added_masked : (c m : ℕ) (rows : List Row) → m < 2 ^ w
        → Added w vars (c * bit_and (value w vars b) m) rows (add_coeff w c (length rows) (create_masked w b m rows))
    added_masked c m rows hm =
        added_eqm w vars (eqm_of_eq (ap (λ (n : ℕ). c * n) (row_value_masked w vars b m rows hm)))
        (added_term c (length rows) rows (create_masked w b m rows)
        (grown_masked w vars b m rows (atom_tree_lem b hb) (lt_of_lt_of_le hm (pow_mono hw)))
        (omega (arith, length_masked w vars b m rows)))

    carried_first : (y : Carried) (l : List Carried) (rows : List Row) → eqb y.mask (2 ^ w - 1) ≡ true
        → carried_rows w b (y ∷ l) rows
        ≡ carried_rows w b l (add_coeff w y.coeff (row_with w b 0 rows) (with_bare w b rows))
    unfolding carried_rows
    carried_first y l rows e = simp e

    carried_other : (y : Carried) (l : List Carried) (rows : List Row) → eqb y.mask (2 ^ w - 1) ≡ false
        → carried_rows w b (y ∷ l) rows
        ≡ carried_rows w b l (add_coeff w y.coeff (length rows) (create_masked w b y.mask rows))
    unfolding carried_rows
    carried_other y l rows e = simp e

    -- all new terms of a group
    pub added_carried : (l : List Carried) → bits_below (2 ^ w) l ≡ true → (rows : List Row) → rows_ok w rows ≡ true
        → Added w vars (carried_sum (value w vars b) l) rows (carried_rows w b l rows)
    unfolding carried_sum carried_rows
    added_carried [] small rows ok = added_refl w vars rows
    added_carried (y ∷ l) small rows ok =
        let p = below_cons (2 ^ w) y l small in
        go p.0 (added_carried l p.1) (eqb y.mask (2 ^ w - 1)) refl
      where
        v : ℕ
        v = value w vars b

        go : y.mask < 2 ^ w
            → ((r : List Row) → rows_ok w r ≡ true → Added w vars (carried_sum v l) r (carried_rows w b l r))
            → (s : Bool) → eqb y.mask (2 ^ w - 1) ≡ s
            → Added w vars (y.coeff * bit_and v y.mask + carried_sum v l) rows (carried_rows w b (y ∷ l) rows)
        go lt below true e =
            let a = added_bare y.coeff y.mask rows ok (eqb-true y.mask (2 ^ w - 1) e) in
            subst (Added w vars (y.coeff * bit_and v y.mask + carried_sum v l) rows) (sym (carried_first y l rows e))
            (added_trans w vars a (below _ (a.extends.ok ok)))
        go lt below false e =
            let a = added_masked y.coeff y.mask rows lt in
            subst (Added w vars (y.coeff * bit_and v y.mask + carried_sum v l) rows) (sym (carried_other y l rows e))
            (added_trans w vars a (below _ (a.extends.ok ok)))
