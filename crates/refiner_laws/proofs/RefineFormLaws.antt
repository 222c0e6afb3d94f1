-- Refining a semilinear form keeps its value and its validity.
use mathlib.Core.Path.{◌≡◌, refl, ap, sym, ◌∙◌}
use Prim.Native.Nat.{ℕ, ◌*◌, ◌^◌, ◌≤◌, ◌<◌}
use native.Mathlib.Omega.{arith}
use mathlib.Core.List.{List, [], ◌∷◌}
use mathlib.Core.Bool.{Bool, true, false}
use lib.ListN.{length}
use borrow.Author.Tests.{le-leb, lt-ltb}
use Rattle.arith.proofs.CongruenceLaws.{eqm_of_eq, eqm_refl, eqm_trans, eqm_add}
use Rattle.record.specs.Tree.{Tree}
use Rattle.expr.specs.Hash.{structural_hash}
use Rattle.expr.specs.Value.{value}
use Rattle.group.specs.declared.Group.{Group}
use Rattle.semilinear.specs.Form.{Row, Form, is_atom_tree, form_value, rows_ok, fits_table, valid_form, new_rows}
use Rattle.group.specs.Group.{Work, work, at, is_live, empty_group, group_of}
use Rattle.views.specs.Grouping.{any_basis, bases_of, ungrouped}
use Rattle.group.specs.Group.{settle}
use Rattle.semilinear.proofs.FormLaws.{form_parts}
use Rattle.semilinear.proofs.AtomLaws.{atom_tree_lem, tree_atom}
use Rattle.group.proofs.TotalLaws.{sum_to, sum_ext, worth, worth_live, worth_dead, total}
use Rattle.views.proofs.BasesLaws.{rising_from, risen}
use Rattle.views.proofs.GroupsLaws.{basis_sum, bases_sum, term_value, groups_value, bases_rising}
use Rattle.group.proofs.GroupOfLaws.{group_of_lem}
use Rattle.group.proofs.SettleLaws.{owed, owed_live, owed_consumed, settled}
use Rattle.made.proofs.CoeffsLaws.{fits_length}
use Rattle.group.proofs.WorkLaws.{Extends, extends_trans, Added, added_refl, added_trans, added_eqm, grown_added}
use Rattle.group.proofs.ExtendsLaws.{ungrouped_extends}
use Rattle.group.proofs.FitsLaws.{AllFit, fits_fresh}
use Rattle.refiner_laws.specs.RefineTerms.{refine_group, refine_all, refine_form}
use Rattle.refiner_laws.specs.Refining.{FairWork, settled_rows, one_refined, refine_turn, FairTurn, AllFairWork}
use Rattle.group.specs.Turns.{EachAllowed}
use Rattle.refiner_laws.proofs.KeptLaws.{any_entry, KeptWork, kept_start}
use Rattle.refiner_laws.proofs.RefineLaws.{refine_keeps}

-- what the live entries owe is what they come to beside the basis
owed_total : (w : ℕ) (vars : List ℕ) (b : Tree) (g : Group) (rows : List Row) → AllFit w vars b any_entry g rows
    → sum_to (λ (k : ℕ). owed w vars rows (at g k)) g.len ≡ total (value w vars b) g
unfolding total
owed_total w vars b g rows a =
    sum_ext (λ (k : ℕ). owed w vars rows (at g k)) (λ (k : ℕ). worth (value w vars b) (at g k)) g.len
    (λ k lk. go k lk (is_live (at g k)) refl)
  where
    go : (k : ℕ) → k < g.len → (p : Bool) → is_live (at g k) ≡ p
        → owed w vars rows (at g k) ≡ worth (value w vars b) (at g k)
    go k lk true e =
        owed_live w vars rows (at g k) e
        ∙ ap (λ (n : ℕ). (at g k).coeff * n) ((a.fit k lk e).masked tt).atom_value
        ∙ sym (worth_live (value w vars b) (at g k) e)
    go k lk false e = owed_consumed w vars rows (at g k) e ∙ sym (worth_dead (value w vars b) (at g k) e)

module _ (w : ℕ) (hw : w ≤ 64) (vars : List ℕ) (before : List Row) (most : length before ≤ 256)
    (ok : rows_ok w before ≡ true) where
  -- the group of the basis b, refined
  kept : (b : Tree) → is_atom_tree b ≡ true → (rows : List Row) → Extends w vars before rows
      → KeptWork w vars b (group_of any_basis w b 0 before empty_group) rows (one_refined w before b rows)
  kept b hb rows e =
      let g : Group = group_of any_basis w b 0 before empty_group in
      let o = group_of_lem any_basis w vars b (tree_atom b hb).expr before most ok in
      let a : AllFit w vars b any_entry g rows =
      record { fit = λ k lk live. fits_fresh w vars b any_entry (at g k) e (o.fresh k lk) } in
      refine_keeps w hw vars b hb g rows (work g rows) (kept_start w vars b g rows o.sized a)

  step : (b : Tree) → is_atom_tree b ≡ true → (rows : List Row) → Extends w vars before rows
      → let x : Work = refine_group w b (work (group_of any_basis w b 0 before empty_group) rows) in
      Added w vars (basis_sum any_basis w (term_value w vars) b before) rows (settle w x.group x.rows)
  step b hb rows e =
      let g : Group = group_of any_basis w b 0 before empty_group in
      let o = group_of_lem any_basis w vars b (tree_atom b hb).expr before most ok in
      let k = kept b hb rows e in
      let x : Work = refine_group w b (work g rows) in
      let s = settled w vars hw x.group x.rows (λ i li live. (k.all_fit.fit i li live).atom_lt) in
      added_eqm w vars
      (eqm_trans (eqm_of_eq (omega (arith, owed_total w vars b x.group x.rows k.all_fit)))
      (eqm_trans k.total_same (eqm_of_eq o.sum)))
      (added_trans w vars (grown_added w vars k.grown) s)

  -- and after all groups
  steps : (bases : List Tree) (n : ℕ) → rising_from n bases ≡ true → (rows : List Row) → Extends w vars before rows
      → Added w vars (bases_sum any_basis w (term_value w vars) bases before) rows (refine_all w before bases rows)
  unfolding refine_all bases_sum
  steps [] n r rows e = added_refl w vars rows
  steps (b ∷ l) n r rows e =
      let p = risen n b l r in
      let s = step b (atom_tree_lem b p.atom) rows e in
      added_trans w vars s (steps l (structural_hash b) p.rest _ (extends_trans w vars e s.extends))

  -- and each group was refined fairly: rows without a term are added, and live entries have atoms of the table
  fair : (b : Tree) → is_atom_tree b ≡ true → (rows : List Row) → Extends w vars before rows
      → FairWork rows (one_refined w before b rows)
  fair b hb rows e =
      let k = kept b hb rows e in
      record {
        fits = k.grown.fits;
        coeffs = λ f. k.grown.coeffs 256 (fits_length (one_refined w before b rows).rows f);
        atoms = λ i li live. (k.all_fit.fit i li live).atom_lt;
      }

  fair_steps : (bases : List Tree) (n : ℕ) → rising_from n bases ≡ true → (rows : List Row) → Extends w vars before rows
      → AllFairWork w before bases rows
  unfolding EachAllowed refine_turn FairTurn settled_rows
  fair_steps [] n r rows e = tt
  fair_steps (b ∷ l) n r rows e =
      let p = risen n b l r in
      let hb = atom_tree_lem b p.atom in
      let s = step b hb rows e in
      (fair b hb rows e, fair_steps l (structural_hash b) p.rest _ (extends_trans w vars e s.extends))

-- ---- the form

module _ (f : Form) (e : valid_form f ≡ true) where
  made : (vars : List ℕ)
      → Added f.bitwidth vars
      (bases_sum any_basis f.bitwidth (term_value f.bitwidth vars)
      (bases_of any_basis f.bitwidth f.rows []) f.rows)
      (ungrouped any_basis f.bitwidth f.rows) (refine_form f).rows
  unfolding refine_form
  made vars =
      let v = form_parts f e in
      steps f.bitwidth v.width_le vars f.rows v.atoms_le v.rows_ok_lem
      (bases_of any_basis f.bitwidth f.rows []) 0 (bases_rising any_basis f.bitwidth f.rows v.rows_ok_lem)
      (ungrouped any_basis f.bitwidth f.rows) (ungrouped_extends any_basis f.bitwidth vars f.rows)

  pub value_refine : (vars : List ℕ) → form_value vars (refine_form f) ≡ form_value vars f
  unfolding form_value refine_form
  value_refine vars =
      let v = form_parts f e in
      (eqm_add (eqm_refl f.constant)
      (eqm_trans (made vars).sum (eqm_of_eq (sym (groups_value any_basis f.bitwidth vars f.rows v.rows_ok_lem))))
      ).eqm

  pub valid_refine : fits_table (refine_form f).rows ≡ true → valid_form (refine_form f) ≡ true
  unfolding refine_form valid_form
  valid_refine h =
      let v = form_parts f e in
      simp (
        le-leb 1 f.bitwidth v.width_pos,
        le-leb f.bitwidth 64 v.width_le,
        lt-ltb f.constant (2 ^ f.bitwidth) v.fits,
        h,
        (made []).extends.ok ((ungrouped_extends any_basis f.bitwidth [] f.rows).ok v.rows_ok_lem),
      )

  -- with new heads
  pub new_refine : new_rows f.rows ≡ true → new_rows (refine_form f).rows ≡ true
  unfolding refine_form
  new_refine h = (made []).extends.new ((ungrouped_extends any_basis f.bitwidth [] f.rows).new h)

  -- refining is fair to the rows of a valid form
  pub all_fair : AllFairWork f.bitwidth f.rows (bases_of any_basis f.bitwidth f.rows [])
      (ungrouped any_basis f.bitwidth f.rows)
  all_fair =
      let v = form_parts f e in
      fair_steps f.bitwidth v.width_le [] f.rows v.atoms_le v.rows_ok_lem
      (bases_of any_basis f.bitwidth f.rows []) 0 (bases_rising any_basis f.bitwidth f.rows v.rows_ok_lem)
      (ungrouped any_basis f.bitwidth f.rows) (ungrouped_extends any_basis f.bitwidth [] f.rows)
