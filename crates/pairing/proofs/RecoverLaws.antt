-- Recovering structure (structure_laws/specs/RecoverStructure.antt) keeps the value of a form, and gives a valid form
-- where its table keeps the limits.
use mathlib.Core.Path.{◌≡◌, refl, ap, sym, subst, ◌∙◌}
use Prim.Native.Nat.{ℕ, ◌+◌, ◌%◌, ◌^◌, ◌≤◌, ◌<◌}
use native.Mathlib.Omega.{arith}
use mathlib.Core.List.{List, [], ◌∷◌}
use mathlib.Core.Bool.{true}
use lib.ListN.{length}
use lib.Dec.{leb}
use borrow.Author.Tests.{leb-true}
use Rattle.arith.specs.Congruence.{Eqm}
use Rattle.arith.proofs.CongruenceLaws.{eqm_of_eq, eqm_refl, eqm_trans, eqm_add}
use Rattle.record.specs.Tree.{Tree}
use Rattle.base.proofs.BoolLaws.{and_true}
use Rattle.expr.specs.Hash.{structural_hash}
use Rattle.group.specs.declared.Group.{Group}
use Rattle.semilinear.specs.Form.{Row, Form, new_rows, sum_rows, form_value, rows_ok, tree_records, fits_table, valid_form}
use Rattle.group.specs.Group.{at, empty_group, group_of, settle}
use Rattle.views.specs.Grouping.{any_basis, bases_of, ungrouped}
use Rattle.semilinear.proofs.FormLaws.{form_parts, parts_form}
use Rattle.semilinear.proofs.AtomLaws.{Atom}
use Rattle.made.proofs.CoeffsLaws.{fits_length}
use Rattle.group.proofs.SettleLaws.{settled}
use Rattle.views.proofs.BasesLaws.{rising_from, risen}
use Rattle.views.proofs.GroupsLaws.{basis_sum, bases_sum, term_value, groups_value, bases_rising}
use Rattle.group.proofs.GroupOfLaws.{group_of_lem}
use Rattle.group.proofs.WorkLaws.{Extends, extends_trans}
use Rattle.group.proofs.ExtendsLaws.{ungrouped_extends}
use Rattle.group.proofs.FitsLaws.{fits_fresh}
use Rattle.structure_laws.specs.RecoverStructure.{Recovery, recover_all, recover_form}
use Rattle.pairing.specs.Recovering.{FairRecovery, settled_form, one_recovered, AllFairRecovery}
use Rattle.pairing.specs.Recovering.{recover_turn, FairTurn}
use Rattle.group.specs.Turns.{EachAllowed}
use Rattle.structure_laws.proofs.HeldLaws.{not_rewritten, KeptRecovery, owed_sum, kept_start}
use Rattle.structure_laws.proofs.RecoverGroupLaws.{recover_group_keeps}
use Rattle.structure_laws.proofs.FreshLaws.{owed_total}

-- ---- a group and all groups

module _ (w : ℕ) (hw : w ≤ 64) (vars : List ℕ) (before : List Row) (ok : rows_ok w before ≡ true)
    (most : length before ≤ 256) where
  -- the rows and the constant after a group of sum n
  record Step (n : ℕ) (rows : List Row) (c : ℕ) (after : List Row) (d : ℕ) : Type 0 where
    fits : d < 2 ^ w
    extends : Extends w vars before after
    sum : Eqm (2 ^ w) (d + sum_rows w vars after) (c + sum_rows w vars rows + n)

  -- the group of the basis b, recovered
  kept : (b : Tree) → Atom b → (rows : List Row) (c : ℕ) → c < 2 ^ w → Extends w vars before rows
      → KeptRecovery w vars b (group_of any_basis w b 0 before empty_group) rows c (one_recovered w before b rows c)
  kept b hb rows c hc x =
      let g : Group = group_of any_basis w b 0 before empty_group in
      let o = group_of_lem any_basis w vars b hb.expr before most ok in
      recover_group_keeps w hw vars b hb g rows (x.ok ok) c _
      (kept_start w vars b g rows c o.sized
      (record { fit = λ k l live. fits_fresh w vars b not_rewritten (at g k) x (o.fresh k l) }) hc)

  group_step : (b : Tree) → Atom b → (rows : List Row) (c : ℕ) → c < 2 ^ w → Extends w vars before rows
      → Step (basis_sum any_basis w (term_value w vars) b before) rows c
      (settle w (one_recovered w before b rows c).group (one_recovered w before b rows c).rows)
      (one_recovered w before b rows c).constant
  unfolding owed_sum
  group_step b hb rows c hc x =
      let g : Group = group_of any_basis w b 0 before empty_group in
      let o = group_of_lem any_basis w vars b hb.expr before most ok in
      let r : Recovery = one_recovered w before b rows c in
      let h : KeptRecovery w vars b g rows c r = kept b hb rows c hc x in
      let s = settled w vars hw r.group r.rows (λ k l live. (h.all_fit.fit k l live).atom_lt) in
      let begun : owed_sum w vars rows g ≡ basis_sum any_basis w (term_value w vars) b before =
      owed_total w hw vars b before g o.fresh rows x ∙ o.sum in
      record {
        fits = h.constant_lt;
        extends =
            extends_trans w vars x (extends_trans w vars h.grown.extends s.extends);
        sum =
            eqm_trans (eqm_add (eqm_refl r.constant) s.sum)
            (eqm_trans (eqm_of_eq (omega (arith, h.grown.sum_same)))
            (eqm_trans (eqm_add (eqm_refl (sum_rows w vars rows)) h.sum_same)
            (eqm_of_eq (omega (arith, begun)))));
      }

  -- and each group was recovered fairly: rows without a term are added, and live entries have atoms of the table
  fair : (b : Tree) → Atom b → (rows : List Row) (c : ℕ) → c < 2 ^ w → Extends w vars before rows
      → FairRecovery rows (one_recovered w before b rows c)
  fair b hb rows c hc x =
      let k = kept b hb rows c hc x in
      record {
        fits = k.grown.fits;
        coeffs = λ f. k.grown.coeffs 256 (fits_length (one_recovered w before b rows c).rows f);
        atoms = λ i li live. (k.all_fit.fit i li live).atom_lt;
      }

  fair_all : (l : List Tree) (n : ℕ) → rising_from n l ≡ true → (rows : List Row) (c : ℕ) → c < 2 ^ w
      → Extends w vars before rows → AllFairRecovery w before l rows c
  unfolding EachAllowed recover_turn FairTurn settled_form
  fair_all [] n up rows c hc x = tt
  fair_all (b ∷ l) n up rows c hc x =
      let p = risen n b l up in
      let s = group_step b p.atom rows c hc x in
      (fair b p.atom rows c hc x, fair_all l (structural_hash b) p.rest _ _ s.fits s.extends)

  -- the form after all groups of the bases l
  record Ends (l : List Tree) (rows : List Row) (c : ℕ) (f : Form) : Type 0 where
    width : f.bitwidth ≡ w
    fits : f.constant < 2 ^ w
    rows_ok_lem : rows_ok w f.rows ≡ true
    new : new_rows before ≡ true → new_rows f.rows ≡ true
    sum : Eqm (2 ^ w) (f.constant + sum_rows w vars f.rows)
        (c + sum_rows w vars rows + bases_sum any_basis w (term_value w vars) l before)

  recover_all_lem : (l : List Tree) (n : ℕ) → rising_from n l ≡ true → (rows : List Row) (c : ℕ) → c < 2 ^ w
      → Extends w vars before rows → Ends l rows c (recover_all w before l rows c)
  unfolding recover_all bases_sum
  recover_all_lem [] n up rows c hc x =
      record { width = refl; fits = hc; rows_ok_lem = x.ok ok; new = x.new; sum = eqm_of_eq (omega arith) }
  recover_all_lem (b ∷ l) n up rows c hc x =
      let p = risen n b l up in
      let s = group_step b p.atom rows c hc x in
      let below = recover_all_lem l (structural_hash b) p.rest _ _ s.fits s.extends in
      record {
        width = below.width;
        fits = below.fits;
        rows_ok_lem = below.rows_ok_lem;
        new = below.new;
        sum =
            eqm_trans below.sum
            (eqm_trans (eqm_add s.sum (eqm_refl (bases_sum any_basis w (term_value w vars) l before)))
            (eqm_of_eq (omega arith)));
      }

-- ---- the form

module _ (vars : List ℕ) (f : Form) (e : valid_form f ≡ true) where
  abbrev w : ℕ
  w = f.bitwidth

  recover_ends :
      Ends w (form_parts f e).width_le vars f.rows (form_parts f e).rows_ok_lem (form_parts f e).atoms_le
      (bases_of any_basis w f.rows []) (ungrouped any_basis w f.rows) f.constant (recover_form f)
  unfolding recover_form
  recover_ends =
      let v = form_parts f e in
      recover_all_lem w v.width_le vars f.rows v.rows_ok_lem v.atoms_le (bases_of any_basis w f.rows []) 0
      (bases_rising any_basis w f.rows v.rows_ok_lem) (ungrouped any_basis w f.rows) f.constant v.fits
      (ungrouped_extends any_basis w vars f.rows)

-- recovering structure keeps the value of a form, under every assignment
pub value_recover : (vars : List ℕ) (f : Form) → valid_form f ≡ true → form_value vars (recover_form f) ≡ form_value vars f
unfolding form_value
value_recover vars f e =
    let w : ℕ = f.bitwidth in
    let r : Form = recover_form f in
    let h = recover_ends vars f e in
    let share = groups_value any_basis w vars f.rows (form_parts f e).rows_ok_lem in
    let same : Eqm (2 ^ w) (r.constant + sum_rows w vars r.rows) (f.constant + sum_rows w vars f.rows) =
    eqm_trans h.sum (eqm_of_eq (omega (arith, share))) in
    ap (λ (n : ℕ). (r.constant + sum_rows n vars r.rows) % 2 ^ n) h.width ∙ same.eqm

-- and gives a valid form where its table keeps the limits
pub valid_recover : (f : Form) → valid_form f ≡ true → fits_table (recover_form f).rows ≡ true
    → valid_form (recover_form f) ≡ true
unfolding fits_table
valid_recover f e t =
    let v = form_parts f e in
    let r : Form = recover_form f in
    let h = recover_ends [] f e in
    let u = and_true (leb (length r.rows) 256) (leb (tree_records r.rows) 3072) t in
    parts_form r
    (record {
      width_pos = omega (arith, v.width_pos, h.width);
      width_le = omega (arith, v.width_le, h.width);
      fits = subst (λ (n : ℕ). r.constant < 2 ^ n) (sym h.width) h.fits;
      atoms_le = leb-true _ _ u.0;
      records_le = leb-true _ _ u.1;
      rows_ok_lem = subst (λ (n : ℕ). rows_ok n r.rows ≡ true) (sym h.width) h.rows_ok_lem;
    })

-- with new heads
pub new_recover : (f : Form) → valid_form f ≡ true → new_rows f.rows ≡ true → new_rows (recover_form f).rows ≡ true
new_recover f e = (recover_ends [] f e).new

pub width_recover : (f : Form) → valid_form f ≡ true → (recover_form f).bitwidth ≡ f.bitwidth
width_recover f e = (recover_ends [] f e).width

-- recovering is fair to the rows of a valid form
pub all_fair : (f : Form) → valid_form f ≡ true
    → AllFairRecovery f.bitwidth f.rows (bases_of any_basis f.bitwidth f.rows [])
    (ungrouped any_basis f.bitwidth f.rows) f.constant
all_fair f e =
    let v = form_parts f e in
    let w : ℕ = f.bitwidth in
    fair_all w v.width_le [] f.rows v.rows_ok_lem v.atoms_le (bases_of any_basis w f.rows []) 0
    (bases_rising any_basis w f.rows v.rows_ok_lem) (ungrouped any_basis w f.rows) f.constant v.fits
    (ungrouped_extends any_basis w [] f.rows)
