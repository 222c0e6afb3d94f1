-- Coalescing (specs/CoalesceTerms.antt) keeps the value of a form, and gives a valid form where its table keeps the
-- limits.
use mathlib.Core.Path.{◌≡◌, sym}
use Prim.Native.Nat.{ℕ, ◌+◌, ◌^◌, ◌≤◌, ◌<◌}
use mathlib.Core.List.{List, [], ◌∷◌}
use mathlib.Core.Bool.{Bool, true, false, ◌||◌}
use lib.ListN.{length}
use lib.Dec.{ltb, leb}
use borrow.Author.Tests.{le-leb, lt-ltb}
use Rattle.arith.specs.Congruence.{Eqm}
use Rattle.arith.proofs.CongruenceLaws.{eqm_of_eq, eqm_refl, eqm_trans, eqm_add}
use Rattle.base.specs.Choice.{when}
use Rattle.record.specs.Tree.{Tree}
use Rattle.expr.specs.Hash.{structural_hash}
use Rattle.expr.specs.Value.{value}
use Rattle.group.specs.declared.Group.{Group}
use Rattle.semilinear.specs.Form.{Row, Form, sum_rows, form_value, rows_ok, fits_table, valid_form, new_rows}
use Rattle.group.specs.Group.{used, at, empty_group, group_of, settle}
use Rattle.views.specs.Grouping.{variable_basis, bases_of, ungrouped}
use Rattle.semilinear.proofs.FormLaws.{form_parts}
use Rattle.semilinear.proofs.AtomLaws.{Atom}
use Rattle.group.proofs.TotalLaws.{total}
use Rattle.views.proofs.BasesLaws.{rising_from, risen}
use Rattle.views.proofs.GroupsLaws.{basis_sum, bases_sum, term_value, groups_value, bases_rising}
use Rattle.group.proofs.GroupOfLaws.{Fresh, group_of_lem}
use Rattle.group.proofs.WorkLaws.{Extends, extends_trans, Added, added_refl, added_trans, added_eqm}
use Rattle.group.proofs.ExtendsLaws.{ungrouped_extends}
use Rattle.structure_laws.specs.Carried.{Carried, carried_of}
use Rattle.structure_laws.specs.CoalesceTerms.{carried_rows}
use Rattle.structure_laws.specs.CoalesceTerms.{coalesce_group, coalesce_all, coalesce_form}
use Rattle.structure_laws.proofs.CarriedLaws.{carried_sum, carried_below, carried_sum_lem}
use Rattle.structure_laws.proofs.AddedLaws.{added_carried}
use Rattle.structure_laws.proofs.FreshLaws.{live_fresh, added_settled}

module _ (w : ℕ) (hw : w ≤ 64) (vars : List ℕ) (before : List Row)
    (ok : rows_ok w before ≡ true) where
  -- a group adds what it comes to, rewritten or not
  pub group_added : (b : Tree) → Atom b → (g : Group) → ((k : ℕ) → k < g.len → Fresh w vars b before (at g k))
      → (rows : List Row) → Extends w vars before rows
      → Added w vars (total (value w vars b) g) rows (coalesce_group w b g rows)
  unfolding coalesce_group
  group_added b hb g fresh rows f = go (ltb g.len 2 || leb g.len (length own))
    where
      own : List Carried
      own = carried_of w (used g)

      v : ℕ
      v = value w vars b

      same : Eqm (2 ^ w) (carried_sum v own) (total v g)
      same =
          carried_sum_lem w hw v g (λ k l. live_fresh (at g k) (fresh k l).unmarked) (λ k l. (fresh k l).mask_lt)

      go : (s : Bool)
          → Added w vars (total v g) rows (when s (λ _. settle w g rows) (λ _. carried_rows w b own rows))
      go true = added_settled w hw vars b before g fresh rows f
      go false =
          added_eqm w vars same
          (added_carried w hw vars b hb own (carried_below w hw v (used g)) rows (f.ok ok))

  -- all groups
  pub all_added : length before ≤ 256 → (l : List Tree) (n : ℕ) → rising_from n l ≡ true
      → (rows : List Row) → Extends w vars before rows
      → Added w vars (bases_sum variable_basis w (term_value w vars) l before) rows (coalesce_all w before l rows)
  unfolding bases_sum coalesce_all
  all_added most [] n r rows f = added_refl w vars rows
  all_added most (b ∷ l) n r rows f =
      let q = risen n b l r in
      let o = group_of_lem variable_basis w vars b q.atom.expr before most ok in
      let g : Group = group_of variable_basis w b 0 before empty_group in
      let first : Added w vars (basis_sum variable_basis w (term_value w vars) b before) rows (coalesce_group w b g rows) =
      added_eqm w vars (eqm_of_eq o.sum) (group_added b q.atom g o.fresh rows f) in
      added_trans w vars first
      (all_added most l (structural_hash b) q.rest (coalesce_group w b g rows)
      (extends_trans w vars f first.extends))

-- what the rows of a valid form become
coalesced : (vars : List ℕ) (f : Form) → valid_form f ≡ true
    → Added f.bitwidth vars
    (bases_sum variable_basis f.bitwidth (term_value f.bitwidth vars)
    (bases_of variable_basis f.bitwidth f.rows []) f.rows)
    (ungrouped variable_basis f.bitwidth f.rows) (coalesce_form f).rows
unfolding coalesce_form
coalesced vars f e =
    let v = form_parts f e in
    let w : ℕ = f.bitwidth in
    all_added w v.width_le vars f.rows v.rows_ok_lem v.atoms_le (bases_of variable_basis w f.rows []) 0
    (bases_rising variable_basis w f.rows v.rows_ok_lem) (ungrouped variable_basis w f.rows)
    (ungrouped_extends variable_basis w vars f.rows)

-- coalescing keeps the value of a form, under every assignment
pub value_coalesce : (vars : List ℕ) (f : Form) → valid_form f ≡ true
    → form_value vars (coalesce_form f) ≡ form_value vars f
unfolding form_value coalesce_form
value_coalesce vars f e =
    let v = form_parts f e in
    let w : ℕ = f.bitwidth in
    let rows : List Row = (coalesce_form f).rows in
    let same : Eqm (2 ^ w) (f.constant + sum_rows w vars rows) (f.constant + sum_rows w vars f.rows) =
    eqm_add (eqm_refl f.constant)
    (eqm_trans (coalesced vars f e).sum
    (eqm_of_eq (sym (groups_value variable_basis w vars f.rows v.rows_ok_lem)))) in
    same.eqm

-- coalescing gives a valid form where its table keeps the limits
pub valid_coalesce : (f : Form) → valid_form f ≡ true → fits_table (coalesce_form f).rows ≡ true
    → valid_form (coalesce_form f) ≡ true
unfolding valid_form coalesce_form
valid_coalesce f e fits =
    let v = form_parts f e in
    let w : ℕ = f.bitwidth in
    let ok : rows_ok w (coalesce_form f).rows ≡ true =
    (coalesced [] f e).extends.ok ((ungrouped_extends variable_basis w [] f.rows).ok v.rows_ok_lem) in
    simp (le-leb 1 w v.width_pos, le-leb w 64 v.width_le, lt-ltb f.constant (2 ^ w) v.fits, fits, ok)

-- with new heads
pub new_coalesce : (f : Form) → valid_form f ≡ true → new_rows f.rows ≡ true → new_rows (coalesce_form f).rows ≡ true
unfolding coalesce_form
new_coalesce f e h =
    (coalesced [] f e).extends.new ((ungrouped_extends variable_basis f.bitwidth [] f.rows).new h)
