-- The rows that stand for a row that is flattened (specs/FlattenComplexAtoms.antt): with what is added to the constant
-- they have its coefficient times its value, and they are valid.
use mathlib.Core.Path.{◌≡◌, refl, ap, ◌∙◌}
use Prim.Native.Nat.{ℕ, ◌+◌, ◌-◌, ◌*◌, ◌^◌, ◌≤◌, ◌<◌}
use native.Mathlib.Omega.{arith}
use native.Mathlib.Nat.{lt_of_lt_of_le, lt_of_le_of_lt}
use native.Mathlib.Decide.{ℕ_discrete}
use mathlib.Core.List.{List, [], ◌∷◌, ◌++◌}
use mathlib.Core.Bool.{Bool, true, false, not, ◌&&◌}
use lib.ListN.{length}
use lib.Bits.{bit_and, and_le_l, and_zero_r}
use lib.Dec.{eqb}
use lib.Pow.{pow_mono}
use borrow.Author.Tests.{eqb-true, eq-eqb, ne_eqb, not-true}
use Rattle.base.specs.Limits.{var_limit}
use Rattle.arith.specs.Congruence.{Eqm}
use Rattle.arith.specs.Width.{mod_add, mod_mul, mod_neg}
use Rattle.arith.proofs.CongruenceLaws.{eqm_of_eq, eqm_refl, eqm_sym, eqm_trans, eqm_add, eqm_minus}
use Rattle.arith.proofs.WidthLaws.{mod_add_eqm, mod_mul_eqm, mod_neg_eqm, mod_neg_lt}
use Rattle.base.specs.Choice.{when}
use Rattle.record.specs.Tree.Tree.{Variable}
use Rattle.base.proofs.BoolLaws.{and_true}
use Rattle.expr_utils.specs.Utils.{has_kind, has_shr, has_arith}
use Rattle.expr.specs.Value.{value}
use Rattle.expr.specs.Vars.{next_var, support}
use Rattle.expr.proofs.IsExprLaws.{occurs_lt, expr_of_variable}
use Rattle.semilinear.specs.Form.{Row, sum_rows, rows_ok, new_row}
use Rattle.made.specs.Rows.{masked_tree}
use Rattle.semilinear.proofs.FormLaws.{Good, good_row, rows_cons}
use Rattle.semilinear.proofs.AtomLaws.{Atom, atom_tree_lem, tree_atom}
use Rattle.group.proofs.WorkLaws.{masked_value, masked_tree_atom}
use Rattle.structure_laws.specs.FlattenComplexAtoms.{is_plain, is_complex, at_zero, at_ones, flat_row}
use Rattle.structure_laws.proofs.OneVarLaws.{one_var_occurs, at_zero_lt, at_ones_lt, flatten_atom}

-- ---- rows behind rows

pub sum_append : (w : ℕ) (vars : List ℕ) (l m : List Row)
    → sum_rows w vars (l ++ m) ≡ sum_rows w vars l + sum_rows w vars m
unfolding sum_rows
sum_append w vars [] m = omega arith
sum_append w vars (x ∷ l) m = omega (arith, sum_append w vars l m)

pub rows_append : (w : ℕ) (l m : List Row) → rows_ok w l ≡ true → rows_ok w m ≡ true → rows_ok w (l ++ m) ≡ true
unfolding rows_ok
rows_append w [] m a b = b
rows_append w (x ∷ l) m a b =
    let p = rows_cons w x l a in
    simp (good_row w x p.0, rows_append w l m p.1 b)

-- ---- a new row

variable_atom : (v : ℕ) → v < var_limit → Atom (Variable v)
unfolding has_kind has_arith
variable_atom v hv = record { expr = expr_of_variable v hv; variable = refl; plain = refl }

module _ (w v m c : ℕ) (l : List Row) (hm : m < 2 ^ w) where
  pub flat_row_sum : (vars : List ℕ)
      → sum_rows w vars (flat_row w v m c l) ≡ sum_rows w vars l + c * bit_and (value w vars (Variable v)) m
  unfolding flat_row sum_rows
  flat_row_sum vars = go (ℕ_discrete m 0)
    where
      x : ℕ
      x = value w vars (Variable v)

      go : Dec (m ≡ 0) → sum_rows w vars (flat_row w v m c l) ≡ sum_rows w vars l + c * bit_and x m
      go (yes e) =
          let none : bit_and x m ≡ 0 = ap (bit_and x) e ∙ and_zero_r x in
          simp (eq-eqb m 0 e) (omega (arith, ap (λ (n : ℕ). c * n) none))
      go (no n) =
          simp (ne_eqb m 0 n)
          (sum_append w vars l (new_row (masked_tree w (Variable v) m) c ∷ [])
          ∙ omega (arith, ap (λ (y : ℕ). c * y) (masked_value w vars (Variable v) m hm)))

  pub flat_row_ok : w ≤ 64 → v < var_limit → c < 2 ^ w → rows_ok w l ≡ true → rows_ok w (flat_row w v m c l) ≡ true
  unfolding flat_row rows_ok
  flat_row_ok hw hv hc ok = go (eqb m 0)
    where
      row : Row
      row = new_row (masked_tree w (Variable v) m) c

      good : Good w row
      good =
          record {
            known = omega arith;
            atom =
                masked_tree_atom w (Variable v) m (atom_tree_lem (Variable v) (variable_atom v hv))
                (lt_of_lt_of_le hm (pow_mono hw));
            fits = hc;
          }

      go : (b : Bool) → rows_ok w (when b (λ _. l) (λ _. l ++ (row ∷ []))) ≡ true
      go true = ok
      go false = rows_append w l (row ∷ []) ok (simp (good_row w row good))

-- ---- one row

-- what a row to flatten has
pub record Complex (x : Row) : Type 0 where
  pub one : length (support x.tree) ≡ 1
  pub no_shr : has_shr x.tree ≡ false

pub complex_parts : (w : ℕ) (x : Row) → is_complex w x ≡ true → Complex x
unfolding is_complex
complex_parts w x e =
    let one : Bool = eqb (length (support x.tree)) 1 in
    let p = and_true (not (eqb x.coeff 0)) (not (is_plain w x.tree) && (one && not (has_shr x.tree))) e in
    let q = and_true (not (is_plain w x.tree)) (one && not (has_shr x.tree)) p.1 in
    let r = and_true one (not (has_shr x.tree)) q.1 in
    record { one = eqb-true _ _ r.0; no_shr = not-true _ r.1 }

module _ (w : ℕ) (hw : w ≤ 64) (x : Row) (g : Good w x) (k : Complex x) where
  abbrev index : ℕ
  index = next_var 0 x.tree

  abbrev zeroed : ℕ
  zeroed = at_zero w x.tree

  abbrev raised : ℕ
  raised = at_ones w index x.tree

  -- the masks of the bits passed and of the bits inverted
  abbrev passes : ℕ
  passes = bit_and raised (2 ^ w - 1 - zeroed)

  abbrev inverts : ℕ
  inverts = bit_and zeroed (2 ^ w - 1 - raised)

  passes_lt : passes < 2 ^ w
  passes_lt = lt_of_le_of_lt (and_le_l raised (2 ^ w - 1 - zeroed)) (at_ones_lt w index x.tree)

  inverts_lt : inverts < 2 ^ w
  inverts_lt = lt_of_le_of_lt (and_le_l zeroed (2 ^ w - 1 - raised)) (at_zero_lt w x.tree)

  index_lt : index < var_limit
  index_lt = occurs_lt index x.tree (tree_atom x.tree g.atom).expr (one_var_occurs x.tree k.one)

  -- the rows and the constant that stand for the row
  abbrev flat_rows : List Row → List Row
  flat_rows l = flat_row w index inverts (mod_neg x.coeff w) (flat_row w index passes x.coeff l)

  abbrev flat_constant : ℕ → ℕ
  flat_constant n = mod_add n (mod_mul x.coeff zeroed w) w

  pub flat_rows_ok : (l : List Row) → rows_ok w l ≡ true → rows_ok w (flat_rows l) ≡ true
  flat_rows_ok l ok =
      flat_row_ok w index inverts (mod_neg x.coeff w) (flat_row w index passes x.coeff l) inverts_lt hw index_lt
      (mod_neg_lt x.coeff w hw)
      (flat_row_ok w index passes x.coeff l passes_lt hw index_lt g.fits ok)

  -- they add the coefficient times the value
  pub flat_rows_sum : (vars : List ℕ) (n : ℕ) (l : List Row)
      → Eqm (2 ^ w) (flat_constant n + sum_rows w vars (flat_rows l))
      (n + (x.coeff * value w vars x.tree + sum_rows w vars l))
  flat_rows_sum vars n l =
      eqm_trans (eqm_add constant (eqm_of_eq rows))
      (eqm_trans (eqm_of_eq (omega arith))
      (eqm_trans (eqm_add (eqm_refl (n + sum_rows w vars l)) (eqm_sym term)) (eqm_of_eq (omega arith))))
    where
      c : ℕ
      c = x.coeff

      d : ℕ
      d = mod_neg x.coeff w

      u : ℕ
      u = value w vars x.tree

      passed : ℕ
      passed = bit_and (value w vars (Variable index)) passes

      inverted : ℕ
      inverted = bit_and (value w vars (Variable index)) inverts

      constant : Eqm (2 ^ w) (flat_constant n) (n + c * zeroed)
      constant =
          eqm_trans (mod_add_eqm n (mod_mul c zeroed w) w hw) (eqm_add (eqm_refl n) (mod_mul_eqm c zeroed w hw))

      rows : sum_rows w vars (flat_rows l) ≡ sum_rows w vars l + c * passed + d * inverted
      rows =
          flat_row_sum w index inverts d (flat_row w index passes c l) inverts_lt vars
          ∙ ap (λ (y : ℕ). y + d * inverted) (flat_row_sum w index passes c l passes_lt vars)

      term : Eqm (2 ^ w) (c * u) (c * zeroed + c * passed + d * inverted)
      term =
          eqm_minus d c inverted (mod_neg_eqm c w hw (lt_of_lt_of_le g.fits (pow_mono hw)))
          (eqm_of_eq
          (omega (arith, ap (λ (y : ℕ). c * y) (flatten_atom w vars x.tree g.atom k.one k.no_shr))))
