-- The two kinds of side (specs/Judge.antt): what the judge rests on holds of an expression that normalising accepts,
-- and of a semilinear form.
use mathlib.Core.Path.{◌≡◌, refl, ap, ap₂, sym, ◌∙◌}
use Prim.Native.Nat.{ℕ, ◌+◌, ◌*◌, ◌%◌, ◌^◌, ◌≤◌, ◌<◌}
use native.Mathlib.Nat.{mod-lt}
use native.Mathlib.Omega.{arith}
use mathlib.Core.List.{List, [], ◌∷◌}
use mathlib.Core.Bool.{true, false}
use lib.ListN.{get_or}
use lib.Dec.{lit<}
use lib.Pow.{pow_pos}
use borrow.Author.Tests.{eq-eqb}
use Rattle.arith.specs.Congruence.{Eqm}
use Rattle.arith.proofs.CongruenceLaws.{eqm_of_eq, eqm_sym, eqm_trans, eqm_add, eqm_mod}
use Rattle.base.specs.Outcome.{refusal_of}
use Rattle.base.proofs.BoolLaws.{or_false, or_of_l, or_of_r}
use Rattle.record.specs.Fields.{width}
use Rattle.record.specs.Tree.{IsBytes}
use Rattle.record.specs.Decode.{decode}
use Rattle.expr_refusal.specs.Refusal.{is_expr, tree_refusal, expr_refusal}
use Rattle.expr_refusal.proofs.RefusalLaws.{Root, accepted_root}
use Rattle.expr.specs.Value.{value}
use Rattle.expr.specs.Vars.{occurs}
use Rattle.expr.specs.ExprValue.{expr_value}
use Rattle.expr.proofs.AcceptLaws.{accept_expr}
use Rattle.expr.proofs.ExprValueLaws.{accepted_tree, expr_value_accepted}
use Rattle.expr.proofs.IsExprLaws.{expr_of_binary}
use Rattle.expr.proofs.ValueLaws.{value_lt, value_occurs}
use Rattle.truth.specs.Truth.{shifts_var}
use Rattle.semilinear.specs.Form.{Row, Form, sum_rows, form_value, rows_ok}
use Rattle.semilinear.specs.Valid.{semilinear_refusal}
use Rattle.semilinear.specs.DecodeForm.{decode_form}
use Rattle.semilinear.proofs.AcceptLaws.{accepted_semilinear, form_valid}
use Rattle.semilinear.proofs.AtomLaws.{tree_atom}
use Rattle.semilinear.proofs.FormLaws.{rows_cons, Valid, form_parts}
use Rattle.semilinear_value.specs.Value.{semilinear_value}
use Rattle.normalizer_laws.specs.Collect.{collect_terms}
use Rattle.normalizer_laws.specs.Normalize.{normalize_tree, normalize_to_semilinear}
use Rattle.normalizer_laws.proofs.NormalizeLaws.{TreeCase, not_linear, too_large, written, tree_case, normalize_file}
use Rattle.normalizer_laws.proofs.NormalizeLaws.{FileCase, wrong_length, wrong_slice, no_expression, expression}
use Rattle.normalizer_laws.proofs.NormalizeLaws.{file_case}
use Rattle.judge_laws.specs.Judge.{Side, expr_side, atoms_tree, form_side}
use Rattle.judge_laws.specs.PlaceSum.{RowsUnshifted}
use Rattle.judge_laws.proofs.DescentLaws.{is_linear, descent}
use Rattle.judge_laws.proofs.PlacesLaws.{Additive}
use Rattle.judge_laws.proofs.SwapLaws.{Swapped, bitwise_swapped}

-- what the judge rests on: the value has w bits, depends on the variables of the tree alone, modulo 2 ^ w, and has the
-- same sum under two pairs of assignments with the same bits where the tree shifts no variable
pub record Sound (a : Side) : Type 0 where
  pub pos : 1 ≤ a.bitwidth
  pub expr : is_expr a.tree ≡ true
  pub small : (vars : List ℕ) → a.value vars < 2 ^ a.bitwidth
  pub depends : (x y : List ℕ)
      → ((v : ℕ) → occurs v a.tree ≡ true → get_or x v 0 % 2 ^ a.bitwidth ≡ get_or y v 0 % 2 ^ a.bitwidth)
      → a.value x ≡ a.value y
  pub adds : shifts_var a.tree ≡ false → (x y u v : List ℕ) → Swapped a.bitwidth x y u v
      → Eqm (2 ^ a.bitwidth) (a.value x + a.value y) (a.value u + a.value v)

pub sound_additive : (a : Side) → Sound a → shifts_var a.tree ≡ false → Additive a.bitwidth a.value
sound_additive a s n =
    record { small = s.small; cut = λ x y e. s.depends x y (λ v _. e v); adds = s.adds n }

-- ---- an expression

-- what is known of a file that normalising accepts
pub record Normal (s : List ℕ) : Type 0 where
  pub read : expr_refusal s ≡ 0
  pub linear : is_linear (collect_terms (width s) 1 (decode s)) ≡ true

module _ (s : List ℕ) (ok : (expr_side s).refusal ≡ 0) where
  pub normal : Normal s
  unfolding refusal_of is_linear
  normal = go (file_case s 57360 (decode s) (normalize_file s 57360))
    where
      by_tree : expr_refusal s ≡ 0 → refusal_of (normalize_tree (width s) (decode s)) ≡ 0
          → TreeCase (width s) (decode s) → Normal s
      by_tree z n (not_linear e f) = absurd (omega (arith, sym (ap refusal_of f) ∙ n))
      by_tree z n (too_large c l e fits f) = absurd (omega (arith, sym (ap refusal_of f) ∙ n))
      by_tree z n (written c l e fits f) = record { read = z; linear = ap is_linear e }

      go : FileCase (normalize_to_semilinear s 57360) s 57360 (decode s) → Normal s
      go (wrong_length e f) = absurd (omega (arith, sym (ap refusal_of f) ∙ ok))
      go (wrong_slice e n f) = absurd (n refl)
      go (no_expression e z n f) = absurd (z (sym (ap refusal_of f) ∙ ok))
      go (expression z n f) =
          by_tree z (sym (ap refusal_of f) ∙ ok) (tree_case (width s) (decode s))

  pub normal_tree : tree_refusal (width s) s ≡ 0
  normal_tree = accepted_tree s normal.read

  root : Root (width s) s
  root = accepted_root (width s) s normal_tree

  pub value_is : (vars : List ℕ) → expr_value s vars ≡ value (width s) vars (decode s)
  value_is vars = expr_value_accepted s vars normal.read refl

  pub expr_sound : IsBytes s → Sound (expr_side s)
  expr_sound h =
      record {
        pos = root.width_pos;
        expr = tree_expr;
        small = λ vars. rw (value_is vars) (value_lt (width s) vars (decode s));
        depends = λ x y e. value_is x ∙ value_occurs (width s) x y (decode s) e ∙ sym (value_is y);
        adds =
            λ n x y u v swap.
            rw (value_is x, value_is y, value_is u, value_is v)
            (eqm_trans (eqm_of_eq (omega arith))
            (eqm_trans
            (descent (width s) root.width_le x y u v swap (decode s) tree_expr n 1 (lit< tt) normal.linear)
            (eqm_of_eq (omega arith))));
      }
    where
      tree_expr : is_expr (decode s) ≡ true
      tree_expr = accept_expr (width s) s h normal_tree

-- ---- a semilinear form

-- its atoms as a sum
pub atoms_expr : (w : ℕ) (l : List Row) → rows_ok w l ≡ true → is_expr (atoms_tree l) ≡ true
unfolding atoms_tree is_expr
atoms_expr w [] ok = refl
atoms_expr w (x ∷ l) ok =
    let c = rows_cons w x l ok in
    expr_of_binary 2 x.tree (atoms_tree l)
    (record {
      low = omega arith;
      high = omega arith;
      child_l = (tree_atom x.tree c.0.atom).expr;
      child_r = atoms_expr w l c.1;
    })

pub atoms_unshifted : (l : List Row) → shifts_var (atoms_tree l) ≡ false → RowsUnshifted l
unfolding atoms_tree shifts_var RowsUnshifted
atoms_unshifted [] n = tt
atoms_unshifted (x ∷ l) n =
    let o = or_false (shifts_var x.tree) (shifts_var (atoms_tree l)) n in
    (o.0, atoms_unshifted l o.1)

sum_depends : (w : ℕ) (x y : List ℕ) (l : List Row)
    → ((v : ℕ) → occurs v (atoms_tree l) ≡ true → get_or x v 0 % 2 ^ w ≡ get_or y v 0 % 2 ^ w)
    → sum_rows w x l ≡ sum_rows w y l
unfolding atoms_tree occurs sum_rows
sum_depends w x y [] e = refl
sum_depends w x y (r ∷ l) e =
    ap₂ (λ (m n : ℕ). r.coeff * m + n)
    (value_occurs w x y r.tree (λ v o. e v (or_of_l (occurs v r.tree) (occurs v (atoms_tree l)) o)))
    (sum_depends w x y l (λ v o. e v (or_of_r (occurs v r.tree) (occurs v (atoms_tree l)) o)))

module _ (w : ℕ) (x y u v : List ℕ) (swap : Swapped w x y u v) where
  sum_swapped : (l : List Row) → rows_ok w l ≡ true → RowsUnshifted l
      → sum_rows w x l + sum_rows w y l ≡ sum_rows w u l + sum_rows w v l
  unfolding sum_rows RowsUnshifted
  sum_swapped [] ok n = refl
  sum_swapped (r ∷ l) ok n =
      let c = rows_cons w r l ok in
      let a = tree_atom r.tree c.0.atom in
      let one =
      bitwise_swapped w r.tree (record { expr = a.expr; no_arith = a.plain; no_shift = n.0 }) x y u v swap in
      omega (arith, ap (λ (k : ℕ). r.coeff * k) one, sum_swapped l c.1 n.1)

  -- a form has the same sum under both pairs
  pub form_swapped : (f : Form) → f.bitwidth ≡ w → rows_ok w f.rows ≡ true → RowsUnshifted f.rows
      → Eqm (2 ^ w) (form_value x f + form_value y f) (form_value u f + form_value v f)
  unfolding form_value
  form_swapped f e ok n =
      rw e
      (eqm_trans (eqm_add (eqm_mod (2 ^ w) (f.constant + sum_rows w x f.rows))
      (eqm_mod (2 ^ w) (f.constant + sum_rows w y f.rows)))
      (eqm_trans (eqm_of_eq (omega (arith, sum_swapped f.rows ok n)))
      (eqm_sym
      (eqm_add (eqm_mod (2 ^ w) (f.constant + sum_rows w u f.rows))
      (eqm_mod (2 ^ w) (f.constant + sum_rows w v f.rows))))))

module _ (s : List ℕ) (h : IsBytes s) (ok : semilinear_refusal s ≡ 0) where
  pub accepted_valid : Valid (decode_form s)
  accepted_valid = form_parts (decode_form s) (form_valid s h (accepted_semilinear s ok))

  pub form_is : (vars : List ℕ) → semilinear_value s vars ≡ form_value vars (decode_form s)
  unfolding semilinear_value
  form_is vars = simp (eq-eqb (semilinear_refusal s) 0 ok)

  form_small : (vars : List ℕ) → form_value vars (decode_form s) < 2 ^ width s
  unfolding form_value decode_form
  form_small vars = mod-lt _ (pow_pos (width s))

  form_depends : (x y : List ℕ)
      → ((v : ℕ) → occurs v (atoms_tree (decode_form s).rows) ≡ true
      → get_or x v 0 % 2 ^ width s ≡ get_or y v 0 % 2 ^ width s)
      → form_value x (decode_form s) ≡ form_value y (decode_form s)
  unfolding form_value decode_form
  form_depends x y e =
      ap (λ (n : ℕ). ((decode_form s).constant + n) % 2 ^ width s)
      (sum_depends (width s) x y (decode_form s).rows e)

  pub form_sound : Sound (form_side s)
  unfolding decode_form
  form_sound =
      record {
        pos = accepted_valid.width_pos;
        expr = atoms_expr (width s) (decode_form s).rows accepted_valid.rows_ok_lem;
        small = λ vars. rw (form_is vars) (form_small vars);
        depends = λ x y e. form_is x ∙ form_depends x y e ∙ sym (form_is y);
        adds =
            λ n x y u v swap.
            rw (form_is x, form_is y, form_is u, form_is v)
            (form_swapped (width s) x y u v swap (decode_form s) refl accepted_valid.rows_ok_lem
            (atoms_unshifted (decode_form s).rows n));
      }
