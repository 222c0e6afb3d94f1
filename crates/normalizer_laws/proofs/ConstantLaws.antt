-- Literals written as sums (request #104). A subtree without a variable adds its value at w bits to the constant, or is
-- a factor by that value, whatever stands in it. An Add, a Mul or a Neg below an And, Or, Xor, Not or Shr that has a
-- variable is nonlinear, whether it stands beside the variable or over it.
use mathlib.Core.Path.{◌≡◌, refl, ap, sym, ◌∙◌}
use Prim.Native.Nat.{ℕ, ◌%◌, ◌^◌, ◌≤◌}
use native.Mathlib.Omega.{arith}
use native.Mathlib.Nat.{mod-eq_of_lt, zero-mul, zero-mod}
use native.Mathlib.Decide.{ℕ_discrete}
use mathlib.Core.List.{List, []}
use mathlib.Core.Bool.{Bool, true, false, ◌||◌}
use lib.Dec.{eqb}
use borrow.Author.Tests.{eqb-true, ne_eqb}
use Rattle.arith.specs.Width.{word_bits, mod_mul}
use Rattle.arith.proofs.WidthLaws.{mod_mul_lem}
use Rattle.base.specs.Choice.{when}
use Rattle.base.proofs.BoolLaws.{false_true, or_false}
use Rattle.record.specs.Fields.{width}
use Rattle.record.specs.Tree.{Tree}
use Rattle.record.specs.Tree.Tree.{Constant, Variable, Unary, Binary}
use Rattle.record.specs.Decode.{decode}
use Rattle.expr_refusal.specs.Refusal.{expr_refusal}
use Rattle.expr_refusal.proofs.RefusalLaws.{accepted_root}
use Rattle.expr_utils.specs.Utils.{has_kind, has_var_dep, has_arith}
use Rattle.expr.specs.Value.{value}
use Rattle.expr.specs.ExprValue.{expr_value}
use Rattle.expr.proofs.ValueLaws.{value_lt, value_closed}
use Rattle.expr.proofs.ExprValueLaws.{accepted_tree, expr_value_accepted}
use Rattle.semilinear.specs.Form.{Form, tree_records, fits_table}
use Rattle.base.specs.Outcome.{refused}
use Rattle.semilinear.specs.Outcome.{form_outcome}
use Rattle.normalizer_laws.specs.Collect.{Collected, nonlinear, linear, collect_constant, collect_terms}
use Rattle.normalizer_laws.specs.Register.{register_all}
use Rattle.normalizer_laws.specs.Normalize.{collected_form, normalize_tree, normalize_to_semilinear}
use Rattle.normalizer_laws.proofs.NormalizeLaws.{tree_eight, tree_form, normalize_file, file_tree}

-- the form of a constant
abbrev pub constant_form : ℕ → ℕ → Form
constant_form w c = record { bitwidth = w; constant = c; rows = [] }

module _ (w : ℕ) where
  mul_none : (v : ℕ) → mod_mul 0 v w ≡ 0
  unfolding mod_mul
  mul_none v = ap (λ (x : ℕ). x % 2 ^ word_bits w) (zero-mul v) ∙ zero-mod (2 ^ word_bits w)

  -- nothing is collected under the coefficient 0
  pub collect_none : (t : Tree) → collect_terms w 0 t ≡ linear 0 []
  unfolding collect_terms
  collect_none (Constant v) = refl
  collect_none (Variable i) = refl
  collect_none (Unary k a t) = refl
  collect_none (Binary k l r) = refl

  -- ---- constants

  -- the test for the coefficient 0 makes no difference to a constant
  under_none : (c : ℕ) (t : Tree)
      → when (eqb c 0) (λ _. linear 0 []) (λ _. collect_constant w c t) ≡ linear (mod_mul c (value w [] t) w) []
  unfolding collect_constant
  under_none c t = go (eqb c 0) refl
    where
      sum : ℕ → Collected
      sum n = linear n []

      go : (b : Bool) → eqb c 0 ≡ b
          → when b (λ _. linear 0 []) (λ _. linear (mod_mul c (value w [] t) w) []) ≡ linear (mod_mul c (value w [] t) w) []
      go true e =
          ap sum (sym (ap (λ (x : ℕ). mod_mul x (value w [] t) w) (eqb-true c 0 e) ∙ mul_none (value w [] t)))
      go false e = refl

  -- a subtree without a variable: the coefficient times its value at w bits, and no atom
  pub collect_constant_lem : (c : ℕ) (t : Tree) → has_var_dep t ≡ false
      → collect_terms w c t ≡ linear (mod_mul c (value w [] t) w) []
  unfolding collect_terms has_kind
  collect_constant_lem c (Constant v) e = under_none c (Constant v)
  collect_constant_lem c (Variable i) e = false_true (sym e)
  collect_constant_lem c (Unary k a t) e = simp (or_false (eqb k 1) (has_var_dep t) e).1 (under_none c (Unary k a t))
  collect_constant_lem c (Binary k l r) e =
      simp (or_false (eqb k 1) (has_var_dep l || has_var_dep r) e).1 (under_none c (Binary k l r))

  -- ---- factors

  -- a product whose one side has no variable: the other side, under the coefficient times that side's value at w bits
  module _ (c : ℕ) (m t : Tree) (closed : has_var_dep m ≡ false) (open-side : has_var_dep t ≡ true) where
    abbrev Factor : Tree → Type 0
    Factor x = collect_terms w c x ≡ collect_terms w (mod_mul c (value w [] m) w) t

    -- under the coefficient 0 both are nothing
    but_none : (x : Tree) → ((c ≡ 0 → ⊥) → Factor x) → Factor x
    but_none x h = go (ℕ_discrete c 0)
      where
        go : Dec (c ≡ 0) → Factor x
        go (yes z) =
            ap (λ (n : ℕ). collect_terms w n x) z
            ∙ collect_none x
            ∙ sym (collect_none t)
            ∙ ap (λ (n : ℕ). collect_terms w n t)
            (sym (ap (λ (n : ℕ). mod_mul n (value w [] m) w) z ∙ mul_none (value w [] m)))
        go (no n) = h n

    pub collect_factor_left : Factor (Binary 3 m t)
    unfolding collect_terms
    collect_factor_left = but_none (Binary 3 m t) (λ n. simp (ne_eqb c 0 n, closed, open-side))

    pub collect_factor_right : Factor (Binary 3 t m)
    unfolding collect_terms
    collect_factor_right = but_none (Binary 3 t m) (λ n. simp (ne_eqb c 0 n, closed, open-side))

  -- ---- arithmetic below an operator that has a variable

  module _ (c : ℕ) (some : c ≡ 0 → ⊥) where
    -- Not and Shr
    pub collect_over_one : (k a : ℕ) (t : Tree) → (k ≡ 8 → ⊥) → has_var_dep t ≡ true → has_arith t ≡ true
        → collect_terms w c (Unary k a t) ≡ nonlinear
    unfolding collect_terms
    collect_over_one k a t n v h = simp (ne_eqb c 0 some, ne_eqb k 8 n, v, h)

    -- And, Or and Xor
    pub collect_over_two : (k : ℕ) (l r : Tree) → 4 ≤ k → has_var_dep l || has_var_dep r ≡ true
        → has_arith l || has_arith r ≡ true → collect_terms w c (Binary k l r) ≡ nonlinear
    unfolding collect_terms
    collect_over_two k l r h v a =
        simp (ne_eqb c 0 some, ne_eqb k 2 (omega arith), ne_eqb k 3 (omega arith), v, a)

  -- as a whole tree: refusal 8
  pub tree_over_one : (k a : ℕ) (t : Tree) → (k ≡ 8 → ⊥) → has_var_dep t ≡ true → has_arith t ≡ true
      → normalize_tree w (Unary k a t) ≡ refused 8
  tree_over_one k a t n v h = tree_eight w (Unary k a t) (collect_over_one 1 (λ e. omega arith) k a t n v h)

  pub tree_over_two : (k : ℕ) (l r : Tree) → 4 ≤ k → has_var_dep l || has_var_dep r ≡ true
      → has_arith l || has_arith r ≡ true → normalize_tree w (Binary k l r) ≡ refused 8
  tree_over_two k l r h v a = tree_eight w (Binary k l r) (collect_over_two 1 (λ e. omega arith) k l r h v a)

-- ---- expressions without a variable

-- a tree: its value is the constant, and there is no atom
pub tree_constant : (w : ℕ) → w ≤ 64 → (t : Tree) → has_var_dep t ≡ false
    → normalize_tree w t ≡ form_outcome (constant_form w (value w [] t)) false
unfolding collected_form register_all fits_table tree_records
tree_constant w hw t e =
    let v : ℕ = value w [] t in
    let one : mod_mul 1 v w ≡ v =
    mod_mul_lem 1 v w hw ∙ ap (λ (x : ℕ). x % 2 ^ w) (omega arith) ∙ mod-eq_of_lt (value_lt w [] t) in
    tree_form w t v [] (collect_constant_lem w 1 t e ∙ ap (λ (n : ℕ). linear n []) one) refl

-- a file: accepted, with its value under any assignment
pub normalize_constant : (s : List ℕ) (len : ℕ) → expr_refusal s ≡ 0 → len ≡ 57360 → has_var_dep (decode s) ≡ false
    → (vars : List ℕ) → normalize_to_semilinear s len ≡ form_outcome (constant_form (width s) (expr_value s vars)) false
normalize_constant s len z n e vars =
    let root = accepted_root (width s) s (accepted_tree s z) in
    file_tree s len (decode s) (normalize_file s len) z n
    ∙ tree_constant (width s) root.width_le (decode s) e
    ∙ ap (λ (c : ℕ). form_outcome (constant_form (width s) c) false)
    (sym (expr_value_accepted s vars z refl ∙ value_closed (width s) vars (decode s) e))
