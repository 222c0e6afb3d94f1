-- What the descent collects has the value of the tree times the coefficient, modulo 2 ^ w, under every assignment.
use mathlib.Core.Path.{◌≡◌, refl, ap, ap₂, sym, subst, ◌∙◌}
use Prim.Native.Nat.{ℕ, ◌+◌, ◌-◌, ◌*◌, ◌%◌, ◌^◌, ◌≤◌, ◌<◌}
use native.Mathlib.Omega.{arith}
use native.Mathlib.Nat.{mod-eq_of_lt, zero-mul, mul_assoc, mul_comm}
use mathlib.Core.Logic.{◌⊎◌}
use mathlib.Core.List.{List, [], ◌∷◌, ◌++◌}
use mathlib.Core.Bool.{Bool, true, false, not, ◌&&◌, ◌||◌}
use lib.Dec.{eqb}
use lib.Bits.{bit_and, and_comm}
use borrow.Author.Tests.{eqb-true, eqb-false, ne_eqb, not-true}
use Rattle.arith.specs.Congruence.{Eqm}
use Rattle.arith.specs.Width.{mod_mul, mod_neg}
use Rattle.arith.proofs.CongruenceLaws.{eqm_of_eq, eqm_refl, eqm_sym, eqm_trans, eqm_add, eqm_mul_r}
use Rattle.arith.proofs.WidthLaws.{mod_add_eqm, mod_mul_eqm, mod_mul_lt, mod_neg_eqm, mod_neg_lt}
use Rattle.arith.proofs.MaskLaws.{not_minus}
use Rattle.base.specs.Choice.{when}
use Rattle.record.specs.Tree.{Tree}
use Rattle.record.specs.Tree.Tree.{Constant, Variable, Unary, Binary}
use Rattle.base.proofs.BoolLaws.{and_true}
use Rattle.expr_refusal.specs.Refusal.{is_expr}
use Rattle.expr_utils.specs.Utils.{has_kind, has_var_dep, has_arith}
use Rattle.expr.specs.Value.{binary, value}
use Rattle.expr.proofs.ValueLaws.{value_lt, value_closed}
use Rattle.expr.proofs.IsExprLaws.{unary_of_expr, binary_of_expr}
use Rattle.semilinear.proofs.RowsLaws.{word_lt}
use Rattle.normalizer_laws.specs.Collect.{Emitted, Collected, nonlinear, linear, join_collected, collect_atom}
use Rattle.normalizer_laws.specs.Collect.{collect_constant, is_not, operand, collect_not, is_masked_not}
use Rattle.normalizer_laws.specs.Collect.{collect_and, and_coeff, collect_masked, collect_terms}
use Rattle.normalizer_laws.proofs.RootLaws.{five_six, four, literal_value, or_xor, or_xor_comm, and_coeff_lem}
use Rattle.normalizer_laws.proofs.RootLaws.{not_value, value_neg, value_add, value_mul, value_or_xor}
use Rattle.normalizer_laws.proofs.RootLaws.{value_and}

-- the coefficient times the atom, of all that was emitted
unfoldable pub sum_emitted : ℕ → List ℕ → List Emitted → ℕ
sum_emitted w vars [] = 0
sum_emitted w vars (e ∷ l) = e.coeff * value w vars e.tree + sum_emitted w vars l

sum_emitted_append : (w : ℕ) (vars : List ℕ) (l m : List Emitted)
    → sum_emitted w vars (l ++ m) ≡ sum_emitted w vars l + sum_emitted w vars m
unfolding sum_emitted
sum_emitted_append w vars [] m = omega arith
sum_emitted_append w vars (e ∷ l) m = omega (arith, sum_emitted_append w vars l m)

module _ (w : ℕ) (vars : List ℕ) (hw : w ≤ 64) where
  -- what was collected has the value x modulo 2 ^ w, or is nonlinear
  unfoldable pub HasValue : Collected → ℕ → Type 0
  HasValue nonlinear x = Unit {0}
  HasValue (linear d l) x = Eqm (2 ^ w) (d + sum_emitted w vars l) x

  abbrev v : Tree → ℕ
  v = value w vars

  has_eqm : (x : Collected) {a b : ℕ} → Eqm (2 ^ w) a b → HasValue x a → HasValue x b
  unfolding HasValue
  has_eqm nonlinear e h = tt
  has_eqm (linear d l) e h = eqm_trans h e

  has_eq : (x : Collected) {a b : ℕ} → a ≡ b → HasValue x a → HasValue x b
  has_eq x e h = has_eqm x (eqm_of_eq e) h

  has_nonlinear : (a : ℕ) → HasValue nonlinear a
  unfolding HasValue
  has_nonlinear a = tt

  has_none : (c : ℕ) (x : ℕ) → c ≡ 0 → HasValue (linear 0 []) (c * x)
  unfolding HasValue sum_emitted
  has_none c x e = eqm_of_eq (sym (ap (λ (y : ℕ). y * x) e ∙ zero-mul x))

  has_when : (b : Bool) (x y : Collected) (a : ℕ) → (b ≡ true → HasValue x a) → (b ≡ false → HasValue y a)
      → HasValue (when b (λ _. x) (λ _. y)) a
  has_when true x y a p q = p refl
  has_when false x y a p q = q refl

  none_when : (c a : ℕ) (y : Collected) → HasValue y (c * a)
      → HasValue (when (eqb c 0) (λ _. linear 0 []) (λ _. y)) (c * a)
  none_when c a y h = has_when (eqb c 0) (linear 0 []) y (c * a) (λ e. has_none c a (eqb-true c 0 e)) (λ e. h)

  has_join : (x y : Collected) (a b : ℕ) → HasValue x a → HasValue y b → HasValue (join_collected w x y) (a + b)
  unfolding HasValue join_collected
  has_join nonlinear y a b h k = tt
  has_join (linear c l) nonlinear a b h k = tt
  has_join (linear c l) (linear d m) a b h k =
      eqm_trans (eqm_add (mod_add_eqm c d w hw) (eqm_of_eq (sum_emitted_append w vars l m)))
      (eqm_trans (eqm_of_eq (omega arith)) (eqm_add h k))

  has_atom : (c : ℕ) (t : Tree) → HasValue (collect_atom c t) (c * v t)
  unfolding HasValue collect_atom sum_emitted
  has_atom c t = eqm_of_eq (omega arith)

  has_constant : (c : ℕ) (t : Tree) → has_var_dep t ≡ false → HasValue (collect_constant w c t) (c * v t)
  unfolding HasValue collect_constant sum_emitted
  has_constant c t e =
      eqm_trans (eqm_of_eq (omega arith))
      (eqm_trans (mod_mul_eqm c (value w [] t) w hw)
      (eqm_of_eq (ap (λ (y : ℕ). c * y) (sym (value_closed w vars t e)))))

  -- ~x & k, where k has w bits
  has_not : (c : ℕ) (x : Tree) (k : ℕ) → c < 2 ^ 64 → k < 2 ^ w
      → HasValue (collect_not w c x k) (c * bit_and (2 ^ w - 1 - v x) k)
  unfolding HasValue collect_not sum_emitted value binary
  has_not c x k hc hk =
      let e : k % 2 ^ w ≡ k = mod-eq_of_lt hk in
      let n : Eqm (2 ^ w) (mod_neg c w + c) 0 = mod_neg_eqm c w hw hc in
      rw e
      (eqm_trans (eqm_add (mod_mul_eqm c k w hw) (eqm_refl (mod_neg c w * bit_and (v x) k + 0)))
      (eqm_trans (eqm_of_eq (omega arith))
      (eqm_sym (not_minus (2 ^ w) w c (v x) k (mod_neg c w) (value_lt w vars x) hk n))))

  masked_not : (c : ℕ) (x y : Tree) → c < 2 ^ 64 → is_masked_not x y ≡ true
      → HasValue (collect_not w c (operand x) (value w [] y)) (c * bit_and (v x) (v y))
  unfolding is_masked_not
  masked_not c x y hc e =
      let p = and_true (is_not x) (has_var_dep x && not (has_var_dep y)) e in
      let q = and_true (has_var_dep x) (not (has_var_dep y)) p.1 in
      let cl : v y ≡ value w [] y = value_closed w vars y (not-true _ q.1) in
      has_eq _ (ap₂ (λ (a b : ℕ). c * bit_and a b) (sym (not_value w vars x p.0)) (sym cl))
      (has_not c (operand x) (value w [] y) hc (value_lt w [] y))

  atom_and : (c : ℕ) (l r : Tree) → HasValue (collect_atom c (Binary 4 l r)) (c * bit_and (v l) (v r))
  unfolding value binary
  atom_and c l r = has_atom c (Binary 4 l r)

  has_and : (c : ℕ) (l r : Tree) → c < 2 ^ 64 → HasValue (collect_and w c l r) (c * bit_and (v l) (v r))
  unfolding collect_and
  has_and c l r hc =
      none_when c (bit_and (v l) (v r)) _
      (has_when (is_masked_not l r) _ _ (c * bit_and (v l) (v r)) (λ e. masked_not c l r hc e)
      (λ e. has_when (is_masked_not r l) _ _ (c * bit_and (v l) (v r))
      (λ f. has_eq _ (ap (λ (x : ℕ). c * x) (and_comm (v r) (v l))) (masked_not c r l hc f))
      (λ f. atom_and c l r)))

  has_masked : (k c : ℕ) (x : Collected) (t m : Tree) → c < 2 ^ 64 → has_var_dep m ≡ false → HasValue x (c * v t)
      → HasValue (collect_masked w k c x t m) (c * or_xor k (v t) (v m))
  unfolding collect_masked
  has_masked k c x t m hc hm h =
      let p = and_coeff_lem w hw k c (v t) (v m) hc in
      let lit : Tree = Constant (value w [] m) in
      let j : ℕ = and_coeff w k c in
      has_eqm _ p.1
      (has_join _ _ (c * v t + c * v m) (j * bit_and (v t) (v m))
      (has_join _ _ (c * v t) (c * v m) h (has_constant c m hm))
      (has_eq _ (ap (λ (y : ℕ). j * bit_and (v t) y) (literal_value w vars m hm)) (has_and j t lit p.0)))

  -- ---- the descent

  CollectsValue : Tree → Type 0
  CollectsValue t = (c : ℕ) → c < 2 ^ 64 → HasValue (collect_terms w c t) (c * v t)

  closed_one : (k a : ℕ) (t : Tree) → is_expr (Unary k a t) ≡ true → has_var_dep t ≡ false
      → has_var_dep (Unary k a t) ≡ false
  unfolding has_kind
  closed_one k a t e h =
      let u = unary_of_expr k a t e in
      simp (ne_eqb k 1 (omega (arith, u.low)), h)

  kept_one : (k a : ℕ) (t : Tree) → is_expr (Unary k a t) ≡ true → CollectsValue t → CollectsValue (Unary k a t)
  unfolding CollectsValue collect_terms
  kept_one k a t e below c hc =
      none_when c (v (Unary k a t)) _
      (has_when (not (has_var_dep t)) _ _ (c * v (Unary k a t))
      (λ h. has_constant c (Unary k a t) (closed_one k a t e (not-true _ h)))
      (λ h. has_when (eqb k 8) _ _ (c * v (Unary k a t))
      (λ n. has_eqm _ (subst (λ (j : ℕ). Eqm (2 ^ w) (mod_neg c w * v t) (c * v (Unary j a t))) (sym (eqb-true k 8 n))
      (value_neg w vars a t c hw hc)) (below (mod_neg c w) (word_lt w _ hw (mod_neg_lt c w hw))))
      (λ n. has_when (has_arith t) _ _ (c * v (Unary k a t)) (λ x. has_nonlinear _) (λ x. has_atom c (Unary k a t)))))

  closed_two : (k : ℕ) (l r : Tree) → 2 ≤ k → has_var_dep l || has_var_dep r ≡ false → has_var_dep (Binary k l r) ≡ false
  unfolding has_kind
  closed_two k l r low h = simp (ne_eqb k 1 (omega arith), h)

  -- a product whose side m is variable-free
  kept_factor : (m t : Tree) (c : ℕ) → has_var_dep m ≡ false → CollectsValue t
      → HasValue (collect_terms w (mod_mul c (value w [] m) w) t) (c * (v m * v t))
  unfolding CollectsValue
  kept_factor m t c hm below =
      has_eqm _
      (eqm_trans (eqm_mul_r (v t) (mod_mul_eqm c (value w [] m) w hw))
      (eqm_of_eq
      (mul_assoc c (value w [] m) (v t) ∙ ap (λ (x : ℕ). c * (x * v t)) (sym (value_closed w vars m hm)))))
      (below (mod_mul c (value w [] m) w) (word_lt w _ hw (mod_mul_lt c (value w [] m) w hw)))

  kept_mul : (l r : Tree) (c : ℕ) → CollectsValue l → CollectsValue r
      → HasValue
      (when (not (has_var_dep l)) (λ _. collect_terms w (mod_mul c (value w [] l) w) r)
      (λ _. when (not (has_var_dep r)) (λ _. collect_terms w (mod_mul c (value w [] r) w) l) (λ _. nonlinear)))
      (c * v (Binary 3 l r))
  kept_mul l r c below-l below-r =
      has_eqm _ (value_mul w vars l r c)
      (has_when (not (has_var_dep l)) _ _ (c * (v l * v r)) (λ e. kept_factor l r c (not-true _ e) below-r)
      (λ e. has_when (not (has_var_dep r)) _ _ (c * (v l * v r))
      (λ f. has_eq _ (ap (λ (x : ℕ). c * x) (mul_comm (v r) (v l))) (kept_factor r l c (not-true _ f) below-l))
      (λ f. has_nonlinear _)))

  -- And, Or and Xor without Add, Mul and Neg
  kept_bitwise : (k : ℕ) (l r : Tree) (c : ℕ) → c < 2 ^ 64 → 4 ≤ k → k < 7 → CollectsValue l → CollectsValue r
      → HasValue
      (when (eqb k 4) (λ _. collect_and w c l r)
      (λ _. when (not (has_var_dep l)) (λ _. collect_masked w k c (collect_terms w c r) r l)
      (λ _. when (not (has_var_dep r)) (λ _. collect_masked w k c (collect_terms w c l) l r)
      (λ _. collect_atom c (Binary k l r)))))
      (c * v (Binary k l r))
  unfolding CollectsValue
  kept_bitwise k l r c hc low high below-l below-r =
      has_when (eqb k 4) _ _ (c * v (Binary k l r))
      (λ e. has_eq _ (ap (λ (x : ℕ). c * x) (value_and w vars k l r (eqb-true k 4 e))) (has_and c l r hc))
      (λ e.
      let ox : (k ≡ 5) ⊎ (k ≡ 6) = five_six k low high (eqb-false k 4 e) in
      has_when (not (has_var_dep l)) _ _ (c * v (Binary k l r))
      (λ f. has_eq _ (ap (λ (x : ℕ). c * x) (or_xor_comm k (v r) (v l) ∙ sym (value_or_xor w vars k l r ox)))
      (has_masked k c (collect_terms w c r) r l hc (not-true _ f) (below-r c hc)))
      (λ f. has_when (not (has_var_dep r)) _ _ (c * v (Binary k l r))
      (λ g. has_eq _ (ap (λ (x : ℕ). c * x) (sym (value_or_xor w vars k l r ox)))
      (has_masked k c (collect_terms w c l) l r hc (not-true _ g) (below-l c hc)))
      (λ g. has_atom c (Binary k l r))))

  kept_two : (k : ℕ) (l r : Tree) → is_expr (Binary k l r) ≡ true → CollectsValue l → CollectsValue r
      → CollectsValue (Binary k l r)
  unfolding CollectsValue collect_terms
  kept_two k l r e below-l below-r c hc =
      let b = binary_of_expr k l r e in
      let x : ℕ = c * v (Binary k l r) in
      none_when c (v (Binary k l r)) _
      (has_when (not (has_var_dep l || has_var_dep r)) _ _ x
      (λ h. has_constant c (Binary k l r) (closed_two k l r b.low (not-true _ h)))
      (λ h. has_when (eqb k 2) _ _ x
      (λ n. has_eqm _ (subst (λ (j : ℕ). Eqm (2 ^ w) (c * v l + c * v r) (c * v (Binary j l r))) (sym (eqb-true k 2 n))
      (value_add w vars l r c)) (has_join _ _ (c * v l) (c * v r) (below-l c hc) (below-r c hc)))
      (λ n. has_when (eqb k 3) _ _ x
      (λ m. has_eq _ (ap (λ (j : ℕ). c * v (Binary j l r)) (sym (eqb-true k 3 m))) (kept_mul l r c below-l below-r))
      (λ m. has_when (has_arith l || has_arith r) _ _ x (λ y. has_nonlinear _)
      (λ y. kept_bitwise k l r c hc (four k b.low (eqb-false k 2 n) (eqb-false k 3 m)) b.high below-l below-r)))))

  -- what is collected of an expression has its value times the coefficient
  pub collect_value : (t : Tree) → is_expr t ≡ true → (c : ℕ) → c < 2 ^ 64 → HasValue (collect_terms w c t) (c * v t)
  unfolding CollectsValue collect_terms has_kind
  collect_value (Constant u) e c hc = none_when c (v (Constant u)) _ (has_constant c (Constant u) refl)
  collect_value (Variable i) e c hc = none_when c (v (Variable i)) _ (has_atom c (Variable i))
  collect_value (Unary k a t) e c hc =
      kept_one k a t e (collect_value t (unary_of_expr k a t e).child) c hc
  collect_value (Binary k l r) e c hc =
      let b = binary_of_expr k l r e in
      kept_two k l r e (collect_value l b.child_l) (collect_value r b.child_r) c hc
