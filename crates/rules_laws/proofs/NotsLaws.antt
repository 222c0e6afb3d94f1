-- Laws of `rewrite_nots` (specs/Rules.antt): it keeps the value, the variables, whether there is an Add, Mul or Neg, and
-- that the tree is an expression; without an Add, Mul or Neg it changes nothing.
use mathlib.Core.Path.{◌≡◌, refl, ap, ap₂, sym, ◌∙◌}
use Prim.Native.Nat.{ℕ, ◌+◌, ◌-◌, ◌%◌, ◌^◌, ◌≤◌, ◌<◌}
use native.Mathlib.Omega.{arith}
use native.Mathlib.Nat.{mod-lt}
use mathlib.Core.List.{List}
use mathlib.Core.Bool.{Bool, true, false, ◌&&◌, ◌||◌, or-false}
use lib.Dec.{eqb}
use lib.Pow.{pow_pos, pow_mono}
use borrow.Author.Tests.{eqb-true}
use Rattle.arith.proofs.CongruenceLaws.{eqm_intro, eqm_trans, eqm_mod, eqm_add, eqm_small}
use Rattle.base.specs.Choice.{when}
use Rattle.base.proofs.BoolLaws as bools
use Rattle.record.specs.Tree.{Tree}
use Rattle.record.specs.Tree.Tree.{Constant, Variable, Unary, Binary}
use Rattle.expr_refusal.specs.Refusal.{is_expr}
use Rattle.expr_utils.specs.Utils.{has_kind, has_var_dep, is_arith, has_arith}
use Rattle.expr.specs.Value.{unary, binary, value}
use Rattle.expr.proofs.IsExprLaws.{expr_of_constant, unary_of_expr, expr_of_unary, binary_of_expr, expr_of_binary}
use Rattle.expr.proofs.ValueLaws.{value_lt}
use Rattle.rules_laws.specs.Rules.{not_rule, rewrite_nots}

-- -e - 1
abbrev pub minus_one : ℕ → Tree → Tree
minus_one w f = Binary 2 (Unary 8 0 f) (Constant (2 ^ w - 1))

-- ---- a root with one child

-- its two cases
pub not_cases : (A : Tree → Type 0) (w k a : ℕ) (e f : Tree) → (eqb k 7 && has_arith e ≡ true → A (minus_one w f))
    → (eqb k 7 && has_arith e ≡ false → A (Unary k a f)) → A (not_rule w k a e f)
unfolding not_rule
not_cases A w k a e f p q = go (eqb k 7 && has_arith e) refl
  where
    go : (b : Bool) → eqb k 7 && has_arith e ≡ b
        → A (when b (λ _. minus_one w f) (λ _. Unary k a f))
    go true h = p h
    go false h = q h

-- the parts of the test
pub is_not_lem : (k : ℕ) (e : Tree) → eqb k 7 && has_arith e ≡ true → (k ≡ 7) × (has_arith e ≡ true)
is_not_lem k e h = let p = bools.and_true (eqb k 7) (has_arith e) h in (eqb-true k 7 p.0, p.1)

-- (M - x) + (M - 1) is M - 1 - x modulo M
minus_one_lem : (M x : ℕ) → x < M → ((M - x) % M + (M - 1) % M) % M ≡ M - 1 - x
minus_one_lem M x h =
    eqm_small (mod-lt ((M - x) % M + (M - 1) % M) (omega arith)) (omega arith)
    (eqm_trans (eqm_mod M ((M - x) % M + (M - 1) % M))
    (eqm_trans (eqm_add (eqm_mod M (M - x)) (eqm_mod M (M - 1)))
    (eqm_intro 0 1 (omega arith))))

module _ (w : ℕ) (vars : List ℕ) where
  minus_value : (a : ℕ) (f : Tree) → value w vars (minus_one w f) ≡ value w vars (Unary 7 a f)
  unfolding value unary binary
  minus_value a f = minus_one_lem (2 ^ w) (value w vars f) (value_lt w vars f)

  same_root : (k a : ℕ) (t f : Tree) → value w vars f ≡ value w vars t
      → value w vars (Unary k a f) ≡ value w vars (Unary k a t)
  unfolding value
  same_root k a t f e = ap (unary w k a) e

  not_value : (k a : ℕ) (t f : Tree) → value w vars f ≡ value w vars t
      → value w vars (not_rule w k a t f) ≡ value w vars (Unary k a t)
  not_value k a t f e =
      not_cases (λ (x : Tree). value w vars x ≡ value w vars (Unary k a t)) w k a t f
      (λ h.
      let seven = (is_not_lem k t h).0 in
      minus_value a f ∙ ap (λ (j : ℕ). value w vars (Unary j a f)) (sym seven) ∙ same_root k a t f e)
      (λ h. same_root k a t f e)

  pub nots_value : (t : Tree) → value w vars (rewrite_nots w t) ≡ value w vars t
  unfolding rewrite_nots value
  nots_value (Constant v) = refl
  nots_value (Variable i) = refl
  nots_value (Unary k a t) = not_value k a t (rewrite_nots w t) (nots_value t)
  nots_value (Binary k l r) = ap₂ (binary w k) (nots_value l) (nots_value r)

module _ (w : ℕ) where
  not_variable : (k a : ℕ) (t f : Tree) → has_var_dep f ≡ has_var_dep t
      → has_var_dep (not_rule w k a t f) ≡ has_var_dep (Unary k a t)
  unfolding has_kind
  not_variable k a t f e =
      not_cases (λ (x : Tree). has_var_dep x ≡ has_var_dep (Unary k a t)) w k a t f
      (λ h. let seven = (is_not_lem k t h).0 in or-false (has_var_dep f) ∙ e ∙ rw seven refl)
      (λ h. ap (λ (x : Bool). eqb k 1 || x) e)

  pub nots_variable : (t : Tree) → has_var_dep (rewrite_nots w t) ≡ has_var_dep t
  unfolding rewrite_nots has_kind
  nots_variable (Constant v) = refl
  nots_variable (Variable i) = refl
  nots_variable (Unary k a t) = not_variable k a t (rewrite_nots w t) (nots_variable t)
  nots_variable (Binary k l r) =
      ap₂ (λ (x y : Bool). eqb k 1 || (x || y)) (nots_variable l) (nots_variable r)

  not_arith : (k a : ℕ) (t f : Tree) → has_arith f ≡ has_arith t
      → has_arith (not_rule w k a t f) ≡ has_arith (Unary k a t)
  unfolding has_arith is_arith
  not_arith k a t f e =
      not_cases (λ (x : Tree). has_arith x ≡ has_arith (Unary k a t)) w k a t f
      (λ h. let p = is_not_lem k t h in sym (rw p.0 p.1))
      (λ h. ap (λ (x : Bool). is_arith k || x) e)

  pub nots_arith : (t : Tree) → has_arith (rewrite_nots w t) ≡ has_arith t
  unfolding rewrite_nots has_arith
  nots_arith (Constant v) = refl
  nots_arith (Variable i) = refl
  nots_arith (Unary k a t) = not_arith k a t (rewrite_nots w t) (nots_arith t)
  nots_arith (Binary k l r) = ap₂ (λ (x y : Bool). is_arith k || (x || y)) (nots_arith l) (nots_arith r)

  -- without an Add, Mul or Neg nothing changes
  pub nots_same : (t : Tree) → has_arith t ≡ false → rewrite_nots w t ≡ t
  unfolding rewrite_nots not_rule has_arith
  nots_same (Constant v) h = refl
  nots_same (Variable i) h = refl
  nots_same (Unary k a t) h =
      let p = bools.or_false (is_arith k) (has_arith t) h in
      go (eqb k 7) (has_arith t) p.1 ∙ ap (Unary k a) (nots_same t p.1)
    where
      go : (b d : Bool) → d ≡ false
          → when (b && d) (λ _. minus_one w (rewrite_nots w t)) (λ _. Unary k a (rewrite_nots w t))
          ≡ Unary k a (rewrite_nots w t)
      go true true e = bools.false_true (sym e)
      go true false e = refl
      go false d e = refl
  nots_same (Binary k l r) h =
      let p = bools.or_false (is_arith k) (has_arith l || has_arith r) h in
      let q = bools.or_false (has_arith l) (has_arith r) p.1 in
      ap₂ (Binary k) (nots_same l q.0) (nots_same r q.1)

  module _ (hw : w ≤ 64) where
    ones_lt : 2 ^ w - 1 < 2 ^ 64
    ones_lt = let h : 2 ^ w ≤ 2 ^ 64 = pow_mono hw in let p = pow_pos w in omega (arith, h, p)

    minus_expr : (f : Tree) → is_expr f ≡ true → is_expr (minus_one w f) ≡ true
    minus_expr f e =
        expr_of_binary 2 _ _
        (record {
          low = omega arith;
          high = omega arith;
          child_l =
              expr_of_unary 8 0 f
              (record { low = omega arith; high = omega arith; plain = λ _. refl; shr = λ _. omega arith; child = e });
          child_r = expr_of_constant (2 ^ w - 1) ones_lt;
        })

    pub nots_expr : (t : Tree) → is_expr t ≡ true → is_expr (rewrite_nots w t) ≡ true
    unfolding rewrite_nots
    nots_expr (Constant v) e = e
    nots_expr (Variable i) e = e
    nots_expr (Unary k a t) e =
        let u = unary_of_expr k a t e in
        let f = nots_expr t u.child in
        not_cases (λ (x : Tree). is_expr x ≡ true) w k a t (rewrite_nots w t)
        (λ h. minus_expr (rewrite_nots w t) f)
        (λ h.
        expr_of_unary k a _
        (record { low = u.low; high = u.high; plain = u.plain; shr = u.shr; child = f }))
    nots_expr (Binary k l r) e =
        let c = binary_of_expr k l r e in
        expr_of_binary k _ _
        (record {
          low = c.low;
          high = c.high;
          child_l = nots_expr l c.child_l;
          child_r = nots_expr r c.child_r;
        })
