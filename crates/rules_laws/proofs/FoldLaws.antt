-- Laws of `fold_literals` (specs/Rules.antt): literals keep the value, the variables and that the tree is an expression.
use mathlib.Core.Path.{◌≡◌, refl, ap, ap₂, sym, ◌∙◌}
use Prim.Native.Nat.{ℕ, ◌≤◌}
use mathlib.Core.List.{List, []}
use mathlib.Core.Bool.{Bool, true, false, not, ◌&&◌, ◌||◌}
use lib.Dec.{eqb}
use Rattle.base.specs.Choice.{when}
use Rattle.record.specs.Tree.{Tree}
use Rattle.record.specs.Tree.Tree.{Constant, Variable, Unary, Binary}
use Rattle.expr_refusal.specs.Refusal.{is_expr}
use Rattle.expr_utils.specs.Utils.{has_kind, has_var_dep}
use Rattle.expr.specs.Value.{unary, binary, value}
use Rattle.expr.proofs.IsExprLaws.{expr_of_constant, unary_of_expr, expr_of_unary, binary_of_expr, expr_of_binary}
use Rattle.expr.proofs.ValueLaws.{value_lt}
use Rattle.semilinear.proofs.RowsLaws.{word_lt}
use Rattle.normalizer_laws.proofs.RootLaws.{literal_value}
use Rattle.rules_laws.specs.Rules.{is_bitwise, literal_or, fold_literals}

-- ---- a literal in place of a tree without a variable

literal_or_value : (w : ℕ) (vars : List ℕ) (b : Bool) (t u : Tree) → value w vars u ≡ value w vars t
    → value w vars (literal_or w b t u) ≡ value w vars t
unfolding literal_or
literal_or_value w vars b t u e = go b (has_var_dep t) refl
  where
    go : (b d : Bool) → has_var_dep t ≡ d
        → value w vars (when (b && not d) (λ _. Constant (value w [] t)) (λ _. u)) ≡ value w vars t
    go true false h = literal_value w vars t h
    go true true h = e
    go false d h = e

literal_none : (v : ℕ) → has_var_dep (Constant v) ≡ false
unfolding has_kind
literal_none v = refl

literal_or_variable : (w : ℕ) (b : Bool) (t u : Tree) → has_var_dep u ≡ has_var_dep t
    → has_var_dep (literal_or w b t u) ≡ has_var_dep t
unfolding literal_or
literal_or_variable w b t u e = go b (has_var_dep t) refl
  where
    go : (b d : Bool) → has_var_dep t ≡ d
        → has_var_dep (when (b && not d) (λ _. Constant (value w [] t)) (λ _. u)) ≡ has_var_dep t
    go true false h = literal_none (value w [] t) ∙ sym h
    go true true h = e
    go false d h = e

literal_or_expr : (w : ℕ) (hw : w ≤ 64) (b : Bool) (t u : Tree) → is_expr u ≡ true
    → is_expr (literal_or w b t u) ≡ true
unfolding literal_or
literal_or_expr w hw b t u e = go (b && not (has_var_dep t))
  where
    go : (d : Bool) → is_expr (when d (λ _. Constant (value w [] t)) (λ _. u)) ≡ true
    go true = expr_of_constant (value w [] t) (word_lt w _ hw (value_lt w [] t))
    go false = e

-- ---- all of a tree

pub fold_value : (w : ℕ) (vars : List ℕ) (b : Bool) (t : Tree) → value w vars (fold_literals w b t) ≡ value w vars t
unfolding fold_literals value
fold_value w vars b (Constant v) = literal_or_value w vars b (Constant v) (Constant v) refl
fold_value w vars b (Variable i) = refl
fold_value w vars b (Unary k a t) =
    literal_or_value w vars b (Unary k a t) _ (ap (unary w k a) (fold_value w vars (b || is_bitwise k) t))
fold_value w vars b (Binary k l r) =
    literal_or_value w vars b (Binary k l r) _
    (ap₂ (binary w k) (fold_value w vars (b || is_bitwise k) l) (fold_value w vars (b || is_bitwise k) r))

pub fold_variable : (w : ℕ) (b : Bool) (t : Tree) → has_var_dep (fold_literals w b t) ≡ has_var_dep t
unfolding fold_literals has_kind
fold_variable w b (Constant v) = literal_or_variable w b (Constant v) (Constant v) refl
fold_variable w b (Variable i) = refl
fold_variable w b (Unary k a t) =
    literal_or_variable w b (Unary k a t) _
    (ap (λ (x : Bool). eqb k 1 || x) (fold_variable w (b || is_bitwise k) t))
fold_variable w b (Binary k l r) =
    literal_or_variable w b (Binary k l r) _
    (ap₂ (λ (x y : Bool). eqb k 1 || (x || y)) (fold_variable w (b || is_bitwise k) l)
    (fold_variable w (b || is_bitwise k) r))

pub fold_expr : (w : ℕ) → w ≤ 64 → (b : Bool) (t : Tree) → is_expr t ≡ true → is_expr (fold_literals w b t) ≡ true
unfolding fold_literals
fold_expr w hw b (Constant v) e = literal_or_expr w hw b (Constant v) (Constant v) e
fold_expr w hw b (Variable i) e = e
fold_expr w hw b (Unary k a t) e =
    let u = unary_of_expr k a t e in
    literal_or_expr w hw b (Unary k a t) _
    (expr_of_unary k a _
    (record {
      low = u.low;
      high = u.high;
      plain = u.plain;
      shr = u.shr;
      child = fold_expr w hw (b || is_bitwise k) t u.child;
    }))
fold_expr w hw b (Binary k l r) e =
    let c = binary_of_expr k l r e in
    literal_or_expr w hw b (Binary k l r) _
    (expr_of_binary k _ _
    (record {
      low = c.low;
      high = c.high;
      child_l = fold_expr w hw (b || is_bitwise k) l c.child_l;
      child_r = fold_expr w hw (b || is_bitwise k) r c.child_r;
    }))
