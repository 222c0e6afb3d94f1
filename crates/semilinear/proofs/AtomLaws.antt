-- The trees that an atom may have, by their parts: an expression with a variable and without Add, Mul and Neg. What is
-- made of atoms and literals by And, Or, Xor, Not and Shr is one.
use mathlib.Core.Path.{◌≡◌, refl}
use Prim.Native.Nat.{ℕ, ◌^◌, ◌≤◌, ◌<◌}
use native.Mathlib.Omega.{arith}
use mathlib.Core.Bool.{true, false, not, ◌&&◌, ◌||◌}
use borrow.Author.Tests.{ne_eqb, not-true}
use Rattle.record.specs.Tree.{Tree, encode}
use Rattle.record.specs.Tree.Tree.{Constant, Unary, Binary}
use Rattle.base.proofs.BoolLaws.{and_true, or_false}
use Rattle.base.proofs.ListsLaws.{eq_of_eq_list}
use Rattle.record.proofs.EncodeLaws.{encode_injective}
use Rattle.expr_refusal.specs.Refusal.{is_expr}
use Rattle.expr_utils.specs.Utils.{has_kind, has_var_dep, is_arith, has_arith}
use Rattle.expr.proofs.IsExprLaws.{unary_of_expr, binary_of_expr, expr_of_binary, expr_of_constant, expr_encodable}
use Rattle.semilinear.specs.Form.{is_atom_tree, eq_tree}

-- an atom by its parts
pub record Atom (t : Tree) : Type 0 where
  pub expr : is_expr t ≡ true
  pub variable : has_var_dep t ≡ true
  pub plain : has_arith t ≡ false

pub atom_tree_lem : (t : Tree) → Atom t → is_atom_tree t ≡ true
unfolding is_atom_tree
atom_tree_lem t h = simp (h.expr, h.variable, h.plain)

pub tree_atom : (t : Tree) → is_atom_tree t ≡ true → Atom t
unfolding is_atom_tree
tree_atom t e =
    let p = and_true (is_expr t) (has_var_dep t && not (has_arith t)) e in
    let q = and_true (has_var_dep t) (not (has_arith t)) p.1 in
    record { expr = p.0; variable = q.0; plain = not-true _ q.1 }

-- trees of expressions with the same bytes are the same
pub eq_of_eq_tree : (w : ℕ) (t u : Tree) → is_expr t ≡ true → is_expr u ≡ true → eq_tree w t u ≡ true → t ≡ u
unfolding eq_tree
eq_of_eq_tree w t u et eu e =
    encode_injective w t u (expr_encodable t et) (expr_encodable u eu) (eq_of_eq_list (encode w t) (encode w u) e)

-- an operator on atoms: And, Or, Xor, Not and Shr
pub bitwise_one : (k a : ℕ) (t : Tree) → is_expr (Unary k a t) ≡ true → (k ≡ 8 → ⊥) → has_var_dep t ≡ true
    → has_arith t ≡ false → Atom (Unary k a t)
unfolding has_kind has_arith is_arith
bitwise_one k a t e n h p =
    let u = unary_of_expr k a t e in
    record {
      expr = e;
      variable = simp (ne_eqb k 1 (omega (arith, u.low)), h);
      plain = simp (ne_eqb k 2 (omega (arith, u.low)), ne_eqb k 3 (omega (arith, u.low)), ne_eqb k 8 n, p);
    }

bitwise_two : (k : ℕ) (l r : Tree) → is_expr (Binary k l r) ≡ true → 4 ≤ k → has_var_dep l || has_var_dep r ≡ true
    → has_arith l || has_arith r ≡ false → Atom (Binary k l r)
unfolding has_kind has_arith is_arith
bitwise_two k l r e low h p =
    let b = binary_of_expr k l r e in
    record {
      expr = e;
      variable = simp (ne_eqb k 1 (omega arith), h);
      plain = simp (ne_eqb k 2 (omega arith), ne_eqb k 3 (omega arith), ne_eqb k 8 (omega (arith, b.high)), p);
    }

-- ---- the two sides of an And, Or or Xor

-- one of them has a variable, neither has an Add, Mul or Neg
pub record Sides (l r : Tree) : Type 0 where
  pub expr_l : is_expr l ≡ true
  pub expr_r : is_expr r ≡ true
  pub variable : has_var_dep l || has_var_dep r ≡ true
  pub plain_l : has_arith l ≡ false
  pub plain_r : has_arith r ≡ false

pub sides : (l r : Tree) → is_expr l ≡ true → is_expr r ≡ true → has_var_dep l || has_var_dep r ≡ true
    → has_arith l || has_arith r ≡ false → Sides l r
sides l r el er h p =
    let q = or_false (has_arith l) (has_arith r) p in
    record { expr_l = el; expr_r = er; variable = h; plain_l = q.0; plain_r = q.1 }

pub sides_atom : (k : ℕ) (l r : Tree) → 4 ≤ k → k < 7 → Sides l r → Atom (Binary k l r)
sides_atom k l r low high s =
    let two : 2 ≤ k = omega arith in
    let e : is_expr (Binary k l r) ≡ true =
    expr_of_binary k l r (record { low = two; high = high; child_l = s.expr_l; child_r = s.expr_r }) in
    bitwise_two k l r e low s.variable (simp (s.plain_l, s.plain_r))

-- the side with a variable, where the other has none
pub left_atom : (l r : Tree) → Sides l r → has_var_dep l ≡ true → Atom l
left_atom l r s h = record { expr = s.expr_l; variable = h; plain = s.plain_l }

pub right_atom : (l r : Tree) → Sides l r → has_var_dep l ≡ false → Atom r
right_atom l r s h = record { expr = s.expr_r; variable = simp h at s.variable; plain = s.plain_r }

-- an atom beside a literal
pub literal_sides : (t : Tree) (m : ℕ) → m < 2 ^ 64 → Atom t → Sides t (Constant m)
unfolding has_kind has_arith
literal_sides t m hm h =
    record {
      expr_l = h.expr;
      expr_r = expr_of_constant m hm;
      variable = simp h.variable;
      plain_l = h.plain;
      plain_r = refl;
    }

pub masked_atom : (t : Tree) (m : ℕ) → m < 2 ^ 64 → Atom t → Atom (Binary 4 t (Constant m))
masked_atom t m hm h = sides_atom 4 t (Constant m) (omega arith) (omega arith) (literal_sides t m hm h)
