-- Laws of `is_expr` (expr_refusal/specs/Refusal.antt): what it says of a root, both ways; such trees have bytes that
-- decode to them.
use Rattle.std.proofs.Common.{◌≡◌, ℕ, ◌+◌, ◌^◌, ◌<◌, ◌≤◌, Bool, true, ◌&&◌, ◌||◌, eqb, ltb, ◌++◌, arith, lit<, ltb-true, lt-ltb, ne_eqb, eqb-true}
use native.Mathlib.Decide.{ℕ_discrete}
use mathlib.Core.Bool.{and-false, or-false}
use Rattle.base.specs.Limits.{var_limit}
use Rattle.record.specs.Fields.{arity}
use Rattle.record.specs.Tree.{Tree, size_of, encode, IsBytes, Encodable}
use Rattle.record.specs.Tree.Tree.{Constant, Variable, Unary, Binary}
use Rattle.record.specs.Decode.{decode}
use Rattle.record.proofs.FieldsLaws.{arity_one_of_le, arity_two_of_le}
use Rattle.base.proofs.BoolLaws.{false_true, and_true, or_cases}
use Rattle.record.proofs.BytesLaws.{bytes_append, bytes_record}
use Rattle.record.proofs.VariableLaws.{bytes_variable}
use Rattle.record.proofs.EncodeLaws.{encoded}
use Rattle.expr_refusal.specs.Refusal.{is_expr}
use Rattle.expr.specs.Vars.{occurs}

pub constant_of_expr : (v : ℕ) → is_expr (Constant v) ≡ true → v < 2 ^ 64
unfolding is_expr
constant_of_expr v e = ltb-true v (2 ^ 64) e

pub expr_of_constant : (v : ℕ) → v < 2 ^ 64 → is_expr (Constant v) ≡ true
unfolding is_expr
expr_of_constant v h = lt-ltb v (2 ^ 64) h

pub variable_of_expr : (i : ℕ) → is_expr (Variable i) ≡ true → i < var_limit
unfolding is_expr
variable_of_expr i e = ltb-true i var_limit e

pub expr_of_variable : (i : ℕ) → i < var_limit → is_expr (Variable i) ≡ true
unfolding is_expr
expr_of_variable i h = lt-ltb i var_limit h

-- a root with one child: Not and Neg, which have no amount, and Shr
pub record UnaryExpr (k a : ℕ) (t : Tree) : Type 0 where
  pub low : 7 ≤ k
  pub high : k ≤ 9
  pub plain : k < 9 → a ≡ 0
  pub shr : k ≡ 9 → a < 64
  pub child : is_expr t ≡ true

abbrev kind_test : ℕ → ℕ → Bool
kind_test k a = (eqb a 0 && (eqb k 7 || eqb k 8)) || (eqb k 9 && ltb a 64)

pub unary_of_expr : (k a : ℕ) (t : Tree) → is_expr (Unary k a t) ≡ true → UnaryExpr k a t
unfolding is_expr
unary_of_expr k a t e = go (ℕ_discrete k 9) (ℕ_discrete k 7)
  where
    both : (kind_test k a ≡ true) × (is_expr t ≡ true)
    both = and_true (kind_test k a) (is_expr t) e

    parts : (k ≡ 9 → ⊥) → (eqb a 0 ≡ true) × (eqb k 7 || eqb k 8 ≡ true)
    parts p = and_true (eqb a 0) (eqb k 7 || eqb k 8) (simp (ne_eqb k 9 p, or-false) at both.0)

    no_amount : 7 ≤ k → k < 9 → a ≡ 0 → UnaryExpr k a t
    no_amount l h z =
        record { low = l; high = omega arith; plain = λ _. z; shr = λ _. omega arith; child = both.1 }

    go : Dec (k ≡ 9) → Dec (k ≡ 7) → UnaryExpr k a t
    go (yes p) d =
        let h : a < 64 = ltb-true a 64 (simp (p, and-false) at both.0) in
        record {
          low = omega arith;
          high = omega arith;
          plain = λ l. absurd (omega arith);
          shr = λ _. h;
          child = both.1;
        }
    go (no p) (yes q) = no_amount (omega arith) (omega arith) (eqb-true a 0 (parts p).0)
    go (no p) (no q) =
        let k8 : k ≡ 8 = eqb-true k 8 (simp (ne_eqb k 7 q) at (parts p).1) in
        no_amount (omega arith) (omega arith) (eqb-true a 0 (parts p).0)

pub expr_of_unary : (k a : ℕ) (t : Tree) → UnaryExpr k a t → is_expr (Unary k a t) ≡ true
unfolding is_expr
expr_of_unary k a t u = simp (go (ℕ_discrete k 9) (ℕ_discrete k 7), u.child)
  where
    go : Dec (k ≡ 9) → Dec (k ≡ 7) → kind_test k a ≡ true
    go (yes p) d = simp (p, and-false, lt-ltb a 64 (u.shr p))
    go (no p) (yes q) = simp (q, u.plain (omega (arith, q)))
    go (no p) (no q) = let k8 : k ≡ 8 = omega (arith, u.low, u.high) in simp (k8, u.plain (omega (arith, k8)))

amount_lt : (k a : ℕ) (t : Tree) → UnaryExpr k a t → a < 256
amount_lt k a t u = go (ℕ_discrete k 9)
  where
    go : Dec (k ≡ 9) → a < 256
    go (yes p) = omega (arith, u.shr p)
    go (no p) = omega (arith, u.plain (omega (arith, u.high)))

pub unary_arity : (k a : ℕ) (t : Tree) → UnaryExpr k a t → arity k ≡ 1
unary_arity k a t u = arity_one_of_le k u.low (omega (arith, u.high))

-- a root with two children: Add, Mul, And, Or and Xor
pub record BinaryExpr (k : ℕ) (l r : Tree) : Type 0 where
  pub low : 2 ≤ k
  pub high : k < 7
  pub child_l : is_expr l ≡ true
  pub child_r : is_expr r ≡ true

pub binary_of_expr : (k : ℕ) (l r : Tree) → is_expr (Binary k l r) ≡ true → BinaryExpr k l r
unfolding is_expr
binary_of_expr k l r e =
    let p = and_true (ltb 1 k && ltb k 7) (is_expr l && is_expr r) e in
    let q = and_true (ltb 1 k) (ltb k 7) p.0 in
    let b = and_true (is_expr l) (is_expr r) p.1 in
    record { low = ltb-true 1 k q.0; high = ltb-true k 7 q.1; child_l = b.0; child_r = b.1 }

pub expr_of_binary : (k : ℕ) (l r : Tree) → BinaryExpr k l r → is_expr (Binary k l r) ≡ true
unfolding is_expr
expr_of_binary k l r b = simp (lt-ltb 1 k b.low, lt-ltb k 7 b.high, b.child_l, b.child_r)

pub binary_arity : (k : ℕ) (l r : Tree) → BinaryExpr k l r → arity k ≡ 2
binary_arity k l r b = arity_two_of_le k b.low b.high

pub expr_encodable : (t : Tree) → is_expr t ≡ true → Encodable t
unfolding Encodable
expr_encodable (Constant v) e = constant_of_expr v e
expr_encodable (Variable i) e = variable_of_expr i e
expr_encodable (Unary k a t) e =
    let u = unary_of_expr k a t e in
    (unary_arity k a t u, expr_encodable t u.child)
expr_encodable (Binary k l r) e =
    let b = binary_of_expr k l r e in
    (binary_arity k l r b, expr_encodable l b.child_l, expr_encodable r b.child_r)

pub decode_encode : (w : ℕ) (t : Tree) → is_expr t ≡ true → decode (encode w t) ≡ t
decode_encode w t e = (encoded w t (expr_encodable t e)).back

-- the encoding is bytes, where the size fits its two bytes
pub bytes_encode : (w : ℕ) (t : Tree) → is_expr t ≡ true → w < 256 → size_of t < 2 ^ 16 → IsBytes (encode w t)
unfolding encode size_of
bytes_encode w (Constant v) e hw hn = bytes_record 0 0 1 w v (lit< tt) (lit< tt) hn hw
bytes_encode w (Variable i) e hw hn = bytes_variable w i (variable_of_expr i e) hw
bytes_encode w (Unary k a t) e hw hn =
    let u = unary_of_expr k a t e in
    bytes_append (encode w t) _ (bytes_encode w t u.child hw (omega arith))
    (bytes_record k a (size_of t + 1) w 0 (omega (arith, u.high)) (amount_lt k a t u) hn hw)
bytes_encode w (Binary k l r) e hw hn =
    let b = binary_of_expr k l r e in
    let el = bytes_encode w l b.child_l hw (omega arith) in
    let er = bytes_encode w r b.child_r hw (omega arith) in
    bytes_append (encode w l ++ encode w r) _ (bytes_append (encode w l) (encode w r) el er)
    (bytes_record k 0 (size_of l + size_of r + 1) w 0 (omega (arith, b.high)) (lit< tt) hn hw)

-- the variables of an expression have two bytes
pub occurs_lt : (i : ℕ) (t : Tree) → is_expr t ≡ true → occurs i t ≡ true → i < var_limit
unfolding occurs
occurs_lt i (Constant v) e o = false_true o
occurs_lt i (Variable j) e o = let f : j ≡ i = eqb-true j i o in omega (arith, variable_of_expr j e)
occurs_lt i (Unary k a t) e o = occurs_lt i t (unary_of_expr k a t e).child o
occurs_lt i (Binary k l r) e o =
    let b = binary_of_expr k l r e in
    or_cases (occurs i l) (occurs i r) o (occurs_lt i l b.child_l) (occurs_lt i r b.child_r)
