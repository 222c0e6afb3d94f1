-- Bitwise trees, whose bits `bit_of` (specs/Truth.antt) gives: what their roots and their children are.
use mathlib.Core.Path.{◌≡◌, refl, sym}
use Prim.Native.Nat.{ℕ, ◌≤◌, ◌<◌}
use native.Mathlib.Omega.{arith}
use native.Mathlib.Decide.{ℕ_discrete}
use mathlib.Core.Logic.{◌⊎◌, inl, inr}
use mathlib.Core.Bool.{Bool, true, false, not, ◌&&◌, ◌||◌}
use lib.Dec.{eqb}
use borrow.Author.Tests.{eqb-true, eqb-false, eq-eqb}
use Rattle.record.specs.Tree.{Tree}
use Rattle.record.specs.Tree.Tree.{Constant, Variable, Unary, Binary}
use Rattle.base.proofs.BoolLaws.{false_true, or_false}
use Rattle.expr_refusal.specs.Refusal.{is_expr}
use Rattle.expr_utils.specs.Utils.{has_var_dep, is_arith, has_arith}
use Rattle.expr.proofs.IsExprLaws.{unary_of_expr, binary_of_expr}
use Rattle.truth.specs.Truth.{has_shift, shifts_var}

-- an expression without Add, Mul and Neg, and without a non-zero shift over a variable
pub record Bitwise (t : Tree) : Type 0 where
  pub expr : is_expr t ≡ true
  pub no_arith : has_arith t ≡ false
  pub no_shift : shifts_var t ≡ false

-- without a non-zero shift there is none over a variable
shifts_none : (t : Tree) → has_shift t ≡ false → shifts_var t ≡ false
unfolding has_shift shifts_var
shifts_none (Constant v) e = refl
shifts_none (Variable i) e = refl
shifts_none (Unary k a t) e =
    let p = or_false (eqb k 9 && not (eqb a 0)) (has_shift t) e in
    go (eqb k 9) (not (eqb a 0)) p.0 (shifts_none t p.1)
  where
    go : (x y : Bool) → x && y ≡ false → shifts_var t ≡ false → (x && (y && has_var_dep t)) || shifts_var t ≡ false
    go true true n f = false_true (sym n)
    go true false n f = f
    go false y n f = f
shifts_none (Binary k l r) e =
    let p = or_false (has_shift l) (has_shift r) e in
    simp (shifts_none l p.0, shifts_none r p.1)

pub bitwise_of_no_shift : (t : Tree) → is_expr t ≡ true → has_arith t ≡ false → has_shift t ≡ false → Bitwise t
bitwise_of_no_shift t e n s = record { expr = e; no_arith = n; no_shift = shifts_none t s }

-- a root with one child is a Not, or a shift by 0 or of a tree without variables
pub record UnaryBits (k a : ℕ) (t : Tree) : Type 0 where
  pub kinds : (k ≡ 7) ⊎ ((k ≡ 9) × ((a ≡ 0) ⊎ (has_var_dep t ≡ false)))
  pub child : Bitwise t

pub unary_bits : (k a : ℕ) (t : Tree) → Bitwise (Unary k a t) → UnaryBits k a t
unfolding has_arith is_arith shifts_var
unary_bits k a t b =
    let u = unary_of_expr k a t b.expr in
    let n = or_false (is_arith k) (has_arith t) b.no_arith in
    let s = or_false (eqb k 9 && (not (eqb a 0) && has_var_dep t)) (shifts_var t) b.no_shift in
    record {
      kinds = go u.low u.high (eight n.0) s.0 (ℕ_discrete k 7);
      child = record { expr = u.child; no_arith = n.1; no_shift = s.1 };
    }
  where
    eight : is_arith k ≡ false → k ≡ 8 → ⊥
    eight e = eqb-false k 8 (or_false (eqb k 3) (eqb k 8) (or_false (eqb k 2) (eqb k 3 || eqb k 8) e).1).1

    over : (b : Bool) → eqb a 0 ≡ b → not b && has_var_dep t ≡ false → (a ≡ 0) ⊎ (has_var_dep t ≡ false)
    over true e s = inl (eqb-true a 0 e)
    over false e s = inr s

    go : 7 ≤ k → k ≤ 9 → (k ≡ 8 → ⊥) → eqb k 9 && (not (eqb a 0) && has_var_dep t) ≡ false → Dec (k ≡ 7)
        → (k ≡ 7) ⊎ ((k ≡ 9) × ((a ≡ 0) ⊎ (has_var_dep t ≡ false)))
    go low high n s (yes e) = inl e
    go low high n s (no e) =
        let k9 : k ≡ 9 = omega arith in
        inr (k9, over (eqb a 0) refl (simp (eq-eqb k 9 k9) at s))

-- a root with two children is And, Or or Xor
pub record BinaryBits (k : ℕ) (l r : Tree) : Type 0 where
  pub low : 4 ≤ k
  pub high : k < 7
  pub child_l : Bitwise l
  pub child_r : Bitwise r

pub binary_bits : (k : ℕ) (l r : Tree) → Bitwise (Binary k l r) → BinaryBits k l r
unfolding has_arith is_arith shifts_var
binary_bits k l r b =
    let e = binary_of_expr k l r b.expr in
    let n = or_false (is_arith k) (has_arith l || has_arith r) b.no_arith in
    let a = or_false (has_arith l) (has_arith r) n.1 in
    let s = or_false (shifts_var l) (shifts_var r) b.no_shift in
    record {
      low = four e.low n.0;
      high = e.high;
      child_l = record { expr = e.child_l; no_arith = a.0; no_shift = s.0 };
      child_r = record { expr = e.child_r; no_arith = a.1; no_shift = s.1 };
    }
  where
    four : 2 ≤ k → is_arith k ≡ false → 4 ≤ k
    four low e =
        let p = or_false (eqb k 2) (eqb k 3 || eqb k 8) e in
        let q = or_false (eqb k 3) (eqb k 8) p.1 in
        let n2 : k ≡ 2 → ⊥ = eqb-false k 2 p.0 in
        let n3 : k ≡ 3 → ⊥ = eqb-false k 3 q.0 in
        omega arith
