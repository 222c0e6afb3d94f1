-- Laws of specs/ExprValue.antt and `expr_refusal`: an accepted file is an accepted span, and the answer in either case.
use Rattle.std.proofs.Common.{◌≡◌, ℕ, ◌%◌, ◌^◌, ◌<◌, ◌≤◌, Bool, true, false, not, eqb, ltb, List, length, arith, le-ltb, lt-ltb, eq-eqb, ne_eqb}
use native.Mathlib.Decide.{dec_lt}
use Rattle.base.specs.Choice.{when}
use Rattle.record.specs.Fields.{width}
use Rattle.record.specs.Decode.{decode}
use Rattle.expr_refusal.specs.Refusal.{tree_refusal, expr_refusal}
use Rattle.expr.specs.Value.{value}
use Rattle.expr.specs.ExprValue.{expr_value}

pub accepted_tree : (s : List ℕ) → expr_refusal s ≡ 0 → tree_refusal (width s) s ≡ 0
unfolding expr_refusal
accepted_tree s e = go (eqb (length s) 0) (ltb (2 ^ 14) (length s)) (eqb (length s % 16) 0) e
  where
    go : (a b c : Bool)
        → ◌≡◌ {A = ℕ}
        (when a (λ _. 1) (λ _. when b (λ _. 1) (λ _. when (not c) (λ _. 1) (λ _. tree_refusal (width s) s)))) 0
        → tree_refusal (width s) s ≡ 0
    go true b c z = absurd (omega arith)
    go false true c z = absurd (omega arith)
    go false false true z = z
    go false false false z = absurd (omega arith)

pub accepted_length : (s : List ℕ) → expr_refusal s ≡ 0 → length s ≤ 2 ^ 14
unfolding expr_refusal
accepted_length s e = go (dec_lt (2 ^ 14) (length s))
  where
    go : Dec (2 ^ 14 < length s) → length s ≤ 2 ^ 14
    go (yes h) =
        let z : ◌≡◌ {A = ℕ} 1 0 = simp (ne_eqb (length s) 0 (omega arith), lt-ltb (2 ^ 14) (length s) h) at e in
        absurd (omega arith)
    go (no h) = omega arith

-- a file of an allowed length has the refusal of its span
pub refusal_tree : (s : List ℕ) → 1 ≤ length s → length s ≤ 2 ^ 14 → length s % 16 ≡ 0
    → expr_refusal s ≡ tree_refusal (width s) s
unfolding expr_refusal
refusal_tree s pos le h =
    simp (
      ne_eqb (length s) 0 (omega arith),
      le-ltb (2 ^ 14) (length s) le,
      eq-eqb (length s % 16) 0 h,
    )

pub expr_value_refused : (s vars : List ℕ) → (expr_refusal s ≡ 0 → ⊥) → expr_value s vars ≡ 0
unfolding expr_value
expr_value_refused s vars h = simp (ne_eqb (expr_refusal s) 0 h)

pub expr_value_accepted : (s vars : List ℕ) → expr_refusal s ≡ 0 → {w : ℕ} → w ≡ width s
    → expr_value s vars ≡ value w vars (decode s)
unfolding expr_value
expr_value_accepted s vars h e = rw e (simp (eq-eqb (expr_refusal s) 0 h))
