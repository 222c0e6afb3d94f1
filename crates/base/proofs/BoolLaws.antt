-- Bool: what a test that is true or false says of its parts.
use mathlib.Core.Path.{◌≡◌, refl, sym}
use Prim.Native.Nat.{ℕ}
use native.Mathlib.Omega.{arith}
use mathlib.Core.Bool.{Bool, true, false, ◌&&◌, ◌||◌, or-true}

pub false_true : {A : Type 0} → false ≡ true → A
false_true e = let z : ◌≡◌ {A = ℕ} 0 1 = cc in absurd (omega arith)

-- both parts of a conjunction of tests
pub and_true : (a b : Bool) → a && b ≡ true → (a ≡ true) × (b ≡ true)
and_true true b e = (refl, e)
and_true false b e = false_true e

-- both parts of a disjunction of tests that fails
pub or_false : (a b : Bool) → a || b ≡ false → (a ≡ false) × (b ≡ false)
or_false true b e = false_true (sym e)
or_false false b e = (refl, e)

-- a disjunction of tests from one part, and one of its parts
pub or_of_l : (a b : Bool) → a ≡ true → a || b ≡ true
or_of_l a b e = simp e

pub or_of_r : (a b : Bool) → b ≡ true → a || b ≡ true
or_of_r a b e = simp e (or-true a)

pub or_cases : {A : Type 0} (a b : Bool) → a || b ≡ true → (a ≡ true → A) → (b ≡ true → A) → A
or_cases true b e p q = p refl
or_cases false b e p q = q e
