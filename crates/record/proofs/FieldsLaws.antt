-- Laws of specs/Fields.antt: kinds by the number of their children.
use mathlib.Core.Path.{◌≡◌, refl}
use Prim.Native.Nat.{ℕ, ◌≤◌, ◌<◌}
use native.Mathlib.Omega.{arith}
use mathlib.Core.Bool.{Bool, true, false}
use lib.Dec.{ltb}
use borrow.Author.Tests.{ltb-true, ltb-false}
use Rattle.record.specs.Fields.{arity}

-- the kinds by the number of their children
pub data Arity (k : ℕ) : Type 0 where
  none : k < 2 → arity k ≡ 0 → Arity k
  low_two : 2 ≤ k → k < 7 → arity k ≡ 2 → Arity k
  one : 7 ≤ k → k < 13 → arity k ≡ 1 → Arity k
  high_two : 13 ≤ k → arity k ≡ 2 → Arity k

pub arity_view : (k : ℕ) → Arity k
unfolding arity
arity_view k = go (ltb k 2) refl (ltb k 7) refl (ltb k 13) refl
  where
    go : (a : Bool) → ltb k 2 ≡ a → (b : Bool) → ltb k 7 ≡ b → (c : Bool) → ltb k 13 ≡ c → Arity k
    go true e b f c g = Arity.none (ltb-true k 2 e) (simp e)
    go false e true f c g = Arity.low_two (ltb-false k 2 e) (ltb-true k 7 f) (simp (e, f))
    go false e false f true g = Arity.one (ltb-false k 7 f) (ltb-true k 13 g) (simp (e, f, g))
    go false e false f false g = Arity.high_two (ltb-false k 13 g) (simp (e, f, g))

pub kind_of_arity_zero : (k : ℕ) → arity k ≡ 0 → k < 2
kind_of_arity_zero k e = go (arity_view k)
  where
    go : Arity k → k < 2
    go (Arity.none a f) = a
    go (Arity.one a b f) = omega arith
    go (Arity.low_two a b f) = omega arith
    go (Arity.high_two a f) = omega arith

pub kind_of_arity_one : (k : ℕ) → arity k ≡ 1 → 7 ≤ k
kind_of_arity_one k e = go (arity_view k)
  where
    go : Arity k → 7 ≤ k
    go (Arity.none a f) = absurd (omega arith)
    go (Arity.one a b f) = a
    go (Arity.low_two a b f) = absurd (omega arith)
    go (Arity.high_two a f) = omega arith

pub kind_of_arity_two : (k : ℕ) → arity k ≡ 2 → k < 13 → (2 ≤ k) × (k < 7)
kind_of_arity_two k e h = go (arity_view k)
  where
    go : Arity k → (2 ≤ k) × (k < 7)
    go (Arity.none a f) = absurd (omega arith)
    go (Arity.one a b f) = absurd (omega arith)
    go (Arity.low_two a b f) = (a, b)
    go (Arity.high_two a f) = absurd (omega arith)

pub arity_two : (k : ℕ) → (arity k ≡ 0 → ⊥) → (arity k ≡ 1 → ⊥) → arity k ≡ 2
arity_two k p q = go (arity_view k)
  where
    go : Arity k → arity k ≡ 2
    go (Arity.none a e) = absurd (p e)
    go (Arity.one a b e) = absurd (q e)
    go (Arity.low_two a b e) = e
    go (Arity.high_two a e) = e

pub arity_zero_of_lt : (k : ℕ) → k < 2 → arity k ≡ 0
arity_zero_of_lt k h = go (arity_view k)
  where
    go : Arity k → arity k ≡ 0
    go (Arity.none a e) = e
    go (Arity.one a b e) = absurd (omega arith)
    go (Arity.low_two a b e) = absurd (omega arith)
    go (Arity.high_two a e) = absurd (omega arith)

pub arity_one_of_le : (k : ℕ) → 7 ≤ k → k < 13 → arity k ≡ 1
arity_one_of_le k h l = go (arity_view k)
  where
    go : Arity k → arity k ≡ 1
    go (Arity.none a e) = absurd (omega arith)
    go (Arity.one a b e) = e
    go (Arity.low_two a b e) = absurd (omega arith)
    go (Arity.high_two a e) = absurd (omega arith)

pub arity_two_of_le : (k : ℕ) → 2 ≤ k → k < 7 → arity k ≡ 2
arity_two_of_le k h l = go (arity_view k)
  where
    go : Arity k → arity k ≡ 2
    go (Arity.none a e) = absurd (omega arith)
    go (Arity.one a b e) = absurd (omega arith)
    go (Arity.low_two a b e) = e
    go (Arity.high_two a e) = e
