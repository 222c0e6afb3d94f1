-- What a search `first_in` has passed, when it finds nothing, how what it finds is known, and that tests which agree
-- find the same.
use mathlib.Core.Path.{◌≡◌, refl, ap, sym, subst, ◌∙◌}
use Prim.Native.Nat.{ℕ, zero, suc, ◌+◌, ◌-◌, ◌≤◌, ◌<◌}
use native.Mathlib.Omega.{arith}
use native.Mathlib.Decide.{ℕ_discrete, dec_lt}
use mathlib.Core.Bool.{Bool, true, false}
use Rattle.base.specs.Choice.{when}
use Rattle.base.specs.Loop.{first_f, first_in}
use Rattle.base.proofs.BoolLaws.{false_true}
use Rattle.base.proofs.LoopLaws.{when_both, first_from, first_le, first_true}

module _ (p : ℕ → Bool) where
  -- from a on, by a itself and what comes behind it
  from_next : (j a : ℕ) → p a ≡ false → (a + 1 ≤ j → p j ≡ false) → a ≤ j → p j ≡ false
  from_next j a e h l = go (ℕ_discrete j a)
    where
      go : Dec (j ≡ a) → p j ≡ false
      go (yes q) = subst (λ (k : ℕ). p k ≡ false) (sym q) e
      go (no q) = h (omega arith)

  before_f : (n a j : ℕ) → a ≤ j → j < first_f n p a → p j ≡ false
  unfolding first_f
  before_f zero a j l u = absurd (omega arith)
  before_f (suc n) a j l u =
      when_both (λ (k : ℕ). j < k → p j ≡ false) (p a) a (first_f n p (a + 1)) (λ _ v. absurd (omega arith))
      (λ e v. from_next j a e (λ m. before_f n (a + 1) j m v) l) u

  -- what stands before the first that passes fails
  pub first_before : (a b j : ℕ) → a ≤ j → j < first_in p a b → p j ≡ false
  unfolding first_in
  first_before a b j l u = before_f (b - a) a j l u

  -- a number that passes, and none before it does
  pub first_is : (a b m : ℕ) → a ≤ m → m < b → p m ≡ true → ((j : ℕ) → a ≤ j → j < m → p j ≡ false)
      → first_in p a b ≡ m
  first_is a b m l u e h = below (dec_lt f m) (dec_lt m f)
    where
      f : ℕ
      f = first_in p a b

      below : Dec (f < m) → Dec (m < f) → first_in p a b ≡ m
      below (yes q) d = false_true (sym (h f (first_from p a b) q) ∙ first_true p a b (omega arith))
      below (no q) (yes d) = false_true (sym (first_before a b m l d) ∙ e)
      below (no q) (no d) = omega arith

  -- none passes: what is found is not below b, and it is b where there is room for one
  pub first_past : (a b : ℕ) → ((j : ℕ) → a ≤ j → j < b → p j ≡ false) → b ≤ first_in p a b
  first_past a b h = go (dec_lt (first_in p a b) b)
    where
      go : Dec (first_in p a b < b) → b ≤ first_in p a b
      go (yes q) = false_true (sym (h _ (first_from p a b) q) ∙ first_true p a b q)
      go (no q) = omega arith

  pub first_none : (a b : ℕ) → a ≤ b → ((j : ℕ) → a ≤ j → j < b → p j ≡ false) → first_in p a b ≡ b
  first_none a b l h = omega (arith, first_past a b h, first_le p a b l)

-- tests that agree
module _ (p q : ℕ → Bool) where
  first_f_as : (n a : ℕ) → ((j : ℕ) → a ≤ j → j < a + n → p j ≡ q j) → first_f n p a ≡ first_f n q a
  unfolding first_f
  first_f_as zero a e = refl
  first_f_as (suc n) a e =
      ap (λ (b : Bool). when b (λ _. a) (λ _. first_f n p (a + 1))) (e a (omega arith) (omega arith))
      ∙ ap (λ (k : ℕ). when (q a) (λ _. a) (λ _. k))
      (first_f_as n (a + 1) (λ j l u. e j (omega arith) (omega arith)))

  pub first_as : (a b : ℕ) → ((j : ℕ) → a ≤ j → j < b → p j ≡ q j) → first_in p a b ≡ first_in q a b
  unfolding first_in
  first_as a b e = first_f_as (b - a) a (λ j l u. e j l (omega arith))
