-- Laws of loops and of the search `first_in` (base/specs/Loop.antt): turns that are the same make the same; where one test implies another, the first number that passes it
-- is found from the first one on that passes the other.
use mathlib.Core.Path.{◌≡◌, refl, ap, sym, ◌∙◌}
use Prim.Native.Nat.{ℕ, zero, suc, ◌+◌, ◌-◌, ◌≤◌, ◌<◌}
use native.Mathlib.Omega.{arith}
use mathlib.Core.Bool.{Bool, true, false, ◌&&◌}
use lib.Dec.{ltb}
use borrow.Author.Tests.{le-ltb}
use Rattle.base.specs.Choice.{when}
use Rattle.base.specs.Loop.{turns_f, for_in, first_in}
use Rattle.base.proofs.BoolLaws.{false_true}
use Rattle.base.proofs.LoopLaws.{first_next, first_here, first_end}

-- a test that implies one that fails
pub false_of_implied : (s t : Bool) → (s ≡ true → t ≡ true) → t ≡ false → s ≡ false
false_of_implied true t h e = false_true (sym e ∙ h refl)
false_of_implied false t h e = refl

module _ (p q : ℕ → Bool) where
  implied_step : (a b : ℕ) → a < b → (p a ≡ true → q a ≡ true)
      → first_in p (a + 1) b ≡ first_in p (first_in q (a + 1) b) b → first_in p a b ≡ first_in p (first_in q a b) b
  implied_step a b l imp rest = go (q a) refl
    where
      go : (t : Bool) → q a ≡ t → first_in p a b ≡ first_in p (first_in q a b) b
      go true e = ap (λ (x : ℕ). first_in p x b) (sym (first_here q a b l e))
      go false e =
          first_next p a b l (false_of_implied (p a) (q a) imp e)
          ∙ rest
          ∙ ap (λ (x : ℕ). first_in p x b) (sym (first_next q a b l e))

  implied_from : (b n a : ℕ) → a + n ≡ b → ((k : ℕ) → a ≤ k → k < b → p k ≡ true → q k ≡ true)
      → first_in p a b ≡ first_in p (first_in q a b) b
  implied_from b zero a e imp = ap (λ (x : ℕ). first_in p x b) (sym (first_end q a b (omega arith)))
  implied_from b (suc n) a e imp =
      implied_step a b (omega arith) (imp a (omega arith) (omega arith))
      (implied_from b n (a + 1) (omega arith) (λ k l u. imp k (omega arith) u))

  pub first_implied : (a b : ℕ) → a ≤ b → ((k : ℕ) → a ≤ k → k < b → p k ≡ true → q k ≡ true)
      → first_in p a b ≡ first_in p (first_in q a b) b
  first_implied a b h imp = implied_from b (b - a) a (omega arith) imp

-- turns that are the same as far as the loop goes
pub for_below : {S : Type 0} (f h : ℕ → S → S) (a b : ℕ) (s : S) → ((i : ℕ) (t : S) → a ≤ i → i < b → f i t ≡ h i t)
    → for_in f a b s ≡ for_in h a b s
unfolding for_in turns_f
for_below {S} f h a b s e = go (b - a) (λ i t l u. e i t l (omega arith))
  where
    go : (n : ℕ) → ((i : ℕ) (t : S) → a ≤ i → i < a + n → f i t ≡ h i t) → turns_f n f a s ≡ turns_f n h a s
    go zero k = refl
    go (suc n) k =
        k (a + n) (turns_f n f a s) (omega arith) (omega arith)
        ∙ ap (h (a + n)) (go n (λ i t l u. k i t l (omega arith)))

-- a search that is made only where a test holds
module _ (x n : ℕ) where
  pub when_ltb : (t : Bool) → (t && ltb x n) ≡ ltb (when t (λ _. x) (λ _. n)) n
  when_ltb true = refl
  when_ltb false = let l : n ≤ n = omega arith in sym (le-ltb n n l)

  pub when_found : (t : Bool) → when t (λ _. x) (λ _. n) < n → when t (λ _. x) (λ _. n) ≡ x
  when_found true l = refl
  when_found false l = absurd (omega arith)
