-- What it means that no number passes a test (`none_in`).
use mathlib.Core.Path.{◌≡◌, sym, ◌∙◌}
use Prim.Native.Nat.{ℕ, ◌≤◌, ◌<◌}
use native.Mathlib.Omega.{arith}
use native.Mathlib.Decide.{dec_lt}
use mathlib.Core.Bool.{Bool, true, false}
use borrow.Author.Tests.{leb-true, le-leb, lt-leb}
use Rattle.base.specs.Loop.{first_in}
use Rattle.base.proofs.BoolLaws.{false_true}
use Rattle.base.proofs.SearchLaws.{first_before, first_past}
use Rattle.best_week.specs.Run.{none_in}

module _ (p : ℕ → Bool) where
  pub none_of : (a b : ℕ) → ((j : ℕ) → a ≤ j → j < b → p j ≡ false) → none_in p a b ≡ true
  unfolding none_in
  none_of a b h = le-leb b (first_in p a b) (first_past p a b h)

  pub none_at : (a b : ℕ) → none_in p a b ≡ true → (j : ℕ) → a ≤ j → j < b → p j ≡ false
  unfolding none_in
  none_at a b e j l u =
      let v : b ≤ first_in p a b = leb-true b (first_in p a b) e in
      first_before p a b j l (omega arith)

  -- one passes
  pub none_fails : (a b j : ℕ) → a ≤ j → j < b → p j ≡ true → none_in p a b ≡ false
  unfolding none_in
  none_fails a b j l u e = go (dec_lt (first_in p a b) b)
    where
      go : Dec (first_in p a b < b) → none_in p a b ≡ false
      go (yes q) = lt-leb b (first_in p a b) q
      go (no q) = false_true (sym (first_before p a b j l (omega arith)) ∙ e)
