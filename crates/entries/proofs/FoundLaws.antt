-- What a search answers says of the number that it looks for.
use mathlib.Core.Path.{◌≡◌, refl, sym, ◌∙◌}
use Prim.Native.Nat.{ℕ, ◌≤◌, ◌<◌}
use native.Mathlib.Omega.{arith}
use native.Mathlib.Decide.{dec_lt}
use lib.Dec.{ltb}
use borrow.Author.Tests.{lt-ltb, le-ltb}
use Rattle.std.specs.Prelude.{Option, None, Some}
use Rattle.entries.specs.Found.{found_below}

module _ {n x : ℕ} where
  pub some_below : x < n → Some x ≡ found_below n x
  unfolding found_below
  some_below l = sym (simp (lt-ltb x n l))

  pub none_below : n ≤ x → None ≡ found_below n x
  unfolding found_below
  none_below l = sym (simp (le-ltb x n l))

  pub is_below : {k : ℕ} → found_below n x ≡ Some k → (k ≡ x) × (k < n)
  is_below {k} e = go (dec_lt x n)
    where
      go : Dec (x < n) → (k ≡ x) × (k < n)
      go (yes l) = let q : Some k ≡ Some x = sym e ∙ sym (some_below l) in let p : k ≡ x = cc in (p, omega (arith, p, l))
      go (no l) = let q : Some k ≡ None = sym e ∙ sym (none_below (omega arith)) in absurd cc

  pub is_past : found_below n x ≡ None → n ≤ x
  is_past e = go (dec_lt x n)
    where
      go : Dec (x < n) → n ≤ x
      go (yes l) = let q : Some x ≡ None = some_below l ∙ e in absurd cc
      go (no l) = omega arith
