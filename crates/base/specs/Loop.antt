-- Loops over a range of numbers as functions, for definitions that code is proved equal to by its own shape.
use Rattle.std.specs.Prelude.{ℕ, zero, suc, ◌+◌, ◌-◌, Bool}
use Rattle.base.specs.Choice.{when}

-- n turns from a on: f at a, then at a + 1, ..
unfoldable pub turns_f : {S : Type 0} → ℕ → (ℕ → S → S) → ℕ → S → S
turns_f zero f a s = s
turns_f (suc n) f a s = f (a + n) (turns_f n f a s)

-- `for i in a..b { s = f(i, s); }`
unfoldable pub for_in : {S : Type 0} → (ℕ → S → S) → ℕ → ℕ → S → S
for_in f a b s = turns_f (b - a) f a s

-- the first number from a on, of n of them, that passes the test, else a + n
unfoldable pub first_f : ℕ → (ℕ → Bool) → ℕ → ℕ
first_f zero p a = a
first_f (suc n) p a = when (p a) (λ _. a) (λ _. first_f n p (a + 1))

-- the first number from a to below b that passes the test, or b
unfoldable pub first_in : (ℕ → Bool) → ℕ → ℕ → ℕ
first_in p a b = first_f (b - a) p a
