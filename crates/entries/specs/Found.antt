-- What a search answers: a number below n, or none.
use Rattle.std.specs.Prelude.{ℕ, Option, Some, None, ltb}
use Rattle.base.specs.Choice.{when}

-- the number x where it is below n
unfoldable pub found_below : ℕ → ℕ → Option ℕ
found_below n x = when (ltb x n) (λ _. Some x) (λ _. None)
