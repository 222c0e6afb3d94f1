-- What the walk that finds the value of a tree asks.
use Rattle.std.specs.Prelude.{◌≡◌, ℕ, ◌≤◌, true, List}
use Rattle.record.specs.Span.{sized}

-- the bytes of a tree, and a width
pub record ValueAsks (t : List ℕ) (w : ℕ) : Type 0 where
  pub whole : sized t ≡ true
  pub width_le : w ≤ 64
