-- The groups of a pass in turn: each basis makes one state of what it is from another, the rows or the form so far.
use Rattle.std.specs.Prelude.{List, [], ◌∷◌}
use Rattle.record.specs.Tree.{Tree}

module _ {S : Type 0} (f : Tree → S → S) where
  -- what the bases make of a state, each of what the ones before it made
  unfoldable pub in_turn : List Tree → S → S
  in_turn [] s = s
  in_turn (b ∷ l) s = in_turn l (f b s)

  -- each finds a state that P allows
  unfoldable pub EachAllowed : (Tree → S → Type 0) → List Tree → S → Type 0
  EachAllowed P [] s = Unit {0}
  EachAllowed P (b ∷ l) s = P b s × EachAllowed P l (f b s)
