-- `row_with` meets its contract: the loop passes atoms that have another tree.
use Prim.Native.Nat.{◌-◌}
use lib.ListN.{length}
use Rattle.bare.proofs.SearchLaws.{Searched}
use Rattle.bare.proofs.row_with.Given as goal

abbrev pub invariant-loop-r : goal.invariant-loop-r
invariant-loop-r l = Searched l.hash l.t l.f l.at l.i

abbrev pub decreases-loop-r : goal.decreases-loop-r
decreases-loop-r l = length l.f - l.at
