use Prim.Native.Nat.{◌-◌}
use lib.ListN.{length}
use Rattle.collapse_search.specs.Links.{lent}
use Rattle.collapse_search.proofs.ThirdLaws.{Chased}
use Rattle.collapse_search.proofs.links.third_for.Given as goal

abbrev pub invariant-loop-k : goal.invariant-loop-k
invariant-loop-k l = Chased l.w (lent l.entries) l.i l.j l.h l.k

abbrev pub decreases-loop-k : goal.decreases-loop-k
decreases-loop-k l = length l.entries - l.k
