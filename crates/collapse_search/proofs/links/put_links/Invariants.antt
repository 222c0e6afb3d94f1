use Prim.Native.Nat.{◌-◌}
use lib.ListN.{length}
use Rattle.collapse_search.specs.Links.{lent, Linked}
use Rattle.collapse_search.proofs.links.put_links.Given as goal

abbrev pub invariant-loop-t : goal.invariant-loop-t
invariant-loop-t l = Linked (lent l.entries) l.m (length l.entries - l.t) l.first l.next
