use mathlib.Core.Path.{◌≡◌}
use lib.ListN.{length}
use Rattle.base.specs.Loop.{first_in}
use Rattle.group.specs.Collapse.{second_fits, find_second}
use Rattle.collapse_search.specs.Links.{lent}
use Rattle.collapse_search.proofs.find.find_second.Given as goal

abbrev pub invariant-loop-j : goal.invariant-loop-j
invariant-loop-j l =
    find_second l.w (lent l.entries) l.i ≡ first_in (second_fits l.w (lent l.entries) l.i) l.j (length l.entries)
