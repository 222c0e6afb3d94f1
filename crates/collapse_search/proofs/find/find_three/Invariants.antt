use mathlib.Core.Path.{◌≡◌}
use lib.ListN.{length}
use Rattle.base.specs.Loop.{first_in}
use Rattle.group.specs.Collapse.{first_fits, find_first}
use Rattle.collapse_search.specs.Links.{lent}
use Rattle.collapse_search.proofs.find.find_three.Given as goal

abbrev pub invariant-loop-first : goal.invariant-loop-first
invariant-loop-first l =
    find_first l.w (lent l.entries) ≡ first_in (first_fits l.w (lent l.entries)) l.first (length l.entries)
