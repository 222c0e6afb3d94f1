use mathlib.Core.Path.{◌≡◌}
use Rattle.base.specs.Loop.{for_in}
use Rattle.group.specs.Steps.{drop_at}
use Rattle.group.proofs.Group.drop_zero.Given as goal

abbrev pub invariant-loop-i : goal.invariant-loop-i
invariant-loop-i l = l.self ≡ for_in (drop_at l.w) 0 l.i l.initial.self
