use mathlib.Core.Path.{◌≡◌}
use Rattle.base.specs.Loop.{for_in}
use Rattle.group.specs.Steps.{minus_one_at}
use Rattle.group.proofs.Group.to_minus_one.Given as goal

abbrev pub invariant-loop-i : goal.invariant-loop-i
invariant-loop-i l = l.self ≡ for_in (minus_one_at l.w) 0 l.i l.initial.self
