-- `Group::gather_rows` meets its contract: the loop keeps the entries of the rows before i.
use mathlib.Core.Path.{◌≡◌}
use Rattle.base.specs.Loop.{for_in}
use Rattle.group.specs.Group.{empty_group}
use Rattle.group.specs.Gathered.{gather_at}
use Rattle.group.proofs.Group.gather_rows.Given as goal

abbrev pub invariant-loop-i : goal.invariant-loop-i
invariant-loop-i l = l.self ≡ for_in (gather_at l.f l.views l.hash l.b) 0 l.i empty_group
