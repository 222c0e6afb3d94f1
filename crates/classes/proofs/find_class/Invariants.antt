-- `find_class` meets its contract: the loop keeps that the classes from `j` on decide.
use mathlib.Core.Path.{◌≡◌}
use Rattle.base.specs.Loop.{first_in}
use Rattle.partition_laws.specs.Classes.{has_profile}
use Rattle.classes.proofs.find_class.Given as goal

abbrev pub invariant-loop-j : goal.invariant-loop-j
invariant-loop-j l = first_in (has_profile l.out l.profile) 0 l.k ≡ first_in (has_profile l.out l.profile) l.j l.k
