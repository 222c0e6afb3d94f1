use mathlib.Core.Path.{refl}
use Rattle.group.specs.Group.{empty_group}
use Rattle.group.proofs.Group.empty.Goals as goal

pub returns : goal.returns
unfolding empty_group
returns c = refl
