-- `add_coeff` meets its contract: one field of an entry is written.
use mathlib.Core.Path.{refl}
use Rattle.register.specs.Index.{grown}
use Rattle.register.proofs.add_coeff.Goals as goal

pub returns : goal.returns
unfolding grown
returns c = rw c.mod_add.ensures refl
