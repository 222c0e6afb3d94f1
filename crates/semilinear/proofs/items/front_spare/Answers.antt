-- `front_spare` meets its contract: three bytes at their place in the first record.
use Rattle.semilinear.specs.Items.{front_spare}
use native.Mathlib.Omega.{arith}
use Rattle.semilinear.proofs.items.front_spare.Goals as goal

pub returns : goal.returns
unfolding front_spare
returns c = omega arith
