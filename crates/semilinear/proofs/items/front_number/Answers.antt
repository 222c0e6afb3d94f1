-- `front_number` meets its contract: two bytes at their place in the first record.
use Rattle.semilinear.specs.Items.{front_number}
use Rattle.semilinear.proofs.items.front_number.Goals as goal

pub returns : goal.returns
unfolding front_number
returns c = c.read_u16.ensures
