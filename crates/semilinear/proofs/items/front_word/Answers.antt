-- `front_word` meets its contract: eight bytes at their place in the first record.
use Rattle.semilinear.specs.Items.{front_word}
use Rattle.semilinear.proofs.items.front_word.Goals as goal

pub returns : goal.returns
unfolding front_word
returns c = c.read_u64.ensures
