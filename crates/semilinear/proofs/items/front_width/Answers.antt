-- `front_width` meets its contract: the byte at its place in the first record.
use Rattle.semilinear.specs.Items.{front_width}
use borrow.Author.Rules.{rules}
use Rattle.semilinear.proofs.items.front_width.Goals as goal

pub returns : goal.returns
unfolding front_width
returns c = search rules
