-- `provenance` meets its contract: the byte at its place in the first record.
use Rattle.semilinear.specs.Items.{provenance}
use borrow.Author.Rules.{rules}
use Rattle.semilinear.proofs.items.provenance.Goals as goal

pub returns : goal.returns
unfolding provenance
returns c = search rules
