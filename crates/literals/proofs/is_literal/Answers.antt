-- `is_literal` meets its contract: one test after the other.
use Rattle.literals.proofs.FoldingLaws.{literal_off, literal_on}
use Rattle.literals.proofs.is_literal.Goals as goal

pub returns-then-not-below : goal.returns-then-not-below
returns-then-not-below c = literal_off c.args.below c.args.m c.if-not-below.true

pub returns : goal.returns
returns c =
    let args = c.args in
    literal_on args.below args.m c.if-not-below.false c.has_variable.ensures
