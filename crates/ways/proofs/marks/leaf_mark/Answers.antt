-- `leaf_mark` meets its contract: a literal or a variable.
use Rattle.expr_utils.specs.Utils.{has_kind, has_arith}
use Rattle.record.specs.Decode.{leaf}
use Rattle.ways.specs.Marks.{mark_number, mark_of}
use borrow.Author.Tests.{eq-eqb, ne_eqb}
use Rattle.ways.proofs.marks.leaf_mark.Goals as goal

pub returns-then-kind : goal.returns-then-kind
unfolding mark_of mark_number leaf has_kind has_arith
returns-then-kind c = simp (← c.kind.ensures, eq-eqb _ _ c.if-kind.true)

pub returns : goal.returns
unfolding mark_of mark_number leaf has_kind has_arith
returns c = simp (← c.kind.ensures, ne_eqb _ _ c.if-kind.false)
