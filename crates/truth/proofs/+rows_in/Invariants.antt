-- `rows_in` meets its contract: the loop keeps that the rows of t are those of s, complemented or as they are; at a
-- root without children and at one with two the law of the rows there. A child's rows are those of a leaf or of a call.
use Rattle.record.specs.Fields.{size}
use Rattle.truth.proofs.PassedLaws.{ChainPassed}
use Rattle.truth.proofs.+rows_in.Given as goal

abbrev pub decreases-rows_in : goal.decreases-rows_in
decreases-rows_in l = size l.t.now

abbrev pub invariant-loop-s : goal.invariant-loop-s
invariant-loop-s l = ChainPassed l.vars l.t l.at l.s l.here l.flip

abbrev pub decreases-loop-s : goal.decreases-loop-s
decreases-loop-s l = size l.s
