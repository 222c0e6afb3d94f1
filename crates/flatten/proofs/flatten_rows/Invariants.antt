-- `flatten_rows` meets its contract: the loop keeps that the rows so far are flattened.
use lib.ListN.{length, get_or}
use Rattle.flatten.proofs.FlatWalkLaws.{Walked}
use Rattle.flatten.proofs.flatten_rows.Given as goal

abbrev pub invariant-loop-row : goal.invariant-loop-row
invariant-loop-row l =
    Walked l.w l.f (l.initial.made.constant) (length l.initial.out) l.row-iterator l.flag l.made l.out l.coeffs
