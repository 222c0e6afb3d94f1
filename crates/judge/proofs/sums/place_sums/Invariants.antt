-- `place_sums` meets its contract: the loop keeps that the sums so far and the rows left give the whole.
use Rattle.judge.proofs.SumsLaws.{Summing}
use lib.ListN.{length}
use Rattle.judge.proofs.sums.place_sums.Given as goal

abbrev pub invariant-loop-row : goal.invariant-loop-row
invariant-loop-row l = Summing l.w l.place l.vars l.f (length l.initial.sums) l.sums l.row-iterator
