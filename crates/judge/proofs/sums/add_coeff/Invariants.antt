-- The loop keeps that the sums before `i` have the coefficient.
use Rattle.judge.proofs.SumsLaws.{Adding}
use Rattle.judge.proofs.sums.add_coeff.Given as goal

abbrev pub invariant-loop-i : goal.invariant-loop-i
invariant-loop-i l = Adding l.w l.rows l.c l.initial.sums l.sums l.left l.i
