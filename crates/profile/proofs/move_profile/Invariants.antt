-- `move_profile` meets its contract: the loop keeps that the words before i were moved and the others are as they were.
use Rattle.profile.proofs.MoveLaws.{Moving}
use Rattle.profile.proofs.move_profile.Given as goal

abbrev pub invariant-loop-i : goal.invariant-loop-i
invariant-loop-i l = Moving l.f l.w l.p l.initial.profile l.profile l.i
