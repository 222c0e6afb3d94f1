-- `carried_of` meets its contract: the loop keeps what the bits before p carry.
use Rattle.carried.specs.Coalescing.{IsCarried}
use Rattle.carried.proofs.CarriedToLaws.{carried_to}
use Rattle.carried.proofs.carried_of.Given as goal

abbrev pub invariant-loop-p : goal.invariant-loop-p
invariant-loop-p l = IsCarried (carried_to l.w l.entries l.p) l.initial.carried l.initial.bits l.carried l.bits l.count
