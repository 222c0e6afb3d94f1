-- `put_carried` meets its contract: after k turns the first k terms are there.
use Rattle.record.specs.Decode.{decode}
use Rattle.structure_laws.specs.CoalesceTerms.{carried_rows}
use Rattle.carried.specs.Coalescing.{carried_in, Coalesced}
use Rattle.carried.proofs.put_carried.Given as goal

abbrev pub invariant-loop-k : goal.invariant-loop-k
invariant-loop-k l =
    Coalesced l.w 0 l.k (carried_rows l.w (decode l.b) (carried_in l.k l.carried l.bits)) l.initial.made l.initial.out l.initial.coeffs l.made l.out l.coeffs
