-- `bit_coeff` meets its contract: the loop keeps the sum, which is cut in the end.
use Rattle.std.proofs.Common.{◌≡◌, ◌%◌, ◌^◌}
use Rattle.base.specs.Loop.{for_in}
use Rattle.structure_laws.specs.Carried.{bit_coeff_at}
use Rattle.carried.proofs.bit_coeff.Given as goal

abbrev pub invariant-loop-e : goal.invariant-loop-e
invariant-loop-e l = l.sum % 2 ^ l.w ≡ for_in (bit_coeff_at l.w l.entries l.p) 0 l.e-index 0
