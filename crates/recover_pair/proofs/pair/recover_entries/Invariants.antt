-- `recover_entries` meets its contract: after i turns i entries have looked; a full table ends the loop.
use Rattle.record.specs.Decode.{decode}
use Rattle.base.specs.Loop.{for_in}
use Rattle.structure_laws.specs.RecoverStructure.{recover_at}
use Rattle.pairing.specs.Recovering.{Recovered}
use Rattle.recover_pair.proofs.pair.recover_entries.Given as goal

abbrev pub invariant-loop-i : goal.invariant-loop-i
invariant-loop-i l =
    Recovered l.w l.i (for_in (recover_at l.w (decode l.b.bytes.now)) 0 l.i) l.initial.g l.initial.made l.initial.out l.g l.made l.out
