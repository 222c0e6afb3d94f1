use Rattle.record.specs.Decode.{decode}
use Rattle.base.specs.Loop.{for_in}
use Rattle.group.specs.Steps.{cut_at}
use Rattle.group.specs.Made.{Stepped}
use Rattle.group.proofs.Group.cut_masks.Given as goal

abbrev pub invariant-loop-i : goal.invariant-loop-i
invariant-loop-i l =
    Stepped l.w l.i (for_in (cut_at l.w (decode l.b.bytes.now)) 0 l.i) l.initial.self l.initial.made l.initial.out l.self l.made l.out
