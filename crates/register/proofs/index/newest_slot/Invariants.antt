-- `newest_slot` meets its contract: the loop keeps that the atoms below `j` decide.
use mathlib.Core.Path.{◌≡◌}
use Rattle.record.specs.Decode.{decode}
use Rattle.register.specs.Index.{entry_at, last_f, slot_at, newest_slot}
use Rattle.register.proofs.index.newest_slot.Given as goal

abbrev pub invariant-loop-j : goal.invariant-loop-j
invariant-loop-j l =
    newest_slot l.n l.hash (decode l.t) l.index l.out ≡ last_f l.j (λ j. slot_at l.hash (decode l.t) l.out (entry_at l.index j))
