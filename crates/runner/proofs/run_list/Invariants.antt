-- Call by call, the rest of the list makes of the bytes in use what the whole list makes of the first.
use Prim.Native.Nat.{◌*◌}
use lib.ListN.{length}
use Rattle.runner.specs.Placed.{bytes_in}
use Rattle.runner.proofs.RunLaws.{Running}
use Rattle.runner.proofs.run_list.Given as goal

abbrev pub invariant-loop-call : goal.invariant-loop-call
invariant-loop-call l =
    Running l.words (bytes_in l.initial.x.first l.initial.x.used l.initial.sheet l.initial.spare) (length l.initial.sheet) (length l.initial.spare) l.sheet l.spare
    l.x.first l.x.used l.x.terms (l.call-index * 2)
