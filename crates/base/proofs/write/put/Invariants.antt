-- `put` meets its contract: after i turns the first i elements of s stand in d.
use mathlib.Core.Path.{◌≡◌}
use lib.ListN.{length}
use lib.Seq.{paste}
use Rattle.base.proofs.write.put.Given as goal

abbrev pub invariant-loop-i : goal.invariant-loop-i
invariant-loop-i g l = (l.d ≡ paste l.initial.d l.at l.s l.i) × (length l.d ≡ length l.initial.d)
