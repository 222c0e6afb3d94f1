-- `register_all` meets its contract: the loop keeps that the table holds the rows of the spots so far.
use mathlib.Core.Path.{◌≡◌}
use lib.ListN.{length}
use Rattle.register.proofs.ReachedLaws.{Reached}
use Rattle.register.proofs.register_all.Given as goal

abbrev pub invariant-loop-i : goal.invariant-loop-i
invariant-loop-i l =
    Reached l.w l.file l.spots l.n l.i l.table l.index l.out × (length l.tree ≡ length l.initial.tree) × (length l.index ≡ length l.initial.index)
    × (length l.out ≡ length l.initial.out)
