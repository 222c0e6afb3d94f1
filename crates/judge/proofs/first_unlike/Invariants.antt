-- The loop keeps that the search goes on from `i`.
use Rattle.judge.specs.Found.{unlike_sums}
use Rattle.base.specs.Loop.{first_in}
use mathlib.Core.Path.{◌≡◌}
use lib.ListN.{length}
use Prim.Native.Nat.{◌^◌}
use Rattle.judge.proofs.first_unlike.Given as goal

abbrev pub invariant-loop-i : goal.invariant-loop-i
invariant-loop-i l =
    (l.factor ≡ 2 ^ l.place)
    × (first_in (unlike_sums l.w l.place l.left l.right) 0 (length l.left) ≡ first_in (unlike_sums l.w l.place l.left l.right) l.i
    (length l.left))
