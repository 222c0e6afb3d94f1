use Rattle.std.proofs.Common.{◌≡◌, ℕ, ◌<◌, length, None}
use Rattle.entries.specs.Tests.{pair_in}
use Rattle.entries.proofs.pair.any_pair.Given as goal

abbrev pub invariant-loop-j : goal.invariant-loop-j
invariant-loop-j l = (k : ℕ) → l.i < k → k < l.j → pair_in l.entries l.w l.i k ≡ None

abbrev pub invariant-loop-i : goal.invariant-loop-i
invariant-loop-i l = (h k : ℕ) → h < l.i → h < k → k < length l.entries → pair_in l.entries l.w h k ≡ None
