-- `none_has` meets its contract: no row before i has the basis.
use mathlib.Core.Path.{◌≡◌}
use mathlib.Core.Bool.{false}
use Prim.Native.Nat.{ℕ, ◌≤◌, ◌<◌}
use Rattle.views.specs.Views.{found_at, has_basis}
use Rattle.lone.proofs.none_has.Given as goal

abbrev pub invariant-loop-i : goal.invariant-loop-i
invariant-loop-i l = (k : ℕ) → l.a ≤ k → k < l.i → has_basis l.f (found_at l.views k) l.hash l.b ≡ false
