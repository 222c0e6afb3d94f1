-- `terms_ok` meets its contract: the loop keeps that the terms from `at` on decide.
use mathlib.Core.Path.{◌≡◌}
use Prim.Native.Nat.{◌+◌}
use lib.ListN.{length}
use Rattle.semilinear.specs.Valid.{terms_ok}
use Rattle.semilinear.proofs.scan.terms_ok.Given as goal

abbrev pub invariant-loop-term : goal.invariant-loop-term
invariant-loop-term l =
    (l.at + length l.term-iterator ≡ length l.q) × (terms_ok l.w l.n 0 l.q ≡ terms_ok l.w l.n l.next l.term-iterator)
