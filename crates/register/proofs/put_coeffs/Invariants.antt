-- `put_coeffs` meets its contract: the loop keeps that the first coefficients stand.
use Prim.Native.Nat.{ℕ, ◌<◌}
use mathlib.Core.Path.{◌≡◌}
use lib.ListN.{length, get_or}
use Rattle.register.specs.Index.{entry_at}
use Rattle.register.proofs.put_coeffs.Given as goal

abbrev pub invariant-loop-i : goal.invariant-loop-i
invariant-loop-i l =
    (length l.coeffs ≡ length l.initial.coeffs) × ((i : ℕ) → i < l.i → get_or l.coeffs i 0 ≡ (entry_at l.index i).coeff)
