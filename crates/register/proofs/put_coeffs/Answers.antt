-- `put_coeffs` meets its contract: the loop keeps that the first coefficients stand.
use native.Mathlib.Omega.{arith}
use Rattle.register.proofs.put_coeffs.Goals as goal

pub returns : goal.returns
returns c =
    record {
      same_length = c.loop-i.invariant.0;
      written = λ i h k. c.loop-i.invariant.1 i (omega (arith, h, k, c.loop-i-test.false, c.min-n.ensures));
    }
