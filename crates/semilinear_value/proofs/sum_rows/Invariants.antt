-- `sum_rows` meets its contract: the loop keeps that the sum so far and the rows left give the whole.
use Rattle.semilinear_value.proofs.SumLaws.{Summed}
use Rattle.semilinear.specs.Form.{sum_rows}
use Rattle.semilinear.specs.Items.{after_atoms}
use Rattle.semilinear.specs.DecodeForm.{rows_of}
use Prim.Native.Nat.{◌+◌, ◌%◌, ◌^◌}
use Rattle.semilinear_value.proofs.sum_rows.Given as goal

abbrev pub invariant-loop-row : goal.invariant-loop-row
invariant-loop-row l =
    Summed l.w l.vars ((l.constant + sum_rows l.w l.vars (rows_of 0 l.f (after_atoms l.f))) % 2 ^ l.w) l.sum l.row-iterator
