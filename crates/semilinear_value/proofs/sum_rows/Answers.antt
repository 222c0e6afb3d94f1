-- `sum_rows` meets its contract: the loop keeps that the sum so far and the rows left give the whole.
use Prim.Native.Nat.{ℕ}
use Rattle.arith.specs.Width.{mod_mul}
use mathlib.Core.Path.{ap, ◌∙◌}
use Rattle.semilinear.proofs.WalkLaws.{row_sized}
use Rattle.semilinear_value.proofs.SumLaws.{summed_end, summed_with, summed_without, sum_step}
use Rattle.semilinear_value.proofs.sum_rows.Goals as goal

pub value_at-atom-requires : goal.value_at-atom-requires
value_at-atom-requires c =
    (row_sized c.in-Some.ensures.steps c.args.w c.loop-row.invariant.atoms, c.requires.width)

pub loop-row-preserved-in-Some-coeff : goal.loop-row-preserved-in-Some-coeff
loop-row-preserved-in-Some-coeff c =
    summed_with _ _ _ _ c.loop-row.invariant c.in-Some.ensures.steps c.in-Some-coeff.coeff c.in-Some-coeff.is _
    (sum_step c.args.w c.requires.width c.loop-row.sum c.in-Some-coeff.coeff _
    (c.mod_mul.ensures ∙ ap (λ (v : ℕ). mod_mul c.in-Some-coeff.coeff v c.args.w) c.value_at-atom.ensures)
    c.mod_add-sum.ensures)

pub loop-row-preserved : goal.loop-row-preserved
loop-row-preserved c = summed_without _ _ _ _ c.loop-row.invariant c.in-Some.ensures.steps c.in_default.is

pub returns : goal.returns
returns c = summed_end _ _ _ _ _ c.loop-row.invariant c.in-None.ensures.steps.0
