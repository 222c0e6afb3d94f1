-- `bit_coeff` meets its contract: the loop keeps the sum, which is cut in the end.
use Rattle.std.proofs.Common.{◌∙◌, arith}
use Rattle.carried.proofs.CarriedToLaws.{bit_start, bit_one, bit_none, bit_end}
use Rattle.carried.proofs.bit_coeff.Goals as goal
use Rattle.carried.proofs.bit_coeff.Goals.{else-e-p-eq1, then-e-p-eq1}

pub loop-e-init : goal.loop-e-init
loop-e-init c = bit_start c.args.w c.requires.1 c.args.entries.now c.args.p

pub loop-e-preserved : goal.loop-e-preserved
loop-e-preserved c =
    let a = c.args in
    let h = c.loop-e in
    elim c.if-e-p-eq1.branch [
      | then-e-p-eq1 w ↦ bit_one a.w c.requires.1 a.entries.now a.p h.e-index h.sum h.invariant
          w.if-e-p-eq1.true _ (w.sum-is ∙ c.wrapping_add_u64-more.ensures.value)
      | else-e-p-eq1 w ↦ bit_none a.w c.requires.1 a.entries.now a.p h.e-index h.sum h.invariant
          w.if-e-p-eq1.false _ w.sum-is
    ]

pub returns : goal.returns
returns c =
    let a = c.args in
    let h = c.loop-e in
    bit_end a.w c.requires.1 a.entries.now a.p h.e-index h.sum _
    (omega arith) c.loop-e-test.false h.invariant c.bitmask.ensures
