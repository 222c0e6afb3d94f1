-- `carried_of` meets its contract: the loop keeps what the bits before p carry.
use Rattle.std.proofs.Common.{arith}
use Rattle.carried.proofs.CarriedToLaws.{carried_start, to_few, to_below, carried_turn}
use Rattle.carried.proofs.CarriedToLaws.{carried_done}
use Rattle.carried.proofs.carried_of.Goals as goal

pub loop-p-init : goal.loop-p-init
loop-p-init c = carried_start c.args.w c.args.entries.now _ _

pub carry_at-count-requires : goal.carry_at-count-requires
carry_at-count-requires c =
    let a = c.args in
    let pre = c.requires in
    let h = c.loop-p in
    let es = a.entries.now in
    let few = to_few a.w es pre.width h.p h.count h.invariant in
    let lt = c.loop-p-test.true in (
      pre.width,
      record {
        place = omega (arith, pre.width, lt);
        carried_room = omega (arith, few, pre.width, lt, pre.carried_long, h.invariant.long);
        bits_room = omega (arith, few, pre.width, lt, pre.bits_long, h.invariant.wide);
        below = to_below a.w es pre.width h.p h.count h.invariant
            (omega (arith, few, pre.width, lt, pre.carried_long, h.invariant.long))
            (omega (arith, few, pre.width, lt, pre.bits_long, h.invariant.wide));
      },
    )

pub loop-p-preserved : goal.loop-p-preserved
loop-p-preserved c =
    let a = c.args in
    let h = c.loop-p in
    carried_turn a.w a.entries.now c.requires.width h.p h.count h.invariant c.carry_at-count.ensures

pub returns : goal.returns
returns c =
    let a = c.args in
    let h = c.loop-p in
    carried_done a.w a.entries.now c.requires.width h.p h.count h.invariant (omega arith) c.loop-p-test.false
