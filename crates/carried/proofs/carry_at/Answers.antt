-- `carry_at` meets its contract: a coefficient that is 0 carries nothing, another is carried.
use Rattle.std.proofs.Common.{arith}
use Rattle.carried.proofs.CarriedToLaws.{at_none, at_some}
use Rattle.carried.proofs.carry_at.Goals as goal

pub bit_coeff-c-requires : goal.bit_coeff-c-requires
bit_coeff-c-requires c = (c.requires.1.place, c.requires.0)

pub returns-then-c-eq0 : goal.returns-then-c-eq0
returns-then-c-eq0 c =
    let a = c.args in
    let pre = c.requires.1 in
    at_none a.w a.entries.now a.p _ a.count a.carried.now a.bits.now
    c.bit_coeff-c.ensures (omega (arith, pre.carried_room)) (omega (arith, pre.bits_room)) c.if-c-eq0.true

pub returns : goal.returns
returns c =
    let a = c.args in
    at_some a.w a.entries.now a.p _ a.count a.carried.now a.bits.now
    c.bit_coeff-c.ensures c.if-c-eq0.false c.carry.ensures
