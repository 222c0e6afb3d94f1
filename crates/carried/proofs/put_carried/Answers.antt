-- `put_carried` meets its contract: after k turns the first k terms are there.
use Rattle.std.proofs.Common.{arith}
use Rattle.record.specs.Decode.{decode}
use Rattle.made.proofs.WordsLaws.{makes_later}
use Rattle.carried.proofs.NewTermsLaws.{terms_none, terms_next, terms_done}
use Rattle.carried.proofs.put_carried.Goals as goal

pub loop-k-init : goal.loop-k-init
loop-k-init c =
    let a = c.args in
    terms_none a.w (decode a.b.now) a.carried.now a.bits.now c.requires.makes.room

pub put_term-requires : goal.put_term-requires
put_term-requires c =
    let pre = c.requires in
    let h = c.loop-k.invariant in
    makes_later pre.makes h.room (omega (arith, h.rows_le, c.loop-k-test.true))

pub loop-k-preserved : goal.loop-k-preserved
loop-k-preserved c =
    let a = c.args in
    let pre = c.requires in
    let h = c.loop-k in
    let lt = c.loop-k-test.true in
    terms_next a.w (decode a.b.now) a.carried.now a.bits.now h.k (omega (arith, lt, pre.carried_room))
    (omega (arith, lt, pre.bits_room)) h.invariant c.put_term.ensures

pub returns : goal.returns
returns c =
    let a = c.args in
    let h = c.loop-k in
    terms_done a.w (decode a.b.now) a.carried.now a.bits.now h.k a.count (omega arith) c.loop-k-test.false h.invariant
