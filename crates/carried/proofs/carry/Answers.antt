-- `carry` meets its contract: the coefficient is there, or both arrays have one more.
use Rattle.std.proofs.Common.{ℕ, ◌+◌, get_or, refl, ap, arith}
use Rattle.group.specs.Bucket.{IsPlace}
use Rattle.carried.proofs.CarriedInLaws.{bit_word, bit_room, carry_there, carry_new}
use Rattle.carried.proofs.carry.Goals as goal

pub offset_bounds-bits-k : goal.offset_bounds-bits-k
unfolding IsPlace
offset_bounds-bits-k c = omega (arith, c.in-Ok.ensures.within, c.requires.bits_room)

pub bounds-bits-k : goal.bounds-bits-k
unfolding IsPlace
bounds-bits-k c = omega (arith, c.in-Ok.ensures.within, c.requires.bits_room)

pub bounds-bits-k-in-Ok : goal.bounds-bits-k-in-Ok
unfolding IsPlace
bounds-bits-k-in-Ok c = omega (arith, c.in-Ok.ensures.within, c.requires.bits_room)

pub overflow_add-bits : goal.overflow_add-bits
unfolding IsPlace
overflow_add-bits c =
    let place = c.in-Ok.ensures in
    let room = bit_room _ c.args.p c.requires.place (c.requires.below c.in-Ok.k place.within) in
    omega (arith, room)

pub returns-in-Ok : goal.returns-in-Ok
unfolding IsPlace
returns-in-Ok c =
    let a = c.args in
    let place = c.in-Ok.ensures in
    carry_there a.c a.p _ a.carried.now a.bits.now c.requires.carried_room c.requires.bits_room c.in-Ok.k
    (omega (arith, place.within)) place.below place _
    (ap (λ (x : ℕ). get_or a.bits.now c.in-Ok.k 0 + x) (bit_word a.p c.requires.place)) refl

pub insert_at-requires : goal.insert_at-requires
unfolding IsPlace
insert_at-requires c = (c.in-Err.ensures.at_le, c.requires.carried_room)

pub insert_at-requires-in-Err : goal.insert_at-requires-in-Err
unfolding IsPlace
insert_at-requires-in-Err c = (c.in-Err.ensures.at_le, c.requires.bits_room)

pub returns-in-Err : goal.returns-in-Err
unfolding IsPlace
returns-in-Err c =
    let a = c.args in
    let place = c.in-Err.ensures in
    carry_new a.c a.p _ a.carried.now a.bits.now c.requires.carried_room c.requires.bits_room c.in-Err.k
    place.at_le place.below place _ (bit_word a.p c.requires.place) c.insert_at.ensures c.insert_at-in-Err.ensures
