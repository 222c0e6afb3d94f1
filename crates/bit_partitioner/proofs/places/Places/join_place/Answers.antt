-- `join_place` meets its contract: the class of the place before where there is no edge, else that of the profile.
use mathlib.Core.Path.{sym, ◌∙◌}
use native.Mathlib.Omega.{arith}
use Rattle.bit_partitioner.proofs.PlacesLaws.{count_place, room_next, still_room, placed_still, placed_joined}
use Rattle.bit_partitioner.proofs.PlacesLaws.{count_new, count_same}
use Rattle.bit_partitioner.proofs.places.Places.join_place.Goals as goal

pub overflow_mul-at : goal.overflow_mul-at
overflow_mul-at c =
    let pre = c.requires in
    let room =
    still_room _ _ _ _ _ _ pre.1 _ _ pre.0.indexed pre.0.some pre.2 pre.0.width_le
    (sym c.bit.ensures ∙ c.if-bit-eq0.true) pre.0.room in
    omega (arith, room)

pub add_place-requires : goal.add_place-requires
add_place-requires c =
    let pre = c.requires in
    let room =
    still_room _ _ _ _ _ _ pre.1 _ _ pre.0.indexed pre.0.some pre.2 pre.0.width_le
    (sym c.bit.ensures ∙ c.if-bit-eq0.true) pre.0.room in
    (room, omega (arith, pre.2, pre.0.width_le))

pub returns-then-bit-eq0 : goal.returns-then-bit-eq0
returns-then-bit-eq0 c =
    let pre = c.requires in
    placed_still _ _ _ _ _ _ pre.1 _ _ pre.0.indexed pre.0.some pre.2 pre.0.width_le
    (sym c.bit.ensures ∙ c.if-bit-eq0.true) c.add_place.ensures

pub join_class-class-requires : goal.join_class-class-requires
join_class-class-requires c =
    let pre = c.requires in
    let room = room_next _ _ _ _ _ _ pre.1 (omega (arith, pre.2, pre.0.width_le)) pre.0.room in
    (rw c.move_profile.ensures.long room, omega (arith, pre.2, pre.0.width_le))

pub overflow_add-result : goal.overflow_add-result
overflow_add-result c =
    let pre = c.requires in
    omega (arith, count_place _ _ _ _ _ _ pre.1, pre.2, pre.0.width_le)

pub returns-then-class-k : goal.returns-then-class-k
returns-then-class-k c =
    let x = c.args.self in
    let pre = c.requires in
    placed_joined _ _ _ _ _ _ pre.1 _ pre.0.indexed.readable pre.2 pre.0.width_le
    c.move_profile.ensures
    c.join_class-class.ensures
    (omega (arith, count_new x.count c.join_class-class.result c.if-class-k.true))

pub returns : goal.returns
returns c =
    let x = c.args.self in
    let pre = c.requires in
    placed_joined _ _ _ _ _ _ pre.1 _ pre.0.indexed.readable pre.2 pre.0.width_le
    c.move_profile.ensures
    c.join_class-class.ensures
    (omega (arith, count_same x.count c.join_class-class.result c.if-class-k.false))
