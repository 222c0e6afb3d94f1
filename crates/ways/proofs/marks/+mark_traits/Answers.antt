-- `mark_traits` meets its contract: the equation of the fold at a root without, with one and with two children.
use mathlib.Core.Path.{refl, ap}
use Prim.Native.Nat.{ℕ, ◌+◌}
use native.Mathlib.Omega.{arith}
use Rattle.record.proofs.SizedLaws.{sized_big}
use Rattle.record.proofs.DecodeLaws.{child_body, child_left, child_right}
use Rattle.record.proofs.PlaceLaws.{root_whole, root_number, right_whole, right_number}
use Rattle.ways.proofs.SpanOfLaws.{size_two}
use Rattle.ways.proofs.MarkedLaws.{size_pos, marked_leaf, marked_one, marked_two}
use Rattle.ways.proofs.marks.+mark_traits.Goals as goal

pub root_arity-children-requires : goal.root_arity-children-requires
root_arity-children-requires t c = sized_big _ c.requires.whole

pub leaf_mark-own-requires : goal.leaf_mark-own-requires
leaf_mark-own-requires t c = sized_big _ c.requires.whole

pub put_mark-requires : goal.put_mark-requires
put_mark-requires t c =
    omega (arith, c.requires.room, size_pos c.args.t.now c.requires.whole)

pub returns-then-children-eq0 : goal.returns-then-children-eq0
returns-then-children-eq0 t c =
    marked_leaf c.args.t.now c.requires.whole c.root_arity-children.ensures
    c.args.at c.args.marks.now c.requires.room
    c.put_mark.ensures.0 c.if-children-eq0.true
    c.leaf_mark-own.ensures c.put_mark.ensures.1

pub kind-k-requires : goal.kind-k-requires
kind-k-requires t c = sized_big _ c.requires.whole

pub overflow_sub-t : goal.overflow_sub-t
overflow_sub-t t c = sized_big _ c.requires.whole

pub number_of-requires : goal.number_of-requires
number_of-requires t c = root_whole _ c.requires.whole

pub overflow_add-last : goal.overflow_add-last
overflow_add-last t c =
    let last = root_number c.args.t.now c.requires.whole c.number_of.ensures in
    omega (arith, c.requires.room, last)

pub mark_traits-below-requires : goal.mark_traits-below-requires
mark_traits-below-requires t c =
    let r =
    child_body c.args.t.now c.requires.whole c.root_arity-children.ensures
    c.if-children-eq1.true c.body.ensures in (
      omega (arith, r.falls),
      record { whole = r.ok; room = omega (arith, r.falls, c.requires.room) },
    )

pub put_mark-requires-then-children-eq1 : goal.put_mark-requires-then-children-eq1
put_mark-requires-then-children-eq1 t c =
    let pos = size_pos c.args.t.now c.requires.whole in
    let last = root_number c.args.t.now c.requires.whole c.number_of.ensures in
    omega (arith, c.requires.room, pos, last)

pub returns-then-children-eq1 : goal.returns-then-children-eq1
returns-then-children-eq1 t c =
    let last =
    root_number c.args.t.now c.requires.whole c.number_of.ensures in
    let pos = size_pos c.args.t.now c.requires.whole in
    marked_one c.args.t.now c.requires.whole c.root_arity-children.ensures
    c.args.at c.args.marks.now c.requires.room
    c.put_mark-then-children-eq1.ensures.0 c.kind-k.ensures
    (omega (arith, last, pos)) c.if-children-eq1.true
    c.body.ensures c.mark_traits-below.ensures
    c.root_mark-own.ensures c.put_mark-then-children-eq1.ensures.1

pub mark_traits-first-requires : goal.mark_traits-first-requires
mark_traits-first-requires t c =
    let r =
    child_left c.args.t.now c.requires.whole c.root_arity-children.ensures
    c.if-children-eq0.false
    c.if-children-eq1.false c.left.ensures in (
      omega (arith, r.falls),
      record { whole = r.ok; room = omega (arith, r.falls, c.requires.room) },
    )

pub number_of-requires-2 : goal.number_of-requires-2
number_of-requires-2 t c =
    right_whole c.args.t.now c.requires.whole c.root_arity-children.ensures
    c.if-children-eq0.false c.if-children-eq1.false c.cut.ensures.0

pub overflow_add-middle : goal.overflow_add-middle
overflow_add-middle t c =
    let tree = c.args.t.now in
    let whole = c.requires.whole in
    let root-arity = c.root_arity-children.ensures in
    let middle =
    right_number tree whole root-arity c.if-children-eq0.false c.if-children-eq1.false c.cut.ensures.0
    c.number_of-2.ensures in
    let r = child_left tree whole root-arity c.if-children-eq0.false c.if-children-eq1.false refl in
    omega (arith, r.falls, c.requires.room, middle)

pub mark_traits-second-requires : goal.mark_traits-second-requires
mark_traits-second-requires t c =
    let tree = c.args.t.now in
    let whole = c.requires.whole in
    let root-arity = c.root_arity-children.ensures in
    let r = child_right tree whole root-arity c.if-children-eq0.false c.if-children-eq1.false c.right.ensures in
    let sizes =
    size_two tree whole root-arity c.if-children-eq0.false c.if-children-eq1.false refl c.right.ensures in
    let middle =
    right_number tree whole root-arity c.if-children-eq0.false c.if-children-eq1.false
    c.cut.ensures.0 c.number_of-2.ensures in (
      omega (arith, r.falls),
      record {
        whole = r.ok;
        room = omega (arith, sizes, c.requires.room, middle);
      },
    )

pub put_mark-requires-2 : goal.put_mark-requires-2
put_mark-requires-2 t c =
    let pos = size_pos c.args.t.now c.requires.whole in
    let last = root_number c.args.t.now c.requires.whole c.number_of.ensures in
    omega (arith, c.requires.room, pos, last)

pub returns : goal.returns
returns t c =
    let whole = c.requires.whole in
    let root-arity = c.root_arity-children.ensures in
    let last = root_number c.args.t.now whole c.number_of.ensures in
    let pos = size_pos c.args.t.now whole in
    let middle =
    right_number c.args.t.now whole root-arity c.if-children-eq0.false c.if-children-eq1.false
    c.cut.ensures.0 c.number_of-2.ensures in
    marked_two c.args.t.now c.requires.whole c.root_arity-children.ensures
    c.args.at c.args.marks.now c.requires.room c.put_mark-2.ensures.0
    c.kind-k.ensures
    (omega (arith, last, pos)) c.if-children-eq0.false
    c.if-children-eq1.false c.left.ensures c.right.ensures
    c.mark_traits-first.ensures
    (ap (λ (n : ℕ). c.args.at + n) middle)
    c.mark_traits-second.ensures
    c.root_mark-own-2.ensures c.put_mark-2.ensures.1
