-- `value_from` meets its contract: the equation of the value at a root without, with one and with two children.
use Rattle.record.proofs.SizedLaws.{sized_big}
use Rattle.record.proofs.DecodeLaws.{decode_leaf, decode_one, decode_two, child_body, child_left, child_right}
use Rattle.std.proofs.Common.{arith}
use Rattle.expr.specs.Value.{value}
use Rattle.expr.proofs.ValueLaws.{value_lt}
use Rattle.expr.proofs.value.+value_from.Goals as goal

pub root_arity-children-requires : goal.root_arity-children-requires
root_arity-children-requires t c = sized_big _ c.requires.whole

pub leaf_value-requires : goal.leaf_value-requires
leaf_value-requires t c =
    (sized_big _ c.requires.whole, c.requires.width_le)

pub returns-then-children-eq0 : goal.returns-then-children-eq0
returns-then-children-eq0 t c =
    rw
    (decode_leaf c.args.t.now c.requires.whole c.root_arity-children.ensures
    c.if-children-eq0.true) c.leaf_value.ensures

pub kind-k-requires : goal.kind-k-requires
kind-k-requires t c = sized_big _ c.requires.whole

pub value_from-x-requires : goal.value_from-x-requires
value_from-x-requires t c =
    let r =
    child_body c.args.t.now c.requires.whole c.root_arity-children.ensures
    c.if-children-eq1.true c.body.ensures in
    (omega (arith, r.falls), record { whole = r.ok; width_le = c.requires.width_le })

pub amount-requires : goal.amount-requires
amount-requires t c =
    sized_big _ c.requires.whole

pub unary-requires : goal.unary-requires
unary-requires t c =
    (c.requires.width_le, rw c.value_from-x.ensures (value_lt _ _ _))

pub returns-then-children-eq1 : goal.returns-then-children-eq1
unfolding value
returns-then-children-eq1 t c =
    rw
    (decode_one c.args.t.now c.requires.whole c.root_arity-children.ensures
    c.if-children-eq1.true c.body.ensures) (cc)

pub value_from-x-requires-2 : goal.value_from-x-requires-2
value_from-x-requires-2 t c =
    let r =
    child_left c.args.t.now c.requires.whole c.root_arity-children.ensures
    c.if-children-eq0.false c.if-children-eq1.false c.left.ensures in
    (omega (arith, r.falls), record { whole = r.ok; width_le = c.requires.width_le })

pub value_from-y-requires : goal.value_from-y-requires
value_from-y-requires t c =
    let r =
    child_right c.args.t.now c.requires.whole c.root_arity-children.ensures
    c.if-children-eq0.false c.if-children-eq1.false c.right.ensures in
    (omega (arith, r.falls), record { whole = r.ok; width_le = c.requires.width_le })

pub binary-requires : goal.binary-requires
binary-requires t c =
    c.requires.width_le

pub returns : goal.returns
unfolding value
returns t c =
    rw
    (decode_two c.args.t.now c.requires.whole c.root_arity-children.ensures
    c.if-children-eq0.false c.if-children-eq1.false c.left.ensures c.right.ensures) (cc)
