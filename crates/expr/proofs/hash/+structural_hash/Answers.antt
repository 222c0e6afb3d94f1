-- `structural_hash` meets its contract: the equation of the hash at a root without, with one and with two children.
use mathlib.Core.Path.{◌∙◌}
use Rattle.record.proofs.SizedLaws.{sized_big}
use Rattle.record.proofs.DecodeLaws.{decode_leaf, decode_one, decode_two, child_body, child_left, child_right}
use Rattle.std.proofs.Common.{arith}
use Rattle.expr.proofs.HashLaws.{hash_one, hash_two}
use Rattle.expr.proofs.hash.+structural_hash.Goals as goal

pub root_arity-children-requires : goal.root_arity-children-requires
root_arity-children-requires t c = sized_big _ c.requires

pub leaf_hash-requires : goal.leaf_hash-requires
leaf_hash-requires t c = sized_big _ c.requires

pub returns-then-children-eq0 : goal.returns-then-children-eq0
returns-then-children-eq0 t c =
    rw
    (decode_leaf c.args.t.now c.requires c.root_arity-children.ensures
    c.if-children-eq0.true) c.leaf_hash.ensures

pub kind-k-requires : goal.kind-k-requires
kind-k-requires t c = sized_big _ c.requires

pub structural_hash-x-requires : goal.structural_hash-x-requires
structural_hash-x-requires t c =
    let r =
    child_body c.args.t.now c.requires c.root_arity-children.ensures c.if-children-eq1.true
    c.body.ensures in
    (omega (arith, r.falls), r.ok)

pub amount-requires : goal.amount-requires
amount-requires t c =
    sized_big _ c.requires

pub returns-then-children-eq1 : goal.returns-then-children-eq1
returns-then-children-eq1 t c =
    rw
    (decode_one c.args.t.now c.requires c.root_arity-children.ensures
    c.if-children-eq1.true c.body.ensures)
    (hash_one _ c.kind-k.ensures c.amount.ensures.0
    c.structural_hash-x.ensures c.tag_hash.ensures c.mix_hash.ensures)

pub structural_hash-x-requires-2 : goal.structural_hash-x-requires-2
structural_hash-x-requires-2 t c =
    let r =
    child_left c.args.t.now c.requires c.root_arity-children.ensures c.if-children-eq0.false
    c.if-children-eq1.false c.left.ensures in
    (omega (arith, r.falls), r.ok)

pub structural_hash-y-requires : goal.structural_hash-y-requires
structural_hash-y-requires t c =
    let r =
    child_right c.args.t.now c.requires c.root_arity-children.ensures
    c.if-children-eq0.false c.if-children-eq1.false c.right.ensures in
    (omega (arith, r.falls), r.ok)

pub returns : goal.returns
returns t c =
    rw
    (decode_two c.args.t.now c.requires c.root_arity-children.ensures
    c.if-children-eq0.false c.if-children-eq1.false c.left.ensures
    c.right.ensures)
    (hash_two _ _ (c.from.ensures ∙ c.kind-k.ensures) c.structural_hash-x-2.ensures
    c.structural_hash-y.ensures c.mix_hash-2.ensures c.mix_hash-3.ensures)
