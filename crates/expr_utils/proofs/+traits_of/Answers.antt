-- `traits_of` meets its contract: the equation of the fold at a root without, with one and with two children.
use Rattle.record.proofs.SizedLaws.{sized_big}
use Rattle.record.proofs.DecodeLaws.{decode_leaf, decode_one, decode_two, child_body, child_left, child_right}
use native.Mathlib.Omega.{arith}
use Rattle.expr_utils.proofs.UtilsLaws.{traits_one, traits_two}
use Rattle.record.proofs.DecodeLaws.{kind_inner}
use mathlib.Core.Path.{ap₂, ◌∙◌}
use Rattle.expr_utils.specs.Utils.{join_traits, node_traits}
use Rattle.expr_utils.proofs.+traits_of.Goals as goal

pub root_arity-children-requires : goal.root_arity-children-requires
root_arity-children-requires t c = sized_big _ c.requires

pub leaf_traits-requires : goal.leaf_traits-requires
leaf_traits-requires t c = sized_big _ c.requires

pub returns-then-children-eq0 : goal.returns-then-children-eq0
returns-then-children-eq0 t c =
    rw
    (decode_leaf c.args.t.now c.requires c.root_arity-children.ensures
    c.if-children-eq0.true) c.leaf_traits.ensures

pub kind-k-requires : goal.kind-k-requires
kind-k-requires t c = sized_big _ c.requires

pub traits_of-requires : goal.traits_of-requires
traits_of-requires t c =
    let r =
    child_body c.args.t.now c.requires c.root_arity-children.ensures c.if-children-eq1.true
    c.body.ensures in
    (omega (arith, r.falls), r.ok)

pub returns-then-children-eq1 : goal.returns-then-children-eq1
returns-then-children-eq1 t c =
    rw
    (decode_one c.args.t.now c.requires c.root_arity-children.ensures c.if-children-eq1.true
    c.body.ensures)
    (c.node_traits.ensures
    ∙ ap₂ node_traits c.kind-k.ensures c.traits_of.ensures
    ∙ traits_one _ _ _
    (kind_inner c.args.t.now c.requires c.root_arity-children.ensures
    c.if-children-eq0.false))

pub traits_of-first-requires : goal.traits_of-first-requires
traits_of-first-requires t c =
    let r =
    child_left c.args.t.now c.requires c.root_arity-children.ensures c.if-children-eq0.false
    c.if-children-eq1.false c.left.ensures in
    (omega (arith, r.falls), r.ok)

pub traits_of-second-requires : goal.traits_of-second-requires
traits_of-second-requires t c =
    let r =
    child_right c.args.t.now c.requires c.root_arity-children.ensures
    c.if-children-eq0.false c.if-children-eq1.false c.right.ensures in
    (omega (arith, r.falls), r.ok)

pub returns : goal.returns
returns t c =
    rw
    (decode_two c.args.t.now c.requires c.root_arity-children.ensures c.if-children-eq0.false
    c.if-children-eq1.false c.left.ensures c.right.ensures)
    (c.node_traits-2.ensures
    ∙ ap₂ node_traits c.kind-k.ensures
    (c.join_traits.ensures
    ∙ ap₂ join_traits c.traits_of-first.ensures c.traits_of-second.ensures)
    ∙ traits_two _ _ _
    (kind_inner c.args.t.now c.requires c.root_arity-children.ensures c.if-children-eq0.false))
