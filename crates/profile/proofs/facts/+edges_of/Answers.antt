-- `edges_of` meets its contract: the equation of the edges at a root without, with one and with two children.
use Rattle.record.proofs.SizedLaws.{sized_big}
use Rattle.record.proofs.DecodeLaws.{decode_leaf, decode_one, decode_two, child_body, child_left, child_right}
use lib.Bits.{bit_or}
use mathlib.Core.Path.{ap₂, ◌∙◌}
use native.Mathlib.Omega.{arith}
use Rattle.profile.proofs.FactsLaws.{edges_one, edges_two}
use Rattle.profile.proofs.facts.+edges_of.Goals as goal

pub root_arity-children-requires : goal.root_arity-children-requires
root_arity-children-requires t c = sized_big _ c.requires

pub leaf_edges-requires : goal.leaf_edges-requires
leaf_edges-requires t c =
    sized_big _ c.requires

pub returns-then-children-eq0 : goal.returns-then-children-eq0
returns-then-children-eq0 t c =
    rw
    (decode_leaf c.args.t.now c.requires c.root_arity-children.ensures
    c.if-children-eq0.true) c.leaf_edges.ensures

pub edges_of-requires : goal.edges_of-requires
edges_of-requires t c =
    let r =
    child_body c.args.t.now c.requires c.root_arity-children.ensures c.if-children-eq1.true
    c.body.ensures in
    (omega (arith, r.falls), r.ok)

pub returns-then-children-eq1 : goal.returns-then-children-eq1
returns-then-children-eq1 t c =
    rw
    (decode_one c.args.t.now c.requires c.root_arity-children.ensures c.if-children-eq1.true
    c.body.ensures)
    (c.edges_of.ensures ∙ edges_one _ _ _)

pub edges_of-x-requires : goal.edges_of-x-requires
edges_of-x-requires t c =
    let r =
    child_left c.args.t.now c.requires c.root_arity-children.ensures c.if-children-eq0.false
    c.if-children-eq1.false c.left.ensures in
    (omega (arith, r.falls), r.ok)

pub edges_of-y-requires : goal.edges_of-y-requires
edges_of-y-requires t c =
    let r =
    child_right c.args.t.now c.requires c.root_arity-children.ensures
    c.if-children-eq0.false c.if-children-eq1.false c.right.ensures in
    (omega (arith, r.falls), r.ok)

pub returns : goal.returns
returns t c =
    rw
    (decode_two c.args.t.now c.requires c.root_arity-children.ensures c.if-children-eq0.false
    c.if-children-eq1.false c.left.ensures c.right.ensures)
    (ap₂ bit_or c.edges_of-x.ensures c.edges_of-y.ensures ∙ edges_two _ _ _)
