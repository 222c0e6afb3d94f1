-- `has_shift` meets its contract: a root without, with one and with two children; of these the left one may decide.
use Rattle.record.proofs.SizedLaws.{sized_big}
use Rattle.record.proofs.DecodeLaws.{decode_leaf, decode_one, decode_two, child_body, child_left, child_right}
use Rattle.record.specs.Fields.{kind, amount}
use lib.Dec.{eqb}
use mathlib.Core.Bool.{Bool, not, ◌&&◌, ◌||◌}
use mathlib.Core.Path.{refl, ap, ap₂, ◌∙◌}
use native.Mathlib.Omega.{arith}
use Rattle.profile.proofs.FactsLaws.{shift_leaf, shift_one, shift_left, shift_right}
use Prim.Native.Nat.{ℕ}
use Rattle.profile.proofs.facts.+has_shift.Goals as goal

pub root_arity-children-requires : goal.root_arity-children-requires
root_arity-children-requires t c = sized_big _ c.requires

pub returns-then-children-eq0 : goal.returns-then-children-eq0
returns-then-children-eq0 t c =
    rw
    (decode_leaf c.args.t.now c.requires c.root_arity-children.ensures c.if-children-eq0.true)
    (shift_leaf _)

pub has_shift-x-requires : goal.has_shift-x-requires
has_shift-x-requires t c =
    let r =
    child_body c.args.t.now c.requires c.root_arity-children.ensures c.if-children-eq1.true
    c.body.ensures in
    (omega (arith, r.falls), r.ok)

pub kind-requires : goal.kind-requires
kind-requires t c =
    sized_big _ c.requires

pub amount-requires : goal.amount-requires
amount-requires t c =
    sized_big _ c.requires

pub returns-then-children-eq1 : goal.returns-then-children-eq1
returns-then-children-eq1 t c =
    rw
    (decode_one c.args.t.now c.requires c.root_arity-children.ensures c.if-children-eq1.true
    c.body.ensures)
    (c.node_shift.ensures
    ∙ ap₂ (λ (k a : ℕ). (eqb k 9 && not (eqb a 0)) || c.has_shift-x.result) c.kind.ensures
    c.amount.ensures.0
    ∙ ap
    (λ (x : Bool). (eqb (kind c.args.t.now) 9 && not (eqb (amount c.args.t.now) 0)) || x)
    c.has_shift-x.ensures
    ∙ shift_one _ _ _)

pub has_shift-requires : goal.has_shift-requires
has_shift-requires t c =
    let r =
    child_left c.args.t.now c.requires c.root_arity-children.ensures c.if-children-eq0.false
    c.if-children-eq1.false c.left.ensures in
    (omega (arith, r.falls), r.ok)

pub returns-then-has_shift : goal.returns-then-has_shift
returns-then-has_shift t c =
    rw
    (decode_two c.args.t.now c.requires c.root_arity-children.ensures c.if-children-eq0.false
    c.if-children-eq1.false c.left.ensures refl)
    (c.if-has_shift.true ∙ shift_left _ _ _ c.has_shift.ensures c.if-has_shift.true)

pub has_shift-requires-else-has_shift : goal.has_shift-requires-else-has_shift
has_shift-requires-else-has_shift t c =
    let r =
    child_right c.args.t.now c.requires c.root_arity-children.ensures
    c.if-children-eq0.false c.if-children-eq1.false c.right.ensures in
    (omega (arith, r.falls), r.ok)

pub returns-else-has_shift : goal.returns-else-has_shift
returns-else-has_shift t c =
    rw
    (decode_two c.args.t.now c.requires c.root_arity-children.ensures c.if-children-eq0.false
    c.if-children-eq1.false c.left.ensures c.right.ensures)
    (c.has_shift-else-has_shift.ensures ∙ shift_right _ _ _ c.has_shift.ensures c.if-has_shift.false)
