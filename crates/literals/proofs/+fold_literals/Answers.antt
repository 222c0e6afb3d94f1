-- `fold_literals` meets its contract: a literal, a leaf as it stands, or the root behind its folded children. What is
-- known of a root that is no literal, and of its children, is said once for the state after which it is known; for the
-- last child that is a state after the ways meet, the one by the left child and the one past it.
use mathlib.Core.Path.{refl, ap, sym, ◌∙◌}
use Prim.Native.Nat.{ℕ, ◌<◌}
use native.Mathlib.Omega.{arith}
use mathlib.Core.Bool.{Bool, ◌||◌}
use lib.Dec.{lit<}
use lib.Seq.{length-take-le}
use Rattle.expr_refusal.proofs.RefusalLaws.{accepted_root}
use Rattle.rules_laws.specs.Rules.{is_bitwise}
use Rattle.literals.proofs.FoldingLaws.{mark_folded}
use Rattle.literals.proofs.RootLaws.{whole, span_big, marks_some, record_room}
use Rattle.literals.proofs.RootLaws.{folded_literal, folded_leaf, Kept}
use Rattle.literals.proofs.TwoChildrenLaws.{TwoChildren, number_le, left_falls, left_room}
use Rattle.literals.proofs.LastChildLaws.{arity_one, last_whole, LastChild, last_one, last_two, last_met}
use Rattle.literals.proofs.+fold_literals.Goals as goal
use Rattle.literals.proofs.+fold_literals.Goals.{After-is_bitwise, After-left, After-right, then-children-eq2, else-children-eq2}

pub overflow_sub-last : goal.overflow_sub-last
overflow_sub-last t c = marks_some c.requires

pub bounds-marks-last : goal.bounds-marks-last
bounds-marks-last t c = omega (arith, marks_some c.requires)

pub constant_value-v-requires : goal.constant_value-v-requires
constant_value-v-requires t c =
    let room = c.requires in
    (whole room, omega (arith, (accepted_root _ _ room.accepted).width_le))

pub put_record-requires : goal.put_record-requires
put_record-requires t c =
    (record_room c.requires, lit< tt)

pub overflow_add-result : goal.overflow_add-result
overflow_add-result t c =
    omega (arith, record_room c.requires)

pub returns-then-is_literal : goal.returns-then-is_literal
returns-then-is_literal t c =
    let room = c.requires in
    folded_literal room (mark_folded _ _ room.marked c.is_literal.ensures c.if-is_literal.true)
    c.constant_value-v.ensures c.put_record.ensures

pub root_arity-children-requires : goal.root_arity-children-requires
root_arity-children-requires t c = span_big c.requires

pub put-requires : goal.put-requires
put-requires t c =
    c.requires.room

pub overflow_add-result-then-children-eq0 : goal.overflow_add-result-then-children-eq0
overflow_add-result-then-children-eq0 t c =
    omega (arith, record_room c.requires)

pub returns-then-children-eq0 : goal.returns-then-children-eq0
returns-then-children-eq0 t c =
    let room = c.requires in
    folded_leaf room (λ i. (c.shared_slice_known-1.given i).fits)
    (mark_folded _ _ room.marked c.is_literal.ensures c.if-is_literal.false)
    (sym c.root_arity-children.ensures ∙ c.if-children-eq0.true) c.put.ensures

pub kind-requires : goal.kind-requires
kind-requires t c =
    span_big c.requires

-- a root that is no literal
kept : (t : ℕ) (c : After-is_bitwise t)
    → Kept c.args.w c.args.t.now c.args.marks.now c.args.at c.args.out.now c.args.below (c.args.below || c.is_bitwise.result)
kept t c =
    let room = c.requires in
    record {
      room = room;
      off = mark_folded _ _ room.marked c.is_literal.ensures c.if-is_literal.false;
      deeper_is =
          ap (λ (x : Bool). c.args.below || x) (c.is_bitwise.ensures ∙ ap is_bitwise c.kind.ensures);
    }

pub number_of-number-requires : goal.number_of-number-requires
number_of-number-requires t c =
    last_whole _ (whole c.requires) c.root_arity-children.ensures c.if-children-eq0.false
    c.cut.ensures.0

-- one that has two children
two_children : (t : ℕ) (c : After-left t)
    → TwoChildren c.args.w c.args.t.now c.args.marks.now c.args.at c.args.out.now c.args.below
    (c.args.below || c.is_bitwise.result) c.left.result.now c.number_of-number.result
two_children t c =
    record {
      kept = kept t (goal.at.After-left t c).After-is_bitwise;
      two = sym c.root_arity-children.ensures ∙ c.if-children-eq2.true;
      number_is = c.number_of-number.ensures ∙ c.cut.ensures.0;
      child = c.left.ensures;
    }

pub slice_bounds-fold_literals-end : goal.slice_bounds-fold_literals-end
slice_bounds-fold_literals-end t c =
    sym (length-take-le _ _ (omega (arith, number_le (two_children t c))))

pub fold_literals-middle-requires : goal.fold_literals-middle-requires
fold_literals-middle-requires t c =
    let two = two_children t (goal.at.fold_literals-middle-requires t c).After-left in
    (omega (arith, left_falls two), left_room two refl)

pub number_of-number-requires-2 : goal.number_of-number-requires-2
number_of-number-requires-2 t c =
    last_whole _ (whole c.requires) c.root_arity-children.ensures c.if-children-eq0.false
    c.cut-2.ensures.0

-- the last child, the left one folded or not there
last_child_lem : (t : ℕ) (c : After-right t)
    → LastChild c.args.w c.args.t.now c.args.marks.now c.args.at c.args.out.now c.args.below
    (c.args.below || c.is_bitwise.result) c.right.result.now c.number_of-number-2.result c.if-children-eq2.out
    c.if-children-eq2.middle
last_child_lem t c =
    let arity = c.root_arity-children.ensures in
    let number_is = c.number_of-number-2.ensures ∙ c.cut-2.ensures.0 in
    elim c.if-children-eq2.branch [
      | then-children-eq2 w ↦ last_met w.out-is w.middle-is
          (last_two
          (record {
            kept = kept t (goal.at.After-right t c).After-is_bitwise;
            two = sym arity ∙ w.if-children-eq2.true;
            number_is = number_is;
            child = w.left.ensures;
          })
          w.fold_literals-middle.ensures c.right.ensures)
      | else-children-eq2 w ↦ last_met w.out-is w.middle-is
          (last_one
          (record {
            kept = kept t (goal.at.After-right t c).After-is_bitwise;
            one = arity_one _ (λ e. c.if-children-eq0.false (arity ∙ e)) (λ e. w.if-children-eq2.false (arity ∙ e));
            number_is = number_is;
            child = c.right.ensures;
          }))
    ]

pub slice_bounds-fold_literals-count : goal.slice_bounds-fold_literals-count
slice_bounds-fold_literals-count t c = (last_child_lem t c).count_le

pub fold_literals-end-requires : goal.fold_literals-end-requires
fold_literals-end-requires t c =
    let last = last_child_lem t (goal.at.fold_literals-end-requires t c).After-right in
    (omega (arith, last.falls), last.room _ _ refl refl)

pub kind-requires-2 : goal.kind-requires-2
kind-requires-2 t c =
    span_big c.requires

pub byte1-requires : goal.byte1-requires
byte1-requires t c =
    span_big c.requires

pub put_root-requires : goal.put_root-requires
put_root-requires t c =
    (last_child_lem t (goal.at.put_root-requires t c).After-right).root _ _ c.fold_literals-end.ensures

pub shape_of-out : goal.shape_of-out
shape_of-out t c =
    omega (arith, (last_child_lem t (goal.at.shape_of-out t c).After-right).long)

pub returns : goal.returns
returns t c =
    (last_child_lem t (goal.at.returns t c).After-right).folded _ _ c.fold_literals-end.ensures _ _
    c.kind-2.ensures c.byte1.ensures _ _ c.put_root.ensures

pub slice_bounds-fold_literals-start : goal.slice_bounds-fold_literals-start
slice_bounds-fold_literals-start t c = (last_child_lem t c).count_le
