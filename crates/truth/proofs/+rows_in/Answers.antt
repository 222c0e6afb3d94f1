-- `rows_in` meets its contract: the loop keeps that the rows of t are those of s, complemented or as they are; at a
-- root without children and at one with two the law of the rows there. A child's rows are those of a leaf or of a call.
use Rattle.record.proofs.SizedLaws.{sized_big}
use Rattle.record.proofs.DecodeLaws.{decode_two, child_body, child_left, child_right}
use Rattle.record.specs.Fields.{size}
use Rattle.record.specs.Span.{body, sized}
use Rattle.truth.proofs.RowsLaws.{rows_join}
use Rattle.truth.proofs.PassedLaws.{rows_of, rows_leaf}
use Rattle.truth.proofs.PassedLaws.{passed_none, passed_not, passed_shift, passed_past}
use mathlib.Core.Path.{◌≡◌, refl, sym, ◌∙◌}
use mathlib.Core.Bool.{true}
use lib.ListN.{length, length-take}
use native.Mathlib.Omega.{arith}
use borrow.Author.Rules.{rules}
use Prim.Native.Nat.{ℕ, ◌-◌, ◌<◌}
use Rattle.truth.proofs.+rows_in.Goals as goal
use Rattle.truth.proofs.+rows_in.Goals.{After-right-r, Joined-root_arity-eq0, Joined-root_arity-eq0-2}
use Rattle.truth.proofs.+rows_in.Goals.{then-root_arity-eq0, else-root_arity-eq0, then-root_arity-eq0-2}
use Rattle.truth.proofs.+rows_in.Goals.{else-root_arity-eq0-2, then-k, else-k+else-here-source}

pub loop-s-init : goal.loop-s-init
loop-s-init t c = passed_none _ _ _ (omega arith) c.requires

pub root_arity-children-requires : goal.root_arity-children-requires
root_arity-children-requires t c = sized_big _ c.loop-s.invariant.ok

pub leaf_rows-requires : goal.leaf_rows-requires
leaf_rows-requires t c = sized_big _ c.loop-s.invariant.ok

pub returns-then-children-eq0 : goal.returns-then-children-eq0
returns-then-children-eq0 t c =
    c.complement.ensures
    ∙ c.loop-s.invariant.rows
    (rows_leaf _ _ _ c.loop-s.invariant.ok c.root_arity-children.ensures c.if-children-eq0.true
    c.leaf_rows.ensures)

pub kind-k-requires : goal.kind-k-requires
kind-k-requires t c = sized_big _ c.loop-s.invariant.ok

-- the spans of the children: sizes fall, and size fields are right
left_child : (t : ℕ) (c : After-right-r t)
    → (size c.left-l.result.now < t) × (sized c.left-l.result.now ≡ true)
left_child t c =
    let r =
    child_left _ c.loop-s.invariant.ok c.root_arity-children.ensures c.if-children-eq0.false c.if-children-ne1.true
    c.left-l.ensures in
    (omega (arith, r.falls, c.loop-s.invariant.falls), r.ok)

right_child : (t : ℕ) (c : After-right-r t)
    → (size c.right-r.result.now < t) × (sized c.right-r.result.now ≡ true)
right_child t c =
    let r =
    child_right _ c.loop-s.invariant.ok c.root_arity-children.ensures c.if-children-eq0.false c.if-children-ne1.true
    c.right-r.ensures in
    (omega (arith, r.falls, c.loop-s.invariant.falls), r.ok)

pub root_arity-requires : goal.root_arity-requires
root_arity-requires t c = sized_big _ (right_child t c).1

pub leaf_rows-y-requires : goal.leaf_rows-y-requires
leaf_rows-y-requires t c = sized_big _ (right_child t (goal.at.leaf_rows-y-requires t c).After-right-r).1

pub rows_in-y-requires : goal.rows_in-y-requires
rows_in-y-requires t c = right_child t (goal.at.rows_in-y-requires t c).After-right-r

-- the rows of the children
right_rows : (t : ℕ) (c : Joined-root_arity-eq0 t)
    → c.if-root_arity-eq0.y ≡ rows_of c.args.vars.now c.right-r.result.now c.loop-s.here
right_rows t c =
    elim c.if-root_arity-eq0.branch [
      | then-root_arity-eq0 w ↦ w.y-is
          ∙ rows_leaf _ _ _ (right_child t (goal.at.Joined-root_arity-eq0 t c).After-right-r).1 c.root_arity.ensures w.if-root_arity-eq0.true
          w.leaf_rows-y.ensures
      | else-root_arity-eq0 w ↦ w.y-is ∙ w.rows_in-y.ensures
    ]

pub root_arity-requires-then-children-ne1 : goal.root_arity-requires-then-children-ne1
root_arity-requires-then-children-ne1 t c = sized_big _ (left_child t (goal.at.root_arity-requires-then-children-ne1 t c).After-right-r).1

pub leaf_rows-x-requires : goal.leaf_rows-x-requires
leaf_rows-x-requires t c = sized_big _ (left_child t (goal.at.leaf_rows-x-requires t c).After-right-r).1

pub rows_in-x-requires : goal.rows_in-x-requires
rows_in-x-requires t c = left_child t (goal.at.rows_in-x-requires t c).After-right-r

left_rows : (t : ℕ) (c : Joined-root_arity-eq0-2 t)
    → c.if-root_arity-eq0-2.x ≡ rows_of c.args.vars.now c.left-l.result.now c.loop-s.here
left_rows t c =
    elim c.if-root_arity-eq0-2.branch [
      | then-root_arity-eq0-2 w ↦ w.x-is
          ∙ rows_leaf _ _ _ (left_child t (goal.at.Joined-root_arity-eq0-2 t c).After-right-r).1 c.root_arity-then-children-ne1.ensures
          w.if-root_arity-eq0-2.true w.leaf_rows-x.ensures
      | else-root_arity-eq0-2 w ↦ w.x-is ∙ w.rows_in-x.ensures
    ]

pub returns-then-children-ne1 : goal.returns-then-children-ne1
returns-then-children-ne1 t c =
    c.complement-then-children-ne1.ensures
    ∙ c.loop-s.invariant.rows
    (rw (
      decode_two _ c.loop-s.invariant.ok c.root_arity-children.ensures c.if-children-eq0.false c.if-children-ne1.true
          c.left-l.ensures c.right-r.ensures,
      ← c.kind-k.ensures,
    )
    (rows_join 64 _ _ _ _ _ _
    (left_rows t (goal.at.returns-then-children-ne1 t c).Joined-root_arity-eq0-2)
    (right_rows t (goal.at.returns-then-children-ne1 t c).Joined-root_arity-eq0) c.join_rows.result
    (search rules) c.join_rows.ensures))

pub amount-a-requires : goal.amount-a-requires
amount-a-requires t c = sized_big _ c.loop-s.invariant.ok

pub overflow_add-source : goal.overflow_add-source
overflow_add-source t c = omega (arith, c.amount-a.ensures.1)

pub returns-then-here-source : goal.returns-then-here-source
returns-then-here-source t c =
    c.complement-then-here-source.ensures
    ∙ passed_past c.loop-s.invariant c.root_arity-children.ensures c.if-children-ne1.false
    (λ e. c.if-k.false (c.kind-k.ensures ∙ e)) (omega (arith, c.amount-a.ensures.0))

pub overflow_add-here : goal.overflow_add-here
overflow_add-here t c = omega (arith, c.loop-s.invariant.fits)

pub overflow_sub-end : goal.overflow_sub-end
overflow_sub-end t c = sized_big _ c.loop-s.invariant.ok

pub slice_bounds-s-end : goal.slice_bounds-s-end
slice_bounds-s-end t c =
    let s = c.loop-s.s.now in
    omega (arith, length-take (length s - 16) s)

pub loop-s-smaller : goal.loop-s-smaller
unfolding body
loop-s-smaller t c =
    (child_body _ c.loop-s.invariant.ok c.root_arity-children.ensures c.if-children-ne1.false refl).falls

pub loop-s-preserved : goal.loop-s-preserved
unfolding body
loop-s-preserved t c =
    let passed = c.loop-s.invariant in
    let arity_is = c.root_arity-children.ensures in
    let one = c.if-children-ne1.false in
    elim c.if-k.branch [
      | then-k w ↦ rw (w.here-is, w.flip-is) (passed_not passed arity_is one (sym c.kind-k.ensures ∙ w.if-k.true) refl)
      | else-k+else-here-source w ↦ rw (w.here-is, w.flip-is)
          (passed_shift passed arity_is one (λ e. w.if-k.false (c.kind-k.ensures ∙ e)) _ w.amount-a.ensures.0
          (omega (arith, w.if-here-source.false)) refl)
    ]
