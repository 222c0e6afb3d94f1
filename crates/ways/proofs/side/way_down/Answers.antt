-- `way_down` meets its contract: no way, the left side of an Add, or the way of another root.
use mathlib.Core.Path.{refl, ap, sym, ◌∙◌}
use native.Mathlib.Omega.{arith}
use borrow.Author.Tests.{eqb-false, ne_eqb}
use Rattle.record.specs.Fields.{kind}
use Rattle.base.proofs.BoolLaws.{false_true}
use Rattle.ways.specs.Sides.{FirstOf}
use Rattle.ways.proofs.SpanOfLaws.{span_big, kind_read}
use Rattle.ways.proofs.SideLaws.{spot_some, spot_variable}
use Rattle.ways.proofs.TwoSidesLaws.{add_sides}
use Rattle.ways.proofs.WayLaws.{way_other}
use Rattle.ways.proofs.side.way_down.Goals as goal
use Rattle.ways.proofs.side.way_down.Goals.{then-x-eq0-via-then-x-eq0, then-x-eq0-via-else-x-eq0+then-not-has_variable}

pub returns-then-x-eq0 : goal.returns-then-x-eq0
returns-then-x-eq0 c =
    elim c.then-x-eq0.branch [
      | then-x-eq0-via-then-x-eq0 w ↦ λ some _. absurd (eqb-false _ 0 some w.if-x-eq0.true)
      | then-x-eq0-via-else-x-eq0+then-not-has_variable w ↦
          λ _ some.
          false_true
          (sym (spot_variable c.requires.0 w.has_variable.ensures w.if-not-has_variable.true) ∙ some)
    ]

pub overflow_sub-marks : goal.overflow_sub-marks
overflow_sub-marks c = spot_some c.requires.0

pub bounds-marks-marks : goal.bounds-marks-marks
bounds-marks-marks c = omega (arith, spot_some c.requires.0)

pub kind-requires : goal.kind-requires
kind-requires c =
    rw c.span_of.ensures (span_big c.requires.0.span)

pub left_side-requires : goal.left_side-requires
left_side-requires c =
    let two = kind_read c.span_of.ensures c.kind.ensures c.if-kind.true in
    add_sides c.requires.0 two

pub returns-then-kind : goal.returns-then-kind
returns-then-kind c =
    FirstOf.sum (kind_read c.span_of.ensures c.kind.ensures c.if-kind.true)
    (record {
      some = ne_eqb _ 0 c.if-x-eq0.false;
      variable = spot_variable c.requires.0 c.has_variable.ensures c.if-not-has_variable.false;
    })
    c.left_side.ensures.0 c.left_side.ensures.1

pub way_on-requires : goal.way_on-requires
way_on-requires c =
    let at = c.requires.0 in
    let variable = spot_variable at c.has_variable.ensures c.if-not-has_variable.false in
    let kinds = c.kind.ensures ∙ ap kind c.span_of.ensures in
    let some = ne_eqb _ 0 c.if-x-eq0.false in
    record {
      spot = at;
      width_le = c.requires.1;
      some = some;
      variable = variable;
      kind_is = refl;
      no_add = ne_eqb _ 2 (λ e. c.if-kind.false (kinds ∙ e));
    }

pub returns : goal.returns
returns c =
    let kinds = c.kind.ensures ∙ ap kind c.span_of.ensures in
    way_other _ _ _ c.way_on.result (ne_eqb _ 2 (λ e. c.if-kind.false (kinds ∙ e)))
    (record {
      some = ne_eqb _ 0 c.if-x-eq0.false;
      variable = spot_variable c.requires.0 c.has_variable.ensures c.if-not-has_variable.false;
    })
    c.way_on.ensures
