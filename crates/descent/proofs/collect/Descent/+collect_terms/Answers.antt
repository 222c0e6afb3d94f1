-- `collect_terms` meets its contract: the loop keeps that what is collected at the spot where it stands makes up all
-- that is collected at the first one; each way on is a smaller spot of the file.
use mathlib.Core.Path.{refl, ap, ◌∙◌}
use native.Mathlib.Omega.{arith}
use Rattle.record.specs.Fields.{kind}
use Rattle.ways.specs.Spans.{span_of}
use Rattle.ways.proofs.SpanOfLaws.{span_big, kind_read}
use Rattle.ways.proofs.SideLaws.{spot_places}
use Rattle.descent.proofs.DescentLaws.{down_spot, down_falls, down_ready}
use Rattle.descent.proofs.AddLaws.{down_right}
use Rattle.ways.proofs.TwoSidesLaws.{add_sides}
use Rattle.descent.proofs.WayDownLaws.{first_down, first_stop, first_literal, first_masked}
use Rattle.descent.proofs.WayDownLaws.{going_child, going_right, ends_as}
use Rattle.descent.proofs.CollectsLaws.{collects_as}
use Rattle.descent.proofs.collect.Descent.+collect_terms.Goals as goal

pub returns-in-End : goal.returns-in-End
returns-in-End t c =
    let going = c.loop-spots.invariant in
    going.rest (collects_as (ends_as _ _ _ _ c.in-End.ensures) c.collect_end.ensures)

pub loop-spots-smaller-in-Child : goal.loop-spots-smaller-in-Child
loop-spots-smaller-in-Child t c =
    let goes = c.in-Child.ensures.2 in
    down_falls c.loop-spots.invariant.at (record { side = goes.side; smaller = goes.smaller })
    c.side_spot-here.ensures

pub loop-spots-preserved-in-Child : goal.loop-spots-preserved-in-Child
unfolding span_of
loop-spots-preserved-in-Child t c =
    going_child c.loop-spots.invariant c.in-Child.ensures.2 c.side_spot-here.ensures c.turn-done.ensures refl

pub slice_bounds-collect_terms-count : goal.slice_bounds-collect_terms-count
slice_bounds-collect_terms-count t c =
    (first_down c.loop-spots.invariant.at c.in-Both.ensures).side.from_le

pub slice_bounds-collect_terms-start : goal.slice_bounds-collect_terms-start
slice_bounds-collect_terms-start t c =
    (first_down c.loop-spots.invariant.at c.in-Both.ensures).side.from_le

pub slice_bounds-collect_terms-end : goal.slice_bounds-collect_terms-end
slice_bounds-collect_terms-end t c =
    (first_down c.loop-spots.invariant.at c.in-Both.ensures).side.to_le

pub collect_terms-requires : goal.collect_terms-requires
unfolding span_of
collect_terms-requires t c =
    let going = c.loop-spots.invariant in
    let down = first_down going.at c.in-Both.ensures in
    let spot = c.side_spot-next.ensures in (
      omega (arith, down_falls going.at down spot, going.falls),
      (down_spot going.at down spot refl, down_ready going.at down spot going.ready),
    )

pub returns-in_err-done : goal.returns-in_err-done
returns-in_err-done t c =
    let going = c.loop-spots.invariant in
    let stops = first_stop going.at c.in-Both.ensures going.ready.width c.side_spot-next.ensures c.in_err-done.ensures in
    rw c.from_residual.ensures (going.rest stops)

pub kind-k-requires : goal.kind-k-requires
kind-k-requires t c =
    let going = c.loop-spots.invariant in
    rw c.span_of.ensures (span_big going.at.span)

pub collect_masked-requires : goal.collect_masked-requires
collect_masked-requires t c =
    let going = c.loop-spots.invariant in
    let kinds = c.kind-k.ensures ∙ ap kind c.span_of.ensures in
    first_literal going.at c.in-Both.ensures going.ready.width c.side_spot-next.ensures c.in_ok-done.ensures
    (λ e. c.if-k.true (kinds ∙ e)) going.ready

pub returns-then-k : goal.returns-then-k
returns-then-k t c =
    let going = c.loop-spots.invariant in
    let kinds = c.kind-k.ensures ∙ ap kind c.span_of.ensures in
    going.rest
    (first_masked going.at c.in-Both.ensures going.ready.width c.side_spot-next.ensures c.in_ok-done.ensures
    (λ e. c.if-k.true (kinds ∙ e)) kinds c.collect_masked.ensures)

pub right_side-right-requires : goal.right_side-right-requires
right_side-right-requires t c =
    let going = c.loop-spots.invariant in
    let two = kind_read c.span_of.ensures c.kind-k.ensures c.if-k.false in
    (add_sides going.at two, spot_places going.at)

pub slice_bounds-seen-count-in-loop-spots : goal.slice_bounds-seen-count-in-loop-spots
slice_bounds-seen-count-in-loop-spots t c =
    let going = c.loop-spots.invariant in
    let two = kind_read c.span_of.ensures c.kind-k.ensures c.if-k.false in
    (down_right going.at two c.right_side-right.ensures.0).side.from_le

pub slice_bounds-seen-start-in-loop-spots : goal.slice_bounds-seen-start-in-loop-spots
slice_bounds-seen-start-in-loop-spots t c =
    let going = c.loop-spots.invariant in
    let two = kind_read c.span_of.ensures c.kind-k.ensures c.if-k.false in
    (down_right going.at two c.right_side-right.ensures.0).side.from_le

pub slice_bounds-seen-end-in-loop-spots : goal.slice_bounds-seen-end-in-loop-spots
slice_bounds-seen-end-in-loop-spots t c =
    let going = c.loop-spots.invariant in
    let two = kind_read c.span_of.ensures c.kind-k.ensures c.if-k.false in
    (down_right going.at two c.right_side-right.ensures.0).side.to_le

pub loop-spots-smaller : goal.loop-spots-smaller
loop-spots-smaller t c =
    let going = c.loop-spots.invariant in
    let two = kind_read c.span_of.ensures c.kind-k.ensures c.if-k.false in
    let right = down_right going.at two c.right_side-right.ensures.0 in
    down_falls going.at right c.side_spot-here-in-loop-spots.ensures

pub loop-spots-preserved : goal.loop-spots-preserved
unfolding span_of
loop-spots-preserved t c =
    let two = kind_read c.span_of.ensures c.kind-k.ensures c.if-k.false in
    going_right c.loop-spots.invariant c.in-Both.ensures c.side_spot-next.ensures two c.in_ok-done.ensures
    c.right_side-right.ensures.0 c.side_spot-here-in-loop-spots.ensures refl
