-- `collect_whole` meets its contract: by the root's mark and kind.
use mathlib.Core.Path.{sym, ◌∙◌}
use native.Mathlib.Omega.{arith}
use Rattle.expr_refusal.proofs.RefusalLaws.{accepted_big}
use Rattle.ways.specs.Spans.{span_of}
use Rattle.ways.proofs.SideLaws.{spot_some, spot_arith}
use Rattle.descent.proofs.WholeLaws.{whole_nonlinear, whole_and, whole_atom, is_and, other_kind}
use Rattle.descent.proofs.PushLaws.{atom_push}
use Rattle.descent.proofs.CollectsLaws.{collects_as, collects_nonlinear}
use Rattle.descent.proofs.collect.Descent.collect_whole.Goals as goal

pub kind-requires : goal.kind-requires
unfolding span_of
kind-requires c =
    accepted_big _ _ c.requires.spot.span.tree

pub overflow_sub-marks : goal.overflow_sub-marks
overflow_sub-marks c =
    spot_some c.requires.spot

pub bounds-marks-marks : goal.bounds-marks-marks
bounds-marks-marks c =
    omega (arith, spot_some c.requires.spot)

pub returns-then-has_arith : goal.returns-then-has_arith
returns-then-has_arith c =
    collects_as
    (whole_nonlinear _ _ _ (spot_arith c.requires.spot c.has_arith.ensures c.if-has_arith.true))
    (collects_nonlinear _ _ _ _ _ c.requires.ready)

pub collect_and-requires : goal.collect_and-requires
unfolding span_of
collect_and-requires c = (
  c.requires,
  is_and _ (accepted_big _ _ c.requires.spot.span.tree)
      (sym c.kind.ensures ∙ c.if-kind.true),
)

pub returns-then-kind : goal.returns-then-kind
unfolding span_of
returns-then-kind c =
    collects_as
    (whole_and _ _ _ (spot_arith c.requires.spot c.has_arith.ensures c.if-has_arith.false)
    (is_and _ (accepted_big _ _ c.requires.spot.span.tree) (sym c.kind.ensures ∙ c.if-kind.true)))
    c.collect_and.ensures

pub returns : goal.returns
unfolding span_of
returns c =
    collects_as
    (whole_atom _ _ _ (spot_arith c.requires.spot c.has_arith.ensures c.if-has_arith.false)
    (other_kind _ (accepted_big _ _ c.requires.spot.span.tree)
    (λ e. c.if-kind.false (c.kind.ensures ∙ e))))
    (atom_push _ _ _ _ _ _ c.requires.ready _ _ _ c.requires.spot.span c.push_spot.ensures)
