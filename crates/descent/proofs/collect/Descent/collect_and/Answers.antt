-- `collect_and` meets its contract: a complement beside something without a variable, or the And as it stands.
use mathlib.Core.Path.{ap, sym, ◌∙◌}
use native.Mathlib.Omega.{arith}
use Rattle.record.specs.Tree.{Tree}
use Rattle.record.specs.Fields.{kind}
use Rattle.expr_refusal.proofs.RefusalLaws.{accepted_big}
use Rattle.normalizer_laws.specs.Collect.{collect_atom, collect_not}
use Rattle.ways.proofs.SpanOfLaws.{span_end, kind_read}
use Rattle.ways.proofs.InnerLaws.{not_inner, not_root, not_operand, other_root}
use Rattle.descent.proofs.AndSideLaws.{and_variable, side_at, side_value_lt, and_no_side}
use Rattle.descent.proofs.AndSideLaws.{and_plain_side, and_not_side, and_binary}
use Rattle.descent.proofs.PushLaws.{atom_push, not_push}
use Rattle.descent.proofs.CollectsLaws.{collects_as}
use Rattle.descent.proofs.collect.Descent.collect_and.Goals as goal

pub side_of-requires : goal.side_of-requires
side_of-requires c = (c.requires.0.spot, c.requires.0.ready.width, and_binary _ c.requires.1)

pub returns-in_default : goal.returns-in_default
returns-in_default c =
    let none = c.in_default.ensures in
    collects_as
    (and_no_side _ _ _ _ c.requires.0.some none.0 none.1 ∙ ap (collect_atom c.args.x.coeff) (sym c.requires.1))
    (atom_push _ _ _ _ _ _ c.requires.0.ready _ _ _ c.requires.0.spot.span c.push_spot.ensures)

pub span_of-requires : goal.span_of-requires
span_of-requires c =
    let side = side_at _ _ _ _ _ _ c.in-Some.ensures in
    (side.span.rising, side.span.inside)

pub kind-requires : goal.kind-requires
kind-requires c =
    let side = side_at _ _ _ _ _ _ c.in-Some.ensures in
    rw c.span_of.ensures (accepted_big _ _ side.span.tree)

pub returns-then-kind : goal.returns-then-kind
returns-then-kind c =
    let of = c.in-Some.ensures in
    let kinds = c.kind.ensures ∙ ap kind c.span_of.ensures in
    collects_as
    (and_plain_side _ _ _ _ _ _ of _ c.requires.0.some
    (other_root (side_at _ _ _ _ _ _ of).span (λ e. c.if-kind.true (kinds ∙ e)))
    ∙ ap (collect_atom c.args.x.coeff) (sym c.requires.1))
    (atom_push _ _ _ _ _ _ c.requires.0.ready _ _ _ c.requires.0.spot.span
    c.push_spot-then-kind.ensures)

pub overflow_sub-end : goal.overflow_sub-end
overflow_sub-end c = omega (arith, span_end (side_at _ _ _ _ _ _ c.in-Some.ensures).span)

pub returns : goal.returns
returns c =
    let of = c.in-Some.ensures in
    let span = (side_at _ _ _ _ _ _ of).span in
    let seven = kind_read c.span_of.ensures c.kind.ensures c.if-kind.false in
    collects_as
    (and_not_side _ _ _ _ _ _ of _ c.requires.0.some (not_root span seven)
    (and_variable _ c.requires.1 c.requires.0.variable)
    ∙ ap
    (λ (t : Tree). collect_not c.args.w c.args.x.coeff t c.in-Some.side.value)
    (not_operand span seven))
    (not_push _ _ _ _ _ _ c.requires.0.ready _ _ _ (not_inner span seven) _ (side_value_lt _ _ _ _ _ _ of)
    c.collect_not.ensures)
