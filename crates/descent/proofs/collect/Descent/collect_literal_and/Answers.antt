-- `collect_literal_and` meets its contract: nothing under the coefficient 0, else one atom.
use mathlib.Core.Path.{sym, ◌∙◌}
use native.Mathlib.Omega.{arith}
use borrow.Author.Tests.{ne_eqb}
use Rattle.expr_refusal.proofs.RefusalLaws.{accepted_big}
use Rattle.ways.specs.Spans.{span_of}
use Rattle.ways.proofs.SpanOfLaws.{span_end}
use Rattle.descent.proofs.PushLaws.{literal_and_zero, literal_and_plain, literal_and_not}
use Rattle.descent.proofs.collect.Descent.collect_literal_and.Goals as goal

pub returns-then-x-eq0 : goal.returns-then-x-eq0
returns-then-x-eq0 c =
    literal_and_zero _ _ _ _ c.requires.ready _ _ _ c.if-x-eq0.true

pub kind-requires : goal.kind-requires
unfolding span_of
kind-requires c =
    accepted_big _ _ c.requires.span.tree

pub returns-then-kind : goal.returns-then-kind
unfolding span_of
returns-then-kind c =
    literal_and_plain _ _ _ _ _ _ c.requires.ready _ _ _ _ c.requires.span c.requires.value_lt
    (ne_eqb _ 0 c.if-x-eq0.false)
    (λ e. c.if-kind.true (c.kind.ensures ∙ e)) c.push_spot.ensures

pub overflow_sub-end : goal.overflow_sub-end
overflow_sub-end c =
    omega (arith, span_end c.requires.span)

pub returns : goal.returns
unfolding span_of
returns c =
    literal_and_not _ _ _ _ _ _ c.requires.ready _ _ _ _ c.requires.span c.requires.value_lt
    (ne_eqb _ 0 c.if-x-eq0.false) (sym c.kind.ensures ∙ c.if-kind.false)
    c.requires.variable c.collect_not.ensures
