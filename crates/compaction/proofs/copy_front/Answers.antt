-- `copy_front` meets its contract: the loop keeps that the atoms so far that have a term are put.
use mathlib.Core.Path.{sym, ◌∙◌}
use Rattle.semilinear.proofs.ValidLaws.{front_parts}
use Rattle.compaction.proofs.CopyLaws.{copied_start, copied_ready, copied_with, copied_without, terms_room}
use Rattle.compaction.proofs.CopyLaws.{copied_front}
use Rattle.compaction.proofs.copy_front.Goals as goal

pub loop-row-init : goal.loop-row-init
loop-row-init c =
    rw (c.into_iter-row-iterator.ensures.into_iter_gives, c.of-row-items.ensures)
    (copied_start c.args.w c.args.f.now c.requires.1 (λ i. (c.type_inv.f i).fits)
    (front_parts c.args.w c.args.f.now c.requires.0) _ c.terms_at-terms.ensures _ c.requires.2)

pub put_atom-requires : goal.put_atom-requires
put_atom-requires c =
    copied_ready _ _ c.requires.1 _ _ c.loop-row.invariant c.in-Some.ensures.steps

pub loop-row-preserved-then-is_some : goal.loop-row-preserved-then-is_some
loop-row-preserved-then-is_some c =
    rw c.len-to.ensures
    (copied_with _ _ c.requires.1 _ _ c.loop-row.invariant c.in-Some.ensures.steps
    (sym c.is_some.ensures ∙ c.if-is_some.true) _ c.put_atom.ensures)

pub loop-row-preserved : goal.loop-row-preserved
loop-row-preserved c =
    copied_without _ _ c.requires.1 _ _ c.loop-row.invariant c.in-Some.ensures.steps
    (sym c.is_some.ensures ∙ c.if-is_some.false)

pub copy_terms-requires : goal.copy_terms-requires
copy_terms-requires c =
    terms_room _ _ c.requires.1 _ _ _ c.loop-row.invariant c.in-None.ensures.steps.0 _ c.terms_at-terms.ensures
    c.rest_from.ensures

pub returns : goal.returns
returns c =
    copied_front _ _ c.requires.1 _ _ _ c.loop-row.invariant c.in-None.ensures.steps.0
    (front_parts c.args.w c.args.f.now c.requires.0) _ c.terms_at-terms.ensures c.rest_from.ensures _ _
    c.copy_terms.ensures
