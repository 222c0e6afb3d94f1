-- `copy_terms` meets its contract: the loop keeps that the terms so far are put, numbered from 0.
use Rattle.compaction.proofs.RenumberLaws.{renumbered_start, renumbered_term, renumbered_end, term_room}
use Rattle.compaction.proofs.copy_terms.Goals as goal

pub loop-term-init : goal.loop-term-init
loop-term-init c =
    rw (c.into_iter-term-iterator.ensures.into_iter_gives, c.of-term-items.ensures)
    (renumbered_start _ _ _ _ c.requires.0)

pub put_term-requires : goal.put_term-requires
put_term-requires c =
    let p = term_room _ _ _ _ c.requires.0 _ _ c.loop-term.invariant c.in-Some.ensures.steps in
    (p.0, p.1 c.requires.1)

pub loop-term-preserved : goal.loop-term-preserved
loop-term-preserved c =
    renumbered_term _ _ _ _ c.requires.0 _ _ c.loop-term.invariant c.in-Some.ensures.steps _ c.put_term.ensures

pub returns : goal.returns
returns c = renumbered_end _ _ _ _ c.requires.0 _ _ c.loop-term.invariant c.in-None.ensures.steps.0
