-- `copy_terms` meets its contract: the loop keeps that the terms so far are put, numbered from 0.
use Rattle.compaction.proofs.RenumberLaws.{Renumbered}
use Rattle.compaction.proofs.copy_terms.Given as goal

abbrev pub invariant-loop-term : goal.invariant-loop-term
invariant-loop-term l = Renumbered l.w l.to l.q l.initial.out l.x l.out l.term-iterator
