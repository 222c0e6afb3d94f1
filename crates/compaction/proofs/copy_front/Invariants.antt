-- `copy_front` meets its contract: the loop keeps that the atoms so far that have a term are put.
use Rattle.compaction.proofs.CopyLaws.{Copied}
use Rattle.compaction.proofs.copy_front.Given as goal

abbrev pub invariant-loop-row : goal.invariant-loop-row
invariant-loop-row l = Copied l.w l.f l.to l.out l.row-iterator
