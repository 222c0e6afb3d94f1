-- `collect_terms` meets its contract: the loop keeps that what is collected at the spot where it stands makes up all
-- that is collected at the first one; each way on is a smaller spot of the file.
use Rattle.record.specs.Fields.{size}
use Rattle.ways.specs.Spans.{span_of}
use Rattle.descent.proofs.WayDownLaws.{Going}
use Rattle.descent.proofs.collect.Descent.+collect_terms.Given as goal

abbrev pub decreases-collect_terms : goal.decreases-collect_terms
decreases-collect_terms l = size (span_of l.file.now l.x.start l.x.end)

abbrev pub invariant-loop-spots : goal.invariant-loop-spots
invariant-loop-spots l =
    Going l.nots l.w l.file l.initial.here l.initial.spots l.initial.done l.seen l.here l.spots l.done

abbrev pub decreases-loop-spots : goal.decreases-loop-spots
decreases-loop-spots l =
    size (span_of l.file l.here.start l.here.end)
