-- `put_index` meets its contract: the loop keeps that the facts of the first i atoms stand in the index.
use mathlib.Core.Path.{◌≡◌}
use lib.ListN.{length}
use Rattle.profile.proofs.IndexLaws.{Indexing}
use Rattle.profile.proofs.index.put_index.Given as goal

abbrev pub invariant-loop-atom : goal.invariant-loop-atom
invariant-loop-atom l =
    Indexing l.f l.index l.edges l.at l.i l.atom-iterator × (length l.index ≡ length l.initial.index)
