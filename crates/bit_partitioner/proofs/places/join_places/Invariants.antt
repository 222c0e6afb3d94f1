-- `join_places` meets its contract: the loop keeps that the places below p are in their classes.
use mathlib.Core.Path.{◌≡◌}
use lib.ListN.{length}
use Rattle.bit_partitioner.specs.Places.{PlacesJoined}
use Rattle.bit_partitioner.proofs.places.join_places.Given as goal

abbrev pub invariant-loop-p : goal.invariant-loop-p
invariant-loop-p l =
    PlacesJoined l.f l.w l.x l.p l.profile l.out × (length l.out ≡ length l.initial.out)
