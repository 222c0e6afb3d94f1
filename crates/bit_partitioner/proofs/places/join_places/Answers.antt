-- `join_places` meets its contract: the loop keeps that the places below p are in their classes.
use mathlib.Core.Path.{refl, ◌∙◌}
use native.Mathlib.Omega.{arith}
use Rattle.bit_partitioner.proofs.PlacesLaws.{placed_none}
use Rattle.bit_partitioner.proofs.places.join_places.Goals as goal

pub loop-p-init : goal.loop-p-init
loop-p-init c = (placed_none _ _ _ _ c.requires.1 c.requires.2, refl)

pub join_place-x-requires : goal.join_place-x-requires
join_place-x-requires c =
    let inv = c.loop-p.invariant in
    let pre = c.requires in (
      record {
        indexed = pre.0.indexed;
        some = pre.0.some;
        width_le = pre.0.width_le;
        room = omega (arith, inv.0.long, pre.1, pre.0.room, inv.1);
      },
      inv.0,
      c.loop-p-test.true,
    )

pub loop-p-preserved : goal.loop-p-preserved
loop-p-preserved c =
    let r = c.join_place-x.ensures in
    (r.placed, r.long ∙ c.loop-p.invariant.1)
