-- `partition_atoms` meets its contract: the index, and then the places.
use mathlib.Core.Path.{sym, ◌∙◌}
use native.Mathlib.Omega.{arith}
use Rattle.profile.proofs.IndexLaws.{trees_count}
use Rattle.bit_partitioner.proofs.places.partition_atoms.Goals as goal

pub join_places-requires : goal.join_places-requires
join_places-requires c =
    let pre = c.requires in
    let count = trees_count c.args.f.now in (
      record {
        indexed = c.put_index-edges.ensures;
        some = omega (arith, count, pre.some);
        width_le = pre.width_le;
        room = rw pre.long pre.room;
      },
      pre.long ∙ sym count,
      pre.zeros,
    )
