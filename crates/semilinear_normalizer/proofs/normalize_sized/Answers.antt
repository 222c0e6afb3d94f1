-- `normalize_sized` meets its contract: its arrays have room for so many records.
use native.Mathlib.Omega.{arith}
use Rattle.semilinear_normalizer.proofs.WholeTreeLaws.{size_room}
use Rattle.semilinear_normalizer.proofs.normalize_sized.Goals as goal

pub normalize_tree-requires : goal.normalize_tree-requires
normalize_tree-requires g c =
    let given = c.requires in
    let sizes = given.3 in
    let room = size_room _ g.row.R _ given.0 (omega (arith, given.1)) in
    record {
      accepted = given.0;
      marked = omega (arith, room);
      collected = omega (arith, room);
      built = omega (arith, given.1, sizes.bytes);
      long = omega (arith, given.1, sizes.few);
      entries = omega (arith, room, sizes.table);
      written = given.2;
    }
