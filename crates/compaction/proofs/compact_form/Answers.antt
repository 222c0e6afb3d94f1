-- `compact_form` meets its contract: the copied rows and the sum record are the bytes of the compacted form.
use Rattle.atom_table.proofs.PassLaws.{semilinear_front}
use Rattle.compaction.proofs.CompactedLaws.{sum_room, compacted}
use Rattle.semilinear.proofs.ValidLaws.{semilinear_parts}
use mathlib.Core.Path.{ap}
use native.Mathlib.Omega.{arith}
use lib.ListN.{length}
use Rattle.record.proofs.SpanLaws.{length_body}
use Rattle.compaction.proofs.compact_form.Goals as goal

pub width-w-requires : goal.width-w-requires
width-w-requires c =
    (semilinear_parts _ c.requires.0).0.big

pub literal-constant-requires : goal.literal-constant-requires
literal-constant-requires c =
    (semilinear_parts _ c.requires.0).0.big

pub copy_front-copied-requires : goal.copy_front-copied-requires
copy_front-copied-requires c = (
  rw (c.width-w.ensures, c.body.ensures) (semilinear_front _ c.requires.0),
  omega (arith, ap length c.body.ensures, length_body c.args.s.now, c.requires.1),
  c.requires.2,
)

pub put_sum-requires : goal.put_sum-requires
put_sum-requires c =
    let p =
    sum_room c.args.s.now (λ i. (c.type_inv.s i).fits)
    c.requires.0 c.width-w.ensures c.body.ensures _
    c.copy_front-copied.result c.copy_front-copied.ensures in
    omega (arith, p.0, p.1)

pub overflow_add-result : goal.overflow_add-result
overflow_add-result c =
    omega (
      arith,
      (sum_room c.args.s.now (λ i. (c.type_inv.s i).fits)
          c.requires.0 c.width-w.ensures c.body.ensures _
          c.copy_front-copied.result c.copy_front-copied.ensures).0,
    )

pub returns : goal.returns
returns c =
    compacted c.args.s.now c.width-w.ensures c.literal-constant.ensures
    c.body.ensures _ _ c.copy_front-copied.result
    c.copy_front-copied.ensures c.put_sum.ensures
