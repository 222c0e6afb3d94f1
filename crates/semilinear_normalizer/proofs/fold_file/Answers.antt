-- `fold_file` meets its contract: the marks are those of the file, and what stands up to the end is the folded tree.
use mathlib.Core.Path.{sym}
use native.Mathlib.Omega.{arith}
use lib.Seq.{length-take-le}
use Rattle.expr_refusal.proofs.RefusalLaws.{accepted_big, sized_accepted}
use Rattle.semilinear_normalizer.proofs.RulesLaws.{whole_marks, copied}
use Rattle.semilinear_normalizer.proofs.fold_file.Goals as goal

pub mark_traits-requires : goal.mark_traits-requires
mark_traits-requires c =
    let room = c.requires in
    record { whole = sized_accepted _ _ room.accepted; room = omega (arith, room.marked) }

pub size-n-requires : goal.size-n-requires
size-n-requires c = accepted_big _ _ c.requires.accepted

pub slice_bounds-fold_literals-end-2 : goal.slice_bounds-fold_literals-end-2
slice_bounds-fold_literals-end-2 c =
    let room = c.requires in
    sym (length-take-le _ _ (omega (arith, c.size-n.ensures.0, c.marks-1.given, room.marked)))

pub fold_literals-requires : goal.fold_literals-requires
fold_literals-requires c =
    let room = c.requires in
    record {
      accepted = room.accepted;
      long = omega (arith, room.long);
      marked =
          whole_marks _ _ room.accepted c.mark_traits.ensures room.marked c.size-n.ensures.0;
      room = omega (arith, room.room);
    }

pub returns : goal.returns
returns c =
    let room = c.requires in
    copied _ _ (λ i. (c.shared_slice_known-1.given i).fits) room.accepted c.fold_literals.ensures
    room.room
