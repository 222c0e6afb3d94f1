use mathlib.Core.Path.{ap, ◌∙◌}
use native.Mathlib.Omega.{arith}
use Rattle.record.specs.Decode.{decode}
use Rattle.entries.specs.Tests.{cut_of}
use Rattle.group.specs.Group.{at, put_entry}
use Rattle.group.specs.Steps.{remasked, cut_at}
use Rattle.group.proofs.SteppedLaws.{loop_none, loop_turn, loop_done}
use Rattle.group.proofs.CutLaws.{turn_same, turn_cut, cut_loop}
use Rattle.group.proofs.Group.cut_masks.Goals as goal
use Rattle.group.proofs.Group.cut_masks.Goals.{else-cut-e, then-cut-e}

pub loop-i-init : goal.loop-i-init
loop-i-init c = loop_none _ 0 c.requires.makes.room

pub loop-i-preserved : goal.loop-i-preserved
unfolding put_entry remasked at
loop-i-preserved c =
    let h = c.loop-i in
    let t = decode c.args.b.bytes.now in
    let cut = c.cut_mask-cut.ensures ∙ ap (cut_of (at h.self h.i)) c.from.ensures in
    loop_turn (cut_at c.args.w t) 0 h.i (omega arith) h.invariant
    (elim c.if-cut-e.branch [
      | then-cut-e w ↦ turn_cut t h.i cut w.if-cut-e.true w.create_masked.ensures w.made-is w.out-is w.self-is
      | else-cut-e w ↦ turn_same t h.i cut w.if-cut-e.false h.invariant.room w.made-is w.out-is w.self-is
    ])
    (omega arith)

pub returns : goal.returns
returns c =
    let h = c.loop-i in
    let a = c.args in
    let t = decode a.b.bytes.now in
    cut_loop t
    (loop_done (cut_at a.w t) 0 h.i _ (omega arith) (omega arith) (omega (arith, c.requires.few)) h.invariant)
