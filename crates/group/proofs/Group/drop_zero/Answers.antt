use mathlib.Core.Path.{sym, ◌∙◌}
use native.Mathlib.Omega.{arith}
use Rattle.base.proofs.LoopLaws.{for_none, for_turn, for_done}
use Rattle.group.specs.Group.{at, put_entry, consumed}
use Rattle.group.specs.Steps.{drop_at, drop_zero}
use Rattle.group.proofs.DropLaws.{drop_at_same, drop_at_drop}
use Rattle.group.proofs.Group.drop_zero.Goals as goal
use Rattle.group.proofs.Group.drop_zero.Goals.{else-drops, then-drops}

pub loop-i-init : goal.loop-i-init
loop-i-init c = sym (for_none _ 0 0 _ (omega arith))

pub loop-i-preserved : goal.loop-i-preserved
unfolding put_entry consumed at
loop-i-preserved c =
    let h = c.loop-i in
    let w = c.args.w in
    let test = c.drops.ensures in
    for_turn (drop_at w) h.i _ h.invariant
    (elim c.if-drops.branch [
      | then-drops k ↦ k.self-is ∙ sym (drop_at_drop w h.i h.self (sym test ∙ k.if-drops.true))
      | else-drops k ↦ k.self-is ∙ sym (drop_at_same w h.i h.self (sym test ∙ k.if-drops.false))
    ])

pub returns : goal.returns
unfolding drop_zero
returns c = for_done (drop_at c.args.w) _ (omega arith) (omega arith) c.loop-i.invariant
