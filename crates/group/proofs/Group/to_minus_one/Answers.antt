use mathlib.Core.Path.{sym, ◌∙◌}
use native.Mathlib.Omega.{arith}
use Rattle.base.proofs.LoopLaws.{for_none, for_turn, for_done}
use Rattle.group.specs.Group.{at, put_entry}
use Rattle.group.specs.Steps.{minus_one_at, to_minus_one}
use Rattle.group.proofs.MinusOneLaws.{minus_one_at_same, minus_one_at_set}
use Rattle.group.proofs.Group.to_minus_one.Goals as goal
use Rattle.group.proofs.Group.to_minus_one.Goals.{else-becomes_minus_one, then-becomes_minus_one}

pub loop-i-init : goal.loop-i-init
loop-i-init c = sym (for_none _ 0 0 _ (omega arith))

pub loop-i-preserved : goal.loop-i-preserved
unfolding put_entry at
loop-i-preserved c =
    let h = c.loop-i in
    let w = c.args.w in
    let minus = c.bitmask-minus.ensures in
    let test = c.becomes_minus_one.ensures in
    for_turn (minus_one_at w) h.i _ h.invariant
    (elim c.if-becomes_minus_one.branch [
      | then-becomes_minus_one k ↦ k.self-is ∙ sym
          (minus_one_at_set w h.i h.self (omega arith) minus (sym test ∙ k.if-becomes_minus_one.true))
      | else-becomes_minus_one k ↦ k.self-is ∙ sym
          (minus_one_at_same w h.i h.self (sym test ∙ k.if-becomes_minus_one.false))
    ])

pub returns : goal.returns
unfolding to_minus_one
returns c = for_done (minus_one_at c.args.w) _ (omega arith) (omega arith) c.loop-i.invariant
