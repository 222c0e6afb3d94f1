-- `settle` meets its contract: the loop keeps what the entries before this one add.
use mathlib.Core.Path.{sym, ◌∙◌}
use native.Mathlib.Omega.{arith}
use lib.ListN.{get_or}
use Rattle.base.proofs.LoopLaws.{for_none, for_turn, for_done}
use Rattle.entries.specs.Marks.{blank}
use Rattle.group.specs.Gathered.{settle_word_at, settle_words}
use Rattle.group.proofs.SettleWordsLaws.{word_consumed, word_live}
use Rattle.group.proofs.settle.settle.Goals as goal
use Rattle.group.proofs.settle.settle.Goals.{else-is_live, then-is_live}

pub loop-e-init : goal.loop-e-init
loop-e-init c = sym (for_none _ 0 0 _ (omega arith))

pub loop-e-preserved : goal.loop-e-preserved
loop-e-preserved c =
    let a = c.args in
    let h = c.loop-e in
    let test = c.is_live.ensures in
    for_turn (settle_word_at a.w a.entries.now) h.e-index _ h.invariant
    (elim c.if-is_live.branch [
      | then-is_live k ↦ k.coeffs-is ∙ k.add_word.ensures ∙ sym
          (word_live a.w (get_or a.entries.now h.e-index blank) h.coeffs (sym test ∙ k.if-is_live.true))
      | else-is_live k ↦ k.coeffs-is ∙ sym
          (word_consumed a.w (get_or a.entries.now h.e-index blank) h.coeffs (sym test ∙ k.if-is_live.false))
    ])

pub returns : goal.returns
unfolding settle_words
returns c = for_done (settle_word_at c.args.w c.args.entries.now) _ (omega arith) (omega arith) c.loop-e.invariant
