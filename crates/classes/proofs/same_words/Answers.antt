-- `same_words` meets its contract: the loop keeps that the words from `i` on decide.
use mathlib.Core.Path.{sym, ◌∙◌}
use native.Mathlib.Omega.{arith}
use Rattle.base.proofs.ListsLaws.{eq_list_differ, eq_list_next, eq_list_end}
use Rattle.classes.proofs.same_words.Goals as goal

pub returns-then-a-i : goal.returns-then-a-i
returns-then-a-i c =
    sym
    (c.loop-i.invariant
    ∙ eq_list_differ c.args.a.now c.args.b.now c.loop-i.i (omega arith)
    (omega (arith, c.requires)) c.if-a-i.true)

pub loop-i-preserved : goal.loop-i-preserved
loop-i-preserved c =
    c.loop-i.invariant
    ∙ eq_list_next c.args.a.now c.args.b.now c.loop-i.i (omega arith)
    (omega (arith, c.requires)) c.if-a-i.false

pub returns : goal.returns
returns c =
    sym
    (c.loop-i.invariant
    ∙ eq_list_end c.args.a.now c.args.b.now c.loop-i.i (omega arith)
    (omega (arith, c.requires)))
