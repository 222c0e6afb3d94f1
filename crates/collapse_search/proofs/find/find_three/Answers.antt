use mathlib.Core.Path.{refl}
use Rattle.group.specs.Collapse.{find_first}
use Rattle.collapse_search.specs.Links.{lent}
use Rattle.collapse_search.proofs.FindLaws.{three_few, three_end, three_found, three_next}
use Rattle.collapse_search.proofs.find.find_three.Goals as goal

pub returns-then-entries-lt3 : goal.returns-then-entries-lt3
returns-then-entries-lt3 c = three_few c.args.w (lent c.args.entries.now) c.if-entries-lt3.true

pub loop-first-init : goal.loop-first-init
unfolding find_first
loop-first-init c = refl

pub returns-in-Some : goal.returns-in-Some
returns-in-Some c =
    let a = c.args in
    three_found a.w (lent a.entries.now) c.loop-first.first c.loop-first.invariant c.loop-first-test.true _ c.in-Some.ensures

pub loop-first-preserved : goal.loop-first-preserved
loop-first-preserved c =
    let a = c.args in
    three_next a.w (lent a.entries.now) c.loop-first.first c.loop-first.invariant c.loop-first-test.true c.in_default.ensures

pub returns : goal.returns
returns c =
    let a = c.args in
    three_end a.w (lent a.entries.now) c.loop-first.first c.loop-first.invariant c.loop-first-test.false
