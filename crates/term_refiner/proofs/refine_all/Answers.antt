-- `refine_all` meets its contract: after k turns k groups are refined.
use native.Mathlib.Omega.{arith}
use Rattle.term_refiner.proofs.AllRefinedLaws.{going_start, going_next, going_done}
use Rattle.group.proofs.PassLaws.{count_few, count_taken, taken_at, next_at, end_at, group_at, all_first}
use Rattle.term_refiner.proofs.refine_all.Goals as goal

pub loop-first-init : goal.loop-first-init
loop-first-init c = going_start _ _ _ _ _ _ c.requires.room

pub refine_at-requires : goal.refine_at-requires
refine_at-requires c =
    let pre = c.requires in
    let going = c.loop-first.invariant in
    let less = rw (count_taken pre.found) at c.loop-first-test.true in
    let few = count_few pre.found in
    rw (taken_at pre.found c.loop-first.first-index less)
    (all_first pre c.loop-first.first-index less going.room
    (omega (arith, going.rows_le, pre.made_few, less, few, pre.found.few)))

pub loop-first-preserved : goal.loop-first-preserved
loop-first-preserved c =
    let pre = c.requires in
    let less = rw (count_taken pre.found) at c.loop-first-test.true in
    let k = c.loop-first.first-index in
    going_next _ _ _ k c.loop-first.invariant (next_at pre.found k less).next (group_at pre.found k less)
    (rw (taken_at pre.found k less) at c.refine_at.ensures)

pub returns : goal.returns
returns c =
    let pre = c.requires in
    going_done _ _ _ _ c.loop-first.invariant
    (end_at pre.found c.loop-first.first-index (rw (count_taken pre.found) at c.loop-first-test.false))
