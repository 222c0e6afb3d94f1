-- `coalesce_all` meets its contract: after k turns k groups are coalesced.
use mathlib.Core.List.{[]}
use native.Mathlib.Omega.{arith}
use Rattle.semilinear.specs.Items.{after_atoms}
use Rattle.semilinear.specs.DecodeForm.{read_rows}
use Rattle.views.specs.Grouping.{variable_basis, bases_of}
use Rattle.group.proofs.PassLaws.{count_few, count_taken, taken_at, next_at, end_at, group_at, all_first}
use Rattle.coalesce.proofs.CoalesceTurnLaws.{all_none, all_next, all_done}
use Rattle.coalesce.proofs.coalesce_all.Goals as goal

pub loop-first-init : goal.loop-first-init
loop-first-init c =
    let rows = read_rows 0 c.args.f.now (after_atoms c.args.f.now) in
    all_none _ c.requires.width rows (bases_of variable_basis c.args.w rows []) _ c.requires.room

pub coalesce_at-requires : goal.coalesce_at-requires
coalesce_at-requires c =
    let pre = c.requires in
    let going = c.loop-first.invariant in
    let less = rw (count_taken pre.found) at c.loop-first-test.true in
    let few = count_few pre.found in
    rw (taken_at pre.found c.loop-first.first-index less)
    (all_first pre c.loop-first.first-index less going.room
    (omega (arith, going.rows_le, pre.made_few, less, few, pre.found.few)))

pub loop-first-preserved : goal.loop-first-preserved
loop-first-preserved c =
    let pre = c.requires in
    let less = rw (count_taken pre.found) at c.loop-first-test.true in
    let k = c.loop-first.first-index in
    all_next _ pre.width _ _ _ k c.loop-first.invariant
    (next_at pre.found k less).next
    (group_at pre.found k less)
    (rw (taken_at pre.found k less) at c.coalesce_at.ensures)

pub returns : goal.returns
returns c =
    let pre = c.requires in
    let k = c.loop-first.first-index in
    let few = count_few pre.found in
    all_done _ pre.width _ _ _ k c.loop-first.invariant
    (omega (arith, c.loop-first.auto.first-index-end, count_taken pre.found, few, pre.found.few))
    (end_at pre.found k (rw (count_taken pre.found) at c.loop-first-test.false))
