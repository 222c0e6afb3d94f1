-- `finish` meets its contract: 9 where the table is full, else the terms and the sum record behind the atoms.
use mathlib.Core.List.{[]}
use mathlib.Core.Bool.{false}
use native.Mathlib.Omega.{arith}
use Rattle.atom_table.proofs.FinishLaws.{finished_full, terms_fit, sum_fits, sum_end, finished_form}
use Rattle.semilinear.proofs.OutcomeLaws.{refused_gives}
use Rattle.atom_table.proofs.pass.finish.Goals as goal

pub returns-then-tab : goal.returns-then-tab
returns-then-tab c =
    let pre = c.requires in
    let refuse = c.refuse in
    finished_full _ _ _ _ _ _ _ c.if-tab.true pre.long refuse.result
    (refused_gives refuse.ensures)

pub put_terms-written-requires : goal.put_terms-written-requires
put_terms-written-requires c =
    let pre = c.requires in
    let more = c.if-tab.false in
    record {
      inside = pre.coeffs more;
      step_pos = pre.step_pos;
      step_le = pre.step_le;
      most = (pre.placed more).atoms_le;
      room = terms_fit 0 0 0 [] false _ c.args.out.now more (pre.placed more) pre.long;
    }

pub put_sum-requires : goal.put_sum-requires
put_sum-requires c =
    let pre = c.requires in
    let more = c.if-tab.false in
    sum_fits _ 0 _ _ false _ _ more (pre.placed more) pre.long c.put_terms-written.ensures

pub overflow_add-result : goal.overflow_add-result
overflow_add-result c =
    let pre = c.requires in
    let more = c.if-tab.false in
    omega (arith, sum_end _ 0 _ _ false _ _ more (pre.placed more) pre.long c.put_terms-written.ensures)

pub returns : goal.returns
returns c =
    let pre = c.requires in
    let more = c.if-tab.false in
    finished_form _ _ _ _ _ _ _ more (pre.placed more) pre.long c.put_terms-written.ensures
    c.put_sum.ensures
