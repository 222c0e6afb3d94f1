-- `refine_group` meets its contract: after each stage, taken or not, the group, the words and the bytes are those of the
-- stages so far; the end settles the group.
use mathlib.Core.Path.{ap, ◌∙◌}
use Prim.Native.Nat.{ℕ}
use native.Mathlib.Omega.{arith}
use mathlib.Core.List.{List}
use Rattle.record.specs.Decode.{decode}
use Rattle.made.proofs.WordsLaws.{makes_fewer, makes_later}
use Rattle.group.specs.Group.{Entry}
use Rattle.group.specs.Gathered.{settle_words}
use Rattle.group.specs.Made.{Stepped}
use Rattle.group.specs.Stages.{cut_and_drop}
use Rattle.group.proofs.SteppedLaws.{stepped_then, stepped_met}
use Rattle.group.proofs.StagesLaws.{single_none, merge_none}
use Rattle.collapse_search.proofs.CollapseMetLaws.{three_collapsible, collapse_same, collapse_met}
use Rattle.refine_group.proofs.RefiningLaws.{single_at, merge_at, found_at, merged, collapsed, group_refined}
use Rattle.group.proofs.PassLaws.{few_entries}
use Rattle.refine_group.proofs.refine_group.Goals as goal
use Rattle.refine_group.proofs.refine_group.Goals.{Joined-any_merge, Joined-any_single, Joined-find_three}
use Rattle.refine_group.proofs.refine_group.Goals.{else-any_merge, else-any_single, in_default, in-Some, then-any_merge, then-any_single}

-- the stages so far, taken or not
joined1 : (c : Joined-any_single)
    → Stepped c.args.w 256 (cut_and_drop c.args.w (decode c.args.b.now))
    c.gather_rows.new.self c.args.made.now c.args.out.now c.if-any_single.g c.if-any_single.made
    c.if-any_single.out
joined1 c =
    let used = c.used.ensures in
    elim c.if-any_single.branch [
      | then-any_single w ↦ stepped_met w.made-is w.out-is w.g-is w.cut_and_drop.ensures
      | else-any_single w ↦ stepped_met w.made-is w.out-is w.g-is
          (single_none _
          (single_at c.gather_rows.new.self c.from.ensures used.0 (c.any_single.ensures w.if-any_single.false))
          c.requires.makes.room)
    ]

joined2 : (c : Joined-any_merge)
    → Stepped c.args.w 196864 (merged c.args.w (decode c.args.b.now))
    c.gather_rows.new.self c.args.made.now c.args.out.now c.if-any_merge.g c.if-any_merge.made
    c.if-any_merge.out
joined2 c =
    let one = joined1 (goal.at.Joined-any_merge c).Joined-any_single in
    let used = c.used-2.ensures in
    stepped_then one
    (elim c.if-any_merge.branch [
      | then-any_merge w ↦ stepped_met w.made-is w.out-is w.g-is w.merge_all.ensures
      | else-any_merge w ↦ stepped_met w.made-is w.out-is w.g-is
          (merge_none _
          (merge_at c.if-any_single.g c.from-2.ensures used.0 (c.any_merge.ensures w.if-any_merge.false)) one.room)
    ])

joined3 : (c : Joined-find_three)
    → Stepped c.args.w 196866 (collapsed c.args.w (decode c.args.b.now))
    c.gather_rows.new.self c.args.made.now c.args.out.now c.match-find_three.g c.match-find_three.made
    c.match-find_three.out
joined3 c =
    let two = joined2 (goal.at.Joined-find_three c).Joined-any_merge in
    let used = c.used-3.ensures in
    stepped_then two
    (elim c.match-find_three.branch [
      | in-Some w ↦
          collapse_met _ _ (found_at c.if-any_merge.g c.from-3.ensures used.0 _ w.in-Some.ensures)
          w.collapse.ensures w.made-is w.out-is w.g-is
      | in_default w ↦
          collapse_same _ (found_at c.if-any_merge.g c.from-3.ensures used.0 _ w.in_default.ensures)
          two.room w.made-is w.out-is w.g-is
    ])

pub used-requires : goal.used-requires
used-requires c = few_entries _ _ _ _ _ c.gather_rows.ensures c.requires.few

pub cut_and_drop-requires : goal.cut_and_drop-requires
cut_and_drop-requires c =
    let pre = c.requires in
    record {
      makes = makes_fewer pre.makes (omega arith);
      few = few_entries _ _ _ _ _ c.gather_rows.ensures pre.few;
    }

pub used-requires-2 : goal.used-requires-2
used-requires-2 c =
    let one = joined1 (goal.at.used-requires-2 c).Joined-any_single in
    omega (arith, one.len, few_entries _ _ _ _ _ c.gather_rows.ensures c.requires.few)

pub merge_all-requires : goal.merge_all-requires
merge_all-requires c =
    let pre = c.requires in
    let one = joined1 (goal.at.merge_all-requires c).Joined-any_single in
    record {
      makes = makes_later pre.makes one.room (omega (arith, one.later.rows_le));
      few = omega (arith, one.len, few_entries _ _ _ _ _ c.gather_rows.ensures pre.few);
    }

pub used-requires-3 : goal.used-requires-3
used-requires-3 c =
    let two = joined2 (goal.at.used-requires-3 c).Joined-any_merge in
    omega (arith, two.len, few_entries _ _ _ _ _ c.gather_rows.ensures c.requires.few)

pub find_three-requires : goal.find_three-requires
find_three-requires c =
    let two = joined2 (goal.at.find_three-requires c).Joined-any_merge in
    omega (arith, c.used-3.ensures.1, two.len, few_entries _ _ _ _ _ c.gather_rows.ensures c.requires.few)

pub used-requires-4 : goal.used-requires-4
used-requires-4 c =
    let three = joined3 (goal.at.used-requires-4 c).Joined-find_three in
    omega (arith, three.len, few_entries _ _ _ _ _ c.gather_rows.ensures c.requires.few)

pub collapse-requires : goal.collapse-requires
collapse-requires c =
    let pre = c.requires in
    let two = joined2 (goal.at.collapse-requires c).Joined-any_merge in
    let used = c.used-3.ensures in
    let found = found_at c.if-any_merge.g c.from-3.ensures used.0 _ c.in-Some.ensures in
    let three = three_collapsible _ _ _ found in
    let few = few_entries _ _ _ _ _ c.gather_rows.ensures pre.few in
    record {
      makes = makes_later pre.makes two.room (omega (arith, two.later.rows_le));
      i_lt = omega (arith, three.i_lt, two.len, few);
      j_lt = omega (arith, three.j_lt, two.len, few);
      k_lt = omega (arith, three.k_lt, two.len, few);
      k_not_i = three.k_not_i;
      k_not_j = three.k_not_j;
    }

pub returns : goal.returns
returns c =
    let last = c.used-4.ensures in
    group_refined _ c.requires.makes.width (omega arith) (joined3 (goal.at.returns c).Joined-find_three)
    (c.settle.ensures
    ∙ ap (λ (w : ℕ). settle_words w c.used-4.result.now c.args.coeffs.now) c.from-4.ensures
    ∙ ap (λ (es : List Entry). settle_words c.args.w es c.args.coeffs.now) last.0)
    c.gather_rows.ensures
