-- `judge_pair` meets its contract: the refusals of the pair in their order, then the forms compared.
use Rattle.judge.specs.Forms.{side_of}
use Rattle.judge.proofs.SideOfLaws.{side_width, side_big}
use Rattle.judge.proofs.PairLaws.{eleven, twelve, thirteen, not_shifted, joint_count, joint_words, length_first}
use Rattle.judge.proofs.PairLaws.{pair_comparable, pair_judged}
use Rattle.judge.proofs.UnshiftedFormLaws.{room_take}
use Rattle.judge_laws.specs.Judge.{joint_vars}
use Rattle.base.proofs.BoolLaws.{or_of_l, or_of_r}
use Rattle.record.specs.Tree.Tree.{Binary}
use Rattle.truth.specs.Truth.{shifts_var}
use mathlib.Core.Path.{◌≡◌, ap, sym, ◌∙◌}
use native.Mathlib.Omega.{arith}
use lib.ListN.{length}
use Rattle.judge.proofs.judge_pair.Goals as goal

pub width-w-requires : goal.width-w-requires
width-w-requires c = side_big c.args.kind c.args.left.now c.requires.0.taken

pub width-requires : goal.width-requires
width-requires c =
    side_big c.args.kind c.args.right.now c.requires.1.taken

pub returns-then-w-width : goal.returns-then-w-width
returns-then-w-width c =
    let kind = c.args.kind in
    let l = c.args.left.now in
    let r = c.args.right.now in
    c.refused.ensures
    ∙ eleven (side_of kind l) (side_of kind r) c.requires.0.taken c.requires.1.taken
    (λ e. c.if-w-width.true
    (c.width-w.ensures ∙ sym (side_width kind l) ∙ e ∙ side_width kind r
    ∙ sym c.width.ensures))

pub joint_vars-requires : goal.joint_vars-requires
joint_vars-requires c =
    (c.requires.0.taken, c.requires.1.taken)

pub returns-then-n-gt-JOINT_VARS : goal.returns-then-n-gt-JOINT_VARS
returns-then-n-gt-JOINT_VARS c =
    let kind = c.args.kind in
    let l = c.args.left.now in
    let r = c.args.right.now in
    let a = side_of kind l in
    let b = side_of kind r in
    let words = c.joint_vars.ensures in
    let widths =
    side_width kind l ∙ sym c.width-w.ensures ∙ c.if-w-width.false ∙ c.width.ensures
    ∙ sym (side_width kind r) in
    let count = joint_count a b words c.place_of-n.ensures in
    c.refused-then-n-gt-JOINT_VARS.ensures ∙ twelve a b c.requires.0.taken c.requires.1.taken widths
    (omega (arith, count, c.if-n-gt-JOINT_VARS.true))

pub side_shifts-requires : goal.side_shifts-requires
side_shifts-requires c = c.requires.0.taken

pub returns-then-side_shifts : goal.returns-then-side_shifts
returns-then-side_shifts c =
    let kind = c.args.kind in
    let l = c.args.left.now in
    let r = c.args.right.now in
    let a = side_of kind l in
    let b = side_of kind r in
    let words = c.joint_vars.ensures in
    let widths =
    side_width kind l ∙ sym c.width-w.ensures ∙ c.if-w-width.false ∙ c.width.ensures
    ∙ sym (side_width kind r) in
    let count = joint_count a b words c.place_of-n.ensures in
    c.refused-then-side_shifts.ensures
    ∙ thirteen a b c.requires.0.taken c.requires.1.taken widths
    (omega (arith, count, c.if-n-gt-JOINT_VARS.false))
    (or_of_l (shifts_var a.tree) (shifts_var b.tree)
    (sym c.side_shifts.ensures ∙ c.if-side_shifts.true))

pub side_shifts-requires-2 : goal.side_shifts-requires-2
side_shifts-requires-2 c = c.requires.1.taken

pub returns-then-side_shifts-2 : goal.returns-then-side_shifts-2
returns-then-side_shifts-2 c =
    let kind = c.args.kind in
    let l = c.args.left.now in
    let r = c.args.right.now in
    let a = side_of kind l in
    let b = side_of kind r in
    let words = c.joint_vars.ensures in
    let widths =
    side_width kind l ∙ sym c.width-w.ensures ∙ c.if-w-width.false ∙ c.width.ensures
    ∙ sym (side_width kind r) in
    let count = joint_count a b words c.place_of-n.ensures in
    c.refused-then-side_shifts-2.ensures
    ∙ thirteen a b c.requires.0.taken c.requires.1.taken widths
    (omega (arith, count, c.if-n-gt-JOINT_VARS.false))
    (or_of_r (shifts_var a.tree) (shifts_var b.tree)
    (sym c.side_shifts-2.ensures ∙ c.if-side_shifts-2.true))

pub slice_bounds-compare_forms-end : goal.slice_bounds-compare_forms-end
slice_bounds-compare_forms-end c =
    let kind = c.args.kind in
    let l = c.args.left.now in
    let r = c.args.right.now in
    let a = side_of kind l in
    let b = side_of kind r in
    let words = c.joint_vars.ensures in
    let widths =
    side_width kind l ∙ sym c.width-w.ensures ∙ c.if-w-width.false ∙ c.width.ensures
    ∙ sym (side_width kind r) in
    let count = joint_count a b words c.place_of-n.ensures in
    room_take _ _ (omega (
      arith,
      c.if-n-gt-JOINT_VARS.false,
      ap length words
          ∙ length_first 6 0 (Binary 2 a.tree b.tree),
    ))

pub compare_forms-requires : goal.compare_forms-requires
compare_forms-requires c =
    let kind = c.args.kind in
    let l = c.args.left.now in
    let r = c.args.right.now in
    let a = side_of kind l in
    let b = side_of kind r in
    let words = c.joint_vars.ensures in
    let widths =
    side_width kind l ∙ sym c.width-w.ensures ∙ c.if-w-width.false ∙ c.width.ensures
    ∙ sym (side_width kind r) in
    let count = joint_count a b words c.place_of-n.ensures in
    let all : c.place_of-n.result ≡ length (joint_vars a b) = omega
    (arith, count, c.if-n-gt-JOINT_VARS.false) in
    let ok =
    not_shifted a b c.requires.0.taken c.requires.1.taken widths
    (omega (arith, count, c.if-n-gt-JOINT_VARS.false))
    (sym c.side_shifts.ensures ∙ c.if-side_shifts.false)
    (sym c.side_shifts-2.ensures ∙ c.if-side_shifts-2.false) in
    pair_comparable a b _ _ c.requires.0 c.requires.1 ok _ _
    (c.width-w.ensures ∙ sym (side_width kind l))
    (joint_words a b words all (omega (arith, c.if-n-gt-JOINT_VARS.false)))

pub returns : goal.returns
returns c =
    let kind = c.args.kind in
    let l = c.args.left.now in
    let r = c.args.right.now in
    let a = side_of kind l in
    let b = side_of kind r in
    let words = c.joint_vars.ensures in
    let widths =
    side_width kind l ∙ sym c.width-w.ensures ∙ c.if-w-width.false ∙ c.width.ensures
    ∙ sym (side_width kind r) in
    let count = joint_count a b words c.place_of-n.ensures in
    let all : c.place_of-n.result ≡ length (joint_vars a b) = omega
    (arith, count, c.if-n-gt-JOINT_VARS.false) in
    let ok =
    not_shifted a b c.requires.0.taken c.requires.1.taken widths
    (omega (arith, count, c.if-n-gt-JOINT_VARS.false))
    (sym c.side_shifts.ensures
    ∙ c.if-side_shifts.false)
    (sym c.side_shifts-2.ensures ∙ c.if-side_shifts-2.false) in
    c.compare_forms.ensures
    ∙ pair_judged a b _ _ c.requires.0 c.requires.1 ok _ _
    (c.width-w.ensures ∙ sym (side_width kind l))
    (joint_words a b words all (omega (arith, c.if-n-gt-JOINT_VARS.false)))
