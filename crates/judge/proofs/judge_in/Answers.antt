-- `judge_in` meets its contract: the left's refusal, the right's, and then the two with their forms.
use Rattle.base.proofs.RefusalLaws.{number_not}
use Rattle.std.specs.Prelude.{Ok, Err}
use Rattle.semilinear.specs.Answers.{in_numbers}
use Rattle.judge.proofs.FormForLaws.{side_number, form_for}
use Rattle.judge.proofs.PairLaws.{left_verdict, right_verdict}
use Rattle.judge.proofs.UnshiftedFormLaws.{room_take}
use Rattle.judge_laws.specs.Judge.{expr_side}
use mathlib.Core.Path.{refl, sym, ◌∙◌}
use Rattle.judge.proofs.judge_in.Goals as goal

pub returns-in-Err : goal.returns-in-Err
returns-in-Err c =
    c.refused.ensures
    ∙ left_verdict (expr_side c.args.left.now) (expr_side c.args.right.now) _
    (side_number _ _ c.requires.0 (in_numbers (Err c.in-Err.refusal)) _ c.in-Err.ensures) (number_not _)

pub returns-in-Err-normalize_to_semilinear : goal.returns-in-Err-normalize_to_semilinear
returns-in-Err-normalize_to_semilinear c =
    c.refused-in-Err-normalize_to_semilinear.ensures
    ∙ right_verdict (expr_side c.args.left.now) (expr_side c.args.right.now)
    (sym (side_number _ _ c.requires.0 (in_numbers (Ok c.in-Ok.a)) _ c.in-Ok.ensures)) _
    (side_number _ _ c.requires.1 (in_numbers (Err c.in-Err-normalize_to_semilinear.refusal)) _ c.in-Err-normalize_to_semilinear.ensures) (number_not _)

pub slice_bounds-judge_pair-end : goal.slice_bounds-judge_pair-end
slice_bounds-judge_pair-end c =
    let bytes-l = c.type_inv.left in
    (form_for _ _ c.requires.0 (in_numbers (Ok c.in-Ok.a)) _ c.in-Ok.ensures (λ i. (bytes-l i).fits) refl).1

pub slice_bounds-judge_pair-end-2 : goal.slice_bounds-judge_pair-end-2
slice_bounds-judge_pair-end-2 c =
    let bytes-l = c.type_inv.left in
    room_take _ _ (form_for _ _ c.requires.0 (in_numbers (Ok c.in-Ok.a)) _ c.in-Ok.ensures (λ i. (bytes-l i).fits) refl).1

pub slice_bounds-judge_pair-end-3 : goal.slice_bounds-judge_pair-end-3
slice_bounds-judge_pair-end-3 c =
    let bytes-r = c.type_inv.right in
    (form_for _ _ c.requires.1 (in_numbers (Ok c.in-Ok-normalize_to_semilinear.b)) _ c.in-Ok-normalize_to_semilinear.ensures (λ i. (bytes-r i).fits) refl).1

pub slice_bounds-judge_pair-end-4 : goal.slice_bounds-judge_pair-end-4
slice_bounds-judge_pair-end-4 c =
    let bytes-r = c.type_inv.right in
    room_take _ _ (form_for _ _ c.requires.1 (in_numbers (Ok c.in-Ok-normalize_to_semilinear.b)) _ c.in-Ok-normalize_to_semilinear.ensures (λ i. (bytes-r i).fits) refl).1

pub judge_pair-requires : goal.judge_pair-requires
judge_pair-requires c =
    let bytes-l = c.type_inv.left in
    let bytes-r = c.type_inv.right in (
      (form_for _ _ c.requires.0 (in_numbers (Ok c.in-Ok.a)) _ c.in-Ok.ensures (λ i. (bytes-l i).fits) refl).0,
      (form_for _ _ c.requires.1 (in_numbers (Ok c.in-Ok-normalize_to_semilinear.b)) _ c.in-Ok-normalize_to_semilinear.ensures (λ i. (bytes-r i).fits) refl).0,
    )
