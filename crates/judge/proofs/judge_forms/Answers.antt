-- `judge_forms` meets its contract: the left's refusal, the right's, and then the two forms as they are.
use Rattle.base.proofs.RefusalLaws.{number_not}
use Rattle.judge.proofs.FormForLaws.{own_form}
use Rattle.judge.proofs.PairLaws.{left_verdict, right_verdict}
use Rattle.judge_laws.specs.Judge.{form_side}
use mathlib.Core.Path.{sym, ◌∙◌}
use Rattle.judge.proofs.judge_forms.Goals as goal

pub returns-in-Err : goal.returns-in-Err
returns-in-Err c =
    c.refused.ensures
    ∙ left_verdict (form_side c.args.left.now) (form_side c.args.right.now) _
    c.in-Err.ensures (number_not _)

pub returns-in-Err-semilinear_refusal : goal.returns-in-Err-semilinear_refusal
returns-in-Err-semilinear_refusal c =
    c.refused-in-Err-semilinear_refusal.ensures
    ∙ right_verdict (form_side c.args.left.now) (form_side c.args.right.now)
    (sym c.in_default.ensures) _
    c.in-Err-semilinear_refusal.ensures (number_not _)

pub judge_pair-requires : goal.judge_pair-requires
judge_pair-requires c =
    let bytes-l = c.type_inv.left in
    let bytes-r = c.type_inv.right in (
      own_form c.args.left.now (λ i. (bytes-l i).fits)
          (sym c.in_default.ensures),
      own_form c.args.right.now (λ i. (bytes-r i).fits)
          (sym c.in_default-semilinear_refusal.ensures),
    )
