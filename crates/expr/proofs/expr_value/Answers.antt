-- `expr_value` meets its contract: the value of an accepted tree, and 0 beside a refusal.
use Rattle.expr.proofs.ExprValueLaws.{accepted_tree, expr_value_accepted, expr_value_refused}
use Rattle.expr_refusal.proofs.RefusalLaws.{accepted_big, accepted_root, sized_accepted}
use Rattle.std.proofs.Common.{sym, ◌∙◌, arith}
use Rattle.base.proofs.RefusalLaws.{number_not, passed_on}
use Rattle.expr.proofs.expr_value.Goals as goal

pub returns-in_err-expr_refusal : goal.returns-in_err-expr_refusal
returns-in_err-expr_refusal c =
    rw (passed_on c.from_residual.ensures)
    (record {
      number = c.in_err-expr_refusal.ensures;
      result =
          sym
          (expr_value_refused _ _
          (λ e. number_not _ (c.in_err-expr_refusal.ensures ∙ e)));
    })

pub width-w-requires : goal.width-w-requires
width-w-requires c = accepted_big _ _ (accepted_tree _ (sym c.in_ok-expr_refusal.ensures))

pub value_at-requires : goal.value_at-requires
value_at-requires c =
    let e = accepted_tree c.args.t.now (sym c.in_ok-expr_refusal.ensures) in
    (sized_accepted _ _ e, omega (arith, c.width-w.ensures, (accepted_root _ _ e).width_le))

pub returns : goal.returns
returns c =
    record {
      number = c.in_ok-expr_refusal.ensures;
      result = c.value_at.ensures
          ∙ sym (expr_value_accepted _ _ (sym c.in_ok-expr_refusal.ensures) c.width-w.ensures);
    }
