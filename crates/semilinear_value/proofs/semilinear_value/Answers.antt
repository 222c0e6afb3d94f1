-- `semilinear_value` meets its contract: the value of an accepted form, and 0 beside a refusal.
use Rattle.semilinear_value.proofs.ValueLaws.{form_value_accepted, form_value_refused}
use Rattle.semilinear.proofs.AcceptLaws.{accepted_semilinear}
use Rattle.semilinear.proofs.ValidLaws.{semilinear_parts}
use Rattle.base.proofs.RefusalLaws.{number_not, passed_on}
use mathlib.Core.Path.{sym, ◌∙◌}
use Rattle.semilinear_value.proofs.semilinear_value.Goals as goal

pub returns-in_err-semilinear_refusal : goal.returns-in_err-semilinear_refusal
returns-in_err-semilinear_refusal c =
    let is = c.in_err-semilinear_refusal.ensures in
    rw (passed_on c.from_residual.ensures)
    (record { number = is; result = sym (form_value_refused _ _ (λ e. number_not _ (is ∙ e))) })

pub width-w-requires : goal.width-w-requires
width-w-requires c =
    (semilinear_parts _ (accepted_semilinear _ (sym c.in_ok-semilinear_refusal.ensures))).0.big

pub literal-constant-requires : goal.literal-constant-requires
literal-constant-requires c =
    (semilinear_parts _
    (accepted_semilinear _ (sym c.in_ok-semilinear_refusal.ensures))).0.big

pub sum_rows-requires : goal.sum_rows-requires
sum_rows-requires c =
    let p =
    semilinear_parts _
    (accepted_semilinear _
    (sym c.in_ok-semilinear_refusal.ensures)) in
    record {
      width = rw c.width-w.ensures p.0.width_le;
      atoms_ok_lem = rw (c.width-w.ensures, c.body-f.ensures) p.1.atoms;
      ends = c.terms_at-terms.ensures;
      fits = rw (c.literal-constant.ensures, c.width-w.ensures) p.0.fits;
    }

pub returns : goal.returns
returns c =
    record {
      number = c.in_ok-semilinear_refusal.ensures;
      result =
          form_value_accepted _ _ (sym c.in_ok-semilinear_refusal.ensures)
          c.width-w.ensures c.literal-constant.ensures c.body-f.ensures
          c.sum_rows.ensures;
    }
