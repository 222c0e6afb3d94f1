-- `form_value` meets its contract: the sum of a form is its value.
use Rattle.judge.proofs.UnshiftedFormLaws.{accepted_form, form_width, form_wide, form_big, form_fits, form_atoms}
use Rattle.semilinear_value.proofs.ValueLaws.{form_value_accepted}
use Rattle.judge.proofs.form_value.Goals as goal

pub literal-constant-requires : goal.literal-constant-requires
literal-constant-requires c = form_big _ _ c.requires

pub sum_rows-requires : goal.sum_rows-requires
sum_rows-requires c =
    let w = c.args.w in
    let s = c.args.s.now in
    record {
      width = form_wide w s c.requires;
      atoms_ok_lem = rw c.body-f.ensures (form_atoms w s c.requires);
      ends = c.terms_at-terms.ensures;
      fits = rw c.literal-constant.ensures (form_fits w s c.requires);
    }

pub returns : goal.returns
returns c =
    let s = c.args.s.now in
    form_value_accepted s _ (accepted_form _ s c.requires) (form_width _ s c.requires)
    c.literal-constant.ensures
    c.body-f.ensures c.sum_rows.ensures
