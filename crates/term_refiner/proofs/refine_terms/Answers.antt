-- `refine_terms` meets its contract: the front door, and then the form.
use Rattle.base.proofs.RefusalLaws.{passed_on}
use Rattle.atom_table.proofs.ReadLaws.{pass_shut, pass_open, pass_zeros, pass_given}
use Rattle.refiner_laws.specs.RefineTerms.{refine_terms}
use Rattle.term_refiner.proofs.refine_terms.Goals as goal

pub returns-in_err-open_bytes : goal.returns-in_err-open_bytes
unfolding refine_terms
returns-in_err-open_bytes c = pass_shut _ _ _ c.in_err-open_bytes.ensures (passed_on c.from_residual.ensures)

pub refine_form-requires : goal.refine_form-requires
refine_form-requires c =
    ((pass_open _ _ c.in_ok-open_bytes.ensures).form, pass_zeros _ _ c.in_ok-open_bytes.ensures)

pub returns : goal.returns
unfolding refine_terms
returns c = pass_given _ _ c.in_ok-open_bytes.ensures _ _ c.refine_form.ensures
