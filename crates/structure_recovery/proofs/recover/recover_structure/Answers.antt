-- `recover_structure` meets its contract: the front door, and then the form.
use Rattle.base.proofs.RefusalLaws.{passed_on}
use Rattle.atom_table.proofs.ReadLaws.{pass_shut, pass_open, pass_zeros, pass_given}
use Rattle.structure_laws.specs.RecoverStructure.{recover_structure}
use Rattle.structure_recovery.proofs.recover.recover_structure.Goals as goal

pub returns-in_err-open_bytes : goal.returns-in_err-open_bytes
unfolding recover_structure
returns-in_err-open_bytes c = pass_shut _ _ _ c.in_err-open_bytes.ensures (passed_on c.from_residual.ensures)

pub recover_form-requires : goal.recover_form-requires
recover_form-requires c =
    ((pass_open _ _ c.in_ok-open_bytes.ensures).form, pass_zeros _ _ c.in_ok-open_bytes.ensures)

pub returns : goal.returns
unfolding recover_structure
returns c = pass_given _ _ c.in_ok-open_bytes.ensures _ _ c.recover_form.ensures
