-- `flatten_complex_atoms` meets its contract: the front door, and then the form.
use Rattle.base.proofs.RefusalLaws.{passed_on}
use Rattle.atom_table.proofs.ReadLaws.{pass_shut, pass_open, pass_zeros, pass_given}
use Rattle.structure_laws.specs.FlattenComplexAtoms.{flatten_complex_atoms}
use Rattle.flatten.proofs.flatten_complex_atoms.Goals as goal

pub returns-in_err-open_bytes : goal.returns-in_err-open_bytes
unfolding flatten_complex_atoms
returns-in_err-open_bytes c = pass_shut _ _ _ c.in_err-open_bytes.ensures (passed_on c.from_residual.ensures)

pub flatten_form-requires : goal.flatten_form-requires
flatten_form-requires c =
    ((pass_open _ _ c.in_ok-open_bytes.ensures).form, pass_zeros _ _ c.in_ok-open_bytes.ensures)

pub returns : goal.returns
unfolding flatten_complex_atoms
returns c = pass_given _ _ c.in_ok-open_bytes.ensures _ _ c.flatten_form.ensures
