-- `compact_atom_table` meets its contract: the front door, and then the form.
use Rattle.base.proofs.RefusalLaws.{passed_on}
use Rattle.atom_table.proofs.ReadLaws.{pass_shut, pass_open, pass_zeros, pass_given}
use Rattle.compaction.specs.Compact.{compact_atom_table}
use Rattle.compaction.proofs.compact_atom_table.Goals as goal

pub returns-in_err-open_bytes : goal.returns-in_err-open_bytes
unfolding compact_atom_table
returns-in_err-open_bytes c = pass_shut _ _ _ c.in_err-open_bytes.ensures (passed_on c.from_residual.ensures)

pub compact_form-requires : goal.compact_form-requires
compact_form-requires c =
    let let-in = pass_open _ _ c.in_ok-open_bytes.ensures in
    (let-in.form, let-in.short, pass_zeros _ _ c.in_ok-open_bytes.ensures)

pub returns : goal.returns
unfolding compact_atom_table
returns c = pass_given _ _ c.in_ok-open_bytes.ensures _ _ c.compact_form.ensures
