-- The first two numbers of the answer are handed over.
use Rattle.semilinear.proofs.OutcomeLaws.{gives_two}
use Rattle.hogzelt.proofs.hogzelt_compact_atom_table.Goals as goal

pub returns : goal.returns
returns c =
    let said = c.report.ensures in
    rw (said.number, said.used_is, said.terms_are) (gives_two _ _ _ _ _ _ _ c.compact_atom_table.ensures)
