-- The three numbers of the answer are handed over.
use Rattle.hogzelt.proofs.hogzelt_flatten_complex_atoms.Goals as goal

pub returns : goal.returns
returns c =
    let said = c.report.ensures in
    rw (said.number, said.used_is, said.terms_are, c.flag_of.ensures) c.flatten_complex_atoms-flat.ensures
