-- `put_row` meets its contract: no term for the coefficient 0, else one record.
use Rattle.atom_table.proofs.TermsLaws.{term_put_none, term_put_some}
use Rattle.atom_table.proofs.pass.put_row.Goals as goal

pub returns-then-c-eq0 : goal.returns-then-c-eq0
returns-then-c-eq0 c = term_put_none _ _ _ _ c.if-c-eq0.true _

pub returns : goal.returns
returns c =
    term_put_some _ _ _ _ c.if-c-eq0.false c.put_term.ensures
