-- `atom_facts` meets its contract: an atom with a shift, one with too many variables, one with a table.
use Rattle.profile.proofs.AtomWordsLaws.{facts_shift, facts_many, facts_few}
use Rattle.profile.proofs.index.atom_facts.Goals as goal

pub returns-then-has_shift : goal.returns-then-has_shift
returns-then-has_shift c = facts_shift _ _ c.has_shift.ensures c.if-has_shift.true

pub returns-then-n-gt-COLUMN_VARS : goal.returns-then-n-gt-COLUMN_VARS
returns-then-n-gt-COLUMN_VARS c =
    facts_many _ _ c.collect_vars.ensures c.place_of-n.ensures c.if-n-gt-COLUMN_VARS.true

pub returns : goal.returns
returns c =
    facts_few _ _ c.collect_vars.ensures c.place_of-n.ensures
    c.has_shift.ensures c.if-has_shift.false c.if-n-gt-COLUMN_VARS.false c.edges_of.ensures
    c.bitmask.ensures
