-- What the pass that is called gives.
use Rattle.claims.specs.Calls.{pass_gives}
use Rattle.runner.proofs.make_call.Goals as goal

pub returns-in-Refine : goal.returns-in-Refine
unfolding pass_gives
returns-in-Refine c = rw c.in-Refine.is c.refine_terms.ensures

pub returns-in-Recover : goal.returns-in-Recover
unfolding pass_gives
returns-in-Recover c = rw c.in-Recover.is c.recover_structure.ensures

pub returns-in-Coalesce : goal.returns-in-Coalesce
unfolding pass_gives
returns-in-Coalesce c = rw c.in-Coalesce.is c.coalesce_terms.ensures

pub returns-in-Flatten : goal.returns-in-Flatten
unfolding pass_gives
returns-in-Flatten c = rw c.in-Flatten.is c.flatten_complex_atoms.ensures

pub returns-in-Compact : goal.returns-in-Compact
unfolding pass_gives
returns-in-Compact c = rw c.in-Compact.is c.compact_atom_table.ensures
