-- `next` meets its contract: the atom and its term at the front, by whether the atom has one.
use Rattle.std.proofs.Common.{rules}
use Rattle.semilinear.specs.Atoms.{term_of}
use Rattle.semilinear.specs.DecodeForm.{after_term}
use Rattle.semilinear.proofs.items.RowsIterator.next.Goals.{then-has_term, else-has_term}
use Rattle.semilinear.proofs.items.RowsIterator.next.Goals as goal

pub returns-clause-steps : goal.returns-clause-steps
unfolding term_of after_term
returns-clause-steps c =
    elim c.if-has_term.branch [
      | then-has_term w ↦ record { atom = search (rules); number = search (rules); coeff = search (rules); after = search (rules); terms = search (rules) }
      | else-has_term w ↦ record { atom = search (rules); number = search (rules); coeff = search (rules); after = search (rules); terms = search (rules) }
    ]
