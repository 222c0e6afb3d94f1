-- `par` meets its contract: it reads the two bytes of its par.
use Rattle.best_week.specs.Run.{par}
use Rattle.best_week.proofs.run.par.Goals as goal

pub returns : goal.returns
unfolding par
returns c = c.read_u16.ensures
