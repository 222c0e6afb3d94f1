-- `rest` meets its contract: it reads the eight bytes that must be 0.
use Rattle.best_week.specs.Run.{rest}
use Rattle.best_week.proofs.run.rest.Goals as goal

pub returns : goal.returns
unfolding rest
returns c = c.read_u64.ensures
