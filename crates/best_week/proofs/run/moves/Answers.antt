-- `moves` meets its contract: it reads the two bytes of its moves.
use Rattle.best_week.specs.Run.{moves}
use Rattle.best_week.proofs.run.moves.Goals as goal

pub returns : goal.returns
unfolding moves
returns c = c.read_u16.ensures
