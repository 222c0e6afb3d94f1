-- `day` meets its contract: it reads the four bytes of its day.
use Rattle.best_week.specs.Run.{day}
use Rattle.best_week.proofs.run.day.Goals as goal

pub returns : goal.returns
unfolding day
returns c = c.read_u32.ensures
