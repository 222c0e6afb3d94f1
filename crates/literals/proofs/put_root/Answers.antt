-- `put_root` meets its contract: the size is one more than the records before.
use Rattle.literals.proofs.RootLaws.{root_put}
use Rattle.literals.proofs.put_root.Goals as goal

pub returns : goal.returns
returns c =
    root_put _ c.requires.rising c.number_of-n.ensures c.put_record.ensures
