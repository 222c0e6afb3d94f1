-- `add_place` meets its contract: the shifted 1 is the place's power of two.
use Rattle.classes.proofs.ClassWordsLaws.{add_place_set}
use Rattle.classes.proofs.add_place.Goals as goal

pub returns : goal.returns
returns c = add_place_set _ _ _ c.requires.1
