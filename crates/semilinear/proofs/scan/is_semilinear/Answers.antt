-- `is_semilinear` meets its contract: an accepted sum record has its whole length.
use mathlib.Core.Path.{sym, ◌∙◌}
use Rattle.semilinear.proofs.ValidLaws.{sum_parts}
use Rattle.semilinear.proofs.scan.is_semilinear.Goals as goal

pub width-requires : goal.width-requires
width-requires c = (sum_parts _ (sym c.sum_ok.ensures ∙ c.if-sum_ok.true)).big
