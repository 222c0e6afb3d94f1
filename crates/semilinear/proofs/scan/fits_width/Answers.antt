-- `fits_width` meets its contract: a number has w bits where it is at most the mask of w bits.
use mathlib.Core.Path.{◌∙◌, ap}
use lib.Dec.{leb}
use Rattle.semilinear.proofs.ScanLaws.{leb_bitmask}
use borrow.Author.Rules.{rules}
use Rattle.semilinear.proofs.scan.fits_width.Goals as goal

pub returns : goal.returns
returns c = ap (leb c.args.x) c.bitmask.ensures ∙ leb_bitmask _ _ (search rules)
