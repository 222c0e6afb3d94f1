-- `bits_without` meets its contract: the bits of the complement at w bits.
use mathlib.Core.Path.{ap, ◌∙◌}
use lib.Bits.{bit_and}
use Rattle.arith.proofs.WidthLaws.{mod_not_exact}
use Rattle.flatten.proofs.bits_without.Goals as goal

pub returns : goal.returns
returns c =
    ap (bit_and c.args.a)
    (c.mod_not.ensures ∙ mod_not_exact _ _ c.requires.0 c.requires.1)
