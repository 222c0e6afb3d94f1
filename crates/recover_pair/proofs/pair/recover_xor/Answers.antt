-- `recover_xor` meets its contract: the group as it is stored, a new row, and the constant with its share.
use mathlib.Core.Path.{refl, ap, ◌∙◌}
use Rattle.arith.specs.Width.{bitmask}
use Rattle.arith.proofs.WidthLaws.{bitmask_ones}
use Rattle.record.specs.Decode.{decode}
use Rattle.group.specs.Group.{at, put_entry, consumed}
use Rattle.recover_pair.proofs.TurnedLaws.{xor_turned}
use Rattle.recover_pair.proofs.pair.recover_xor.Goals as goal

pub returns : goal.returns
unfolding put_entry consumed at
returns c =
    let a = c.args in
    xor_turned a.w (decode a.b.now) a.src a.dst (c.bitmask.ensures ∙ ap bitmask c.from-width.ensures ∙ bitmask_ones a.w c.requires.width)
    c.create_xored.ensures (rw c.from-width.ensures at c.mod_mul.ensures)
    (rw c.from-width.ensures at c.add_constant.ensures) refl
