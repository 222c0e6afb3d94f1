-- `eliminate_mask` meets its contract: the number of the bare basis, and the group as it is stored.
use mathlib.Core.Path.{refl, ap, ◌∙◌}
use Rattle.arith.specs.Width.{bitmask}
use Rattle.arith.proofs.WidthLaws.{bitmask_ones}
use Rattle.record.specs.Decode.{decode}
use Rattle.group.specs.Group.{at, put_entry}
use Rattle.recover_pair.proofs.TurnedLaws.{eliminate_turned}
use Rattle.recover_pair.proofs.pair.eliminate_mask.Goals as goal

pub returns : goal.returns
unfolding put_entry at
returns c =
    let a = c.args in
    let pre = c.requires in
    eliminate_turned a.w (decode a.b.bytes.now) a.diff a.i a.j
    (c.bitmask.ensures ∙ ap bitmask c.from.ensures ∙ bitmask_ones a.w pre.makes.width) pre.not_full
    c.find_or_create_bare-atom.ensures refl
