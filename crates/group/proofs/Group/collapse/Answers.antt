use mathlib.Core.Path.{refl}
use Rattle.record.specs.Decode.{decode}
use Rattle.group.specs.Group.{at, put_entry, consumed}
use Rattle.group.specs.Steps.{remasked}
use Rattle.group.proofs.CollapseLaws.{collapsed_stepped}
use Rattle.group.proofs.Group.collapse.Goals as goal

pub returns : goal.returns
unfolding put_entry remasked consumed at
returns c =
    let a = c.args in
    collapsed_stepped a.w (decode a.b.bytes.now) a.i a.j a.k c.create_masked.ensures c.create_masked-2.ensures refl
