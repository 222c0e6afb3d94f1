-- What lies in the second slice is copied whole.
use mathlib.Core.Path.{sym, ◌∙◌}
use Prim.Native.Nat.{◌-◌}
use native.Mathlib.Omega.{arith}
use lib.ListN.{length}
use lib.Seq.{length-take-le}
use Rattle.runner.proofs.TurnLaws.{second_room, settled_first, settled_second, put_whole}
use Rattle.runner.proofs.settle.Goals as goal

pub returns-then-first : goal.returns-then-first
returns-then-first c = settled_first c.if-first.true c.requires.0 c.requires.1

pub slice_bounds-put-end : goal.slice_bounds-put-end
slice_bounds-put-end c =
    sym (length-take-le _ c.args.spare.now (omega (arith, c.requires.0, second_room c.if-first.false c.requires.1)))

pub put-requires : goal.put-requires
put-requires c =
    let room = second_room c.if-first.false c.requires.1 in
    omega (arith, length-take-le (length c.args.sheet.now) c.args.spare.now (omega (arith, c.requires.0, room)))

pub returns : goal.returns
returns c =
    let room = second_room c.if-first.false c.requires.1 in
    let whole = length-take-le (length c.args.sheet.now) c.args.spare.now (omega (arith, c.requires.0, room)) in
    settled_second c.if-first.false c.requires.0 c.requires.1 _ (c.put.ensures ∙ put_whole _ _ (sym whole))
