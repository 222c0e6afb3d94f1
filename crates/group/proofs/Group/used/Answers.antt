-- `Group::used` meets its contract: the front of the array is the entries that are taken.
use mathlib.Core.Path.{ap, ◌∙◌}
use native.Mathlib.Omega.{arith}
use lib.ListN.{length}
use Rattle.group.proofs.EntryLaws.{taken, length_used}
use Rattle.group.proofs.Group.used.Goals as goal

pub returns : goal.returns
returns c =
    let g = c.args.self.now in
    let e = taken g g.len (omega (arith, c.requires)) in
    (e, ap length e ∙ length_used g)
