-- `coalesce_table` meets its contract: few atoms go into short arrays.
use native.Mathlib.Omega.{arith}
use Rattle.group.proofs.PassLaws.{form_fewer}
use Rattle.coalesce.proofs.coalesce_table.Goals as goal

pub coalesce_sized-requires : goal.coalesce_sized-requires
coalesce_sized-requires c =
    let pre = c.requires in
    (omega arith, form_fewer pre.1 (omega (arith, pre.0, c.if-count-le-SHORT_ATOMS_U64.true)))

pub coalesce_sized-requires-2 : goal.coalesce_sized-requires-2
coalesce_sized-requires-2 c = (omega arith, c.requires.1)
