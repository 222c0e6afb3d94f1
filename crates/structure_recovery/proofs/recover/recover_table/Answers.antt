-- `recover_table` meets its contract: few atoms go into short arrays.
use native.Mathlib.Omega.{arith}
use Rattle.group.proofs.PassLaws.{form_fewer}
use Rattle.structure_recovery.proofs.recover.recover_table.Goals as goal

pub recover_sized-requires : goal.recover_sized-requires
recover_sized-requires c =
    let pre = c.requires in
    (omega arith, form_fewer pre.1 (omega (arith, pre.0, c.if-count-le-SHORT_ATOMS_U64.true)))

pub recover_sized-requires-2 : goal.recover_sized-requires-2
recover_sized-requires-2 c = (omega arith, c.requires.1)
