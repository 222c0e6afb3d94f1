-- `refine_table` meets its contract: few atoms go into short arrays.
use native.Mathlib.Omega.{arith}
use Rattle.group.proofs.PassLaws.{form_fewer}
use Rattle.term_refiner.proofs.refine_table.Goals as goal

pub refine_sized-requires : goal.refine_sized-requires
refine_sized-requires c =
    let pre = c.requires in
    (omega arith, form_fewer pre.1 (omega (arith, pre.0, c.if-count-le-SHORT_ATOMS_U64.true)))

pub refine_sized-requires-2 : goal.refine_sized-requires-2
refine_sized-requires-2 c = (omega arith, c.requires.1)
