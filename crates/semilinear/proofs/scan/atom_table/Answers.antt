-- `atom_table` meets its contract: the loop keeps what the atoms before `at` add.
use native.Mathlib.Omega.{arith}
use Rattle.std.proofs.Common.{rules}
use Rattle.semilinear.proofs.ScanLaws.{passed_none, passed_table, passed_atom}
use Rattle.semilinear.proofs.scan.atom_table.Goals as goal

pub loop-atom-init : goal.loop-atom-init
loop-atom-init c = search (rules, passed_none)

pub overflow_add-records : goal.overflow_add-records
overflow_add-records c =
    let h = passed_atom c.in-Some.ensures.steps _ _ _ _ c.loop-atom.invariant in
    omega (arith, h.inside, h.bytes)

pub loop-atom-preserved : goal.loop-atom-preserved
loop-atom-preserved c = rw c.len-at.ensures (passed_atom c.in-Some.ensures.steps _ _ _ _ c.loop-atom.invariant)

pub returns : goal.returns
returns c = passed_table _ _ _ _ c.loop-atom.invariant c.in-None.ensures.steps.0
