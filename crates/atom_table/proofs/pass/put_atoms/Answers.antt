-- `put_atoms` meets its contract: the loop keeps that the atoms before `at` are put and counted.
use native.Mathlib.Omega.{arith}
use Rattle.atom_table.proofs.SpansLaws.{spans_all, span_ready, span_room, spans_more}
use Rattle.semilinear.proofs.ScanLaws.{passed_atom}
use Rattle.atom_table.proofs.pass.put_atoms.Goals as goal

pub put_atom-requires : goal.put_atom-requires
put_atom-requires c =
    let g = c.in-Some.ensures.steps in
    let ready = span_ready _ _ _ c.requires.1 _ _ _ _ c.loop-atom.invariant g in
    (span_room _ _ _ c.requires.1 _ _ _ _ c.loop-atom.invariant g, ready.0, ready.1)

pub overflow_add-records : goal.overflow_add-records
overflow_add-records c =
    let h = passed_atom c.in-Some.ensures.steps _ _ _ _ c.loop-atom.invariant.scanned in
    omega (arith, h.inside, h.bytes)

pub loop-atom-preserved : goal.loop-atom-preserved
loop-atom-preserved c =
    rw c.len-at.ensures
    (spans_more _ _ _ c.requires.1 _ _ _ _ c.loop-atom.invariant c.in-Some.ensures.steps c.put_atom.ensures)

pub returns : goal.returns
returns c = spans_all _ _ _ c.requires.1 _ _ _ _ c.loop-atom.invariant c.in-None.ensures.steps.0
