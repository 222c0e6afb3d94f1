-- `put_atoms` meets its contract: the loop keeps that the atoms before `at` are put and counted.
use Rattle.atom_table.proofs.SpansLaws.{SpansPut}
use Rattle.atom_table.proofs.pass.put_atoms.Given as goal

abbrev pub invariant-loop-atom : goal.invariant-loop-atom
invariant-loop-atom l = SpansPut l.w l.f l.initial.out l.at l.count l.records l.out l.atom-iterator
