-- `atom_table` meets its contract: the loop keeps what the atoms before `at` add.
use Rattle.semilinear.proofs.ScanLaws.{Scanned}
use Rattle.semilinear.proofs.scan.atom_table.Given as goal

abbrev pub invariant-loop-atom : goal.invariant-loop-atom
invariant-loop-atom l = Scanned l.f l.at l.count l.records l.atom-iterator
