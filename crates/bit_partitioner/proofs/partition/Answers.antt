-- `partition` meets its contract: the arrays have room for its atoms.
use native.Mathlib.Omega.{arith}
use Rattle.bit_partitioner.proofs.partition.Goals as goal

pub whole_as_front-partition_atoms : goal.whole_as_front-partition_atoms
whole_as_front-partition_atoms g c = (c.requires.0.few, omega (arith, c.requires.1))
