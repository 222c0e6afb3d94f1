-- `fewer_ones` meets its contract: the ones of a word are those of its 64 bits.
use native.Mathlib.Omega.{arith}
use Rattle.recover_pair.proofs.PairingLaws.{counts_fewer}
use Rattle.recover_pair.proofs.pair.fewer_ones.Goals as goal

pub returns : goal.returns
returns c = counts_fewer _ _ (omega arith) (omega arith)
