-- `check_bitwise` meets its contract: what is found at a root without, with one and with two children.
use lib.ListN.{length}
use Rattle.bitwise.proofs.+check_bitwise.Given as goal

abbrev pub decreases-check_bitwise : goal.decreases-check_bitwise
decreases-check_bitwise l = length l.t.now
