-- `arith::bit` meets its contract: nothing stands past the last bit of a word.
use Rattle.std.proofs.Common.{sym, rules}
use Rattle.arith.proofs.BitLaws.{bit_past}
use Rattle.arith.proofs.bit.Goals as goal

pub returns-then-i-ge64 : goal.returns-then-i-ge64
returns-then-i-ge64 c = sym (bit_past c.args.m 64 c.args.i (search rules) (search rules))
