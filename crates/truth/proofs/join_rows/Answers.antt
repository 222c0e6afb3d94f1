-- `join_rows` meets its contract: a case for each kind.
use Rattle.truth.proofs.RowsLaws.{join_and, join_or, join_xor}
use native.Mathlib.Omega.{arith}
use Rattle.truth.proofs.join_rows.Goals as goal

pub returns-then-k : goal.returns-then-k
returns-then-k c i = join_and _ _ _ i c.if-k.true

pub returns-then-k-2 : goal.returns-then-k-2
returns-then-k-2 c i = join_or _ _ _ i c.if-k-2.true

pub returns-else-k-2 : goal.returns-else-k-2
returns-else-k-2 c i = join_xor _ _ _ i (omega arith) (omega arith)
