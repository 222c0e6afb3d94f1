-- `column` meets its contract: each word is tested in its 64 rows, and no row has a bit from place 6 on.
use Rattle.truth.proofs.RowsLaws.{column_bits, column_past}
use mathlib.Core.Path.{refl}
use native.Mathlib.Omega.{arith}
use Rattle.truth.proofs.column.Goals as goal

pub returns-in-0 : goal.returns-in-0
returns-in-0 c = column_bits 64 _ 0 refl c.in-0.is

pub returns-in-1 : goal.returns-in-1
returns-in-1 c = column_bits 64 _ 1 refl c.in-1.is

pub returns-in-2 : goal.returns-in-2
returns-in-2 c = column_bits 64 _ 2 refl c.in-2.is

pub returns-in-3 : goal.returns-in-3
returns-in-3 c = column_bits 64 _ 3 refl c.in-3.is

pub returns-in-4 : goal.returns-in-4
returns-in-4 c = column_bits 64 _ 4 refl c.in-4.is

pub returns-in-5 : goal.returns-in-5
returns-in-5 c = column_bits 64 _ 5 refl c.in-5.is

pub returns-in_default : goal.returns-in_default
returns-in_default c =
    column_past 6 c.args.j (omega arith)
