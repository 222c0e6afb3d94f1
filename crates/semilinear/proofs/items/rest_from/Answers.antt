-- `rest_from` meets its contract: a slice to the end drops what is before it.
use Prim.Native.Nat.{◌-◌}
use lib.ListN.{length, drop, length-drop}
use native.Mathlib.Omega.{arith}
use lib.ListN.{drop, length-drop}
use lib.Seq.{take_all}
use Rattle.semilinear.proofs.items.rest_from.Goals as goal

pub returns : goal.returns
returns c =
    take_all (length c.args.f.now - c.args.at)
    (drop c.args.at c.args.f.now)
    (omega (arith, length-drop c.args.at c.args.f.now))
