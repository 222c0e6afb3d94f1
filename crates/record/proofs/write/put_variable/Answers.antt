-- `put_variable` meets its contract: an array of the bytes of a variable's record, then one copy.
use mathlib.Core.Path.{◌≡◌}
use Prim.Native.Nat.{◌/◌, ◌%◌}
use native.Mathlib.Omega.{arith}
use Rattle.record.specs.Tree.{encode, variable_bytes}
use Rattle.record.proofs.write.put_variable.Goals as goal

pub returns : goal.returns
unfolding encode variable_bytes
returns c =
    let v = c.args.v in
    let h : v / 256 % 256 ≡ v / 256 = omega arith in
    rw (c.put.ensures, c.to_le_bytes.ensures, h)
