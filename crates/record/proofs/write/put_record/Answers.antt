-- `put_record` meets its contract: an array of the record's bytes, then one copy.
use mathlib.Core.Path.{◌≡◌}
use Prim.Native.Nat.{◌/◌, ◌%◌}
use native.Mathlib.Omega.{arith}
use Rattle.record.specs.Tree.{record_bytes}
use Rattle.record.proofs.write.put_record.Goals as goal

pub returns : goal.returns
unfolding record_bytes
returns c =
    let n = c.args.n in
    let h : n / 256 % 256 ≡ n / 256 = omega arith in
    rw (c.put.ensures, c.copy_from_slice.ensures.after, c.to_le_bytes.ensures, c.to_le_bytes-2.ensures, h)
