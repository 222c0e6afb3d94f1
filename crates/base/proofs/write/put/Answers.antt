-- `put` meets its contract: after i turns the first i elements of s stand in d.
use mathlib.Core.Path.{◌≡◌, refl, ◌∙◌}
use Prim.Native.Nat.{◌+◌, ◌-◌, ◌<◌}
use native.Mathlib.Omega.{arith}
use native.Mathlib.Numerals.{add-one}
use lib.ListN.{length, length-set}
use lib.Seq.{paste-zero, paste-suc}
use Rattle.base.proofs.PutLaws.{put_all}
use Rattle.base.proofs.write.put.Goals as goal

pub returns : goal.returns
returns g c =
    let s = c.args.s.now in
    let e : c.loop-i.i ≡ length s = omega arith in
    c.loop-i.invariant.0 ∙ rw e (put_all c.args.d.now c.args.at s)

pub loop-i-preserved : goal.loop-i-preserved
loop-i-preserved g c =
    let d = c.args.d.now in
    let s = c.args.s.now in
    let at = c.args.at in
    let i = c.loop-i.i in
    let x = c.index-s-i.result in
    let room : at + i < length d = omega arith in
    let inv = c.loop-i.invariant in (
      rw (inv.0, c.index-s-i.is, add-one) (paste-suc d at s i x room c.loop-i-test.true),
      simp length-set inv.1,
    )
