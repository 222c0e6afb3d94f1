-- `add_coeff` meets its contract: the loop keeps that the sums before `i` have the coefficient.
use Rattle.judge.proofs.SumsLaws.{adding_start, adding_skip, adding_set, adding_done}
use lib.ListN.{length}
use Prim.Native.Nat.{◌<◌}
use native.Mathlib.Omega.{arith}
use Rattle.judge.proofs.sums.add_coeff.Goals as goal
use Rattle.judge.proofs.sums.add_coeff.Goals.{else-left-eq1, then-left-eq1}

pub loop-i-init : goal.loop-i-init
loop-i-init c = adding_start _ _ _ _

pub loop-i-preserved : goal.loop-i-preserved
loop-i-preserved c =
    let sums₀ = c.args.sums.now in
    let inside : c.loop-i.i < length sums₀ = omega (arith, c.loop-i.invariant.long) in
    elim c.if-left-eq1.branch [
      | then-left-eq1 w ↦ rw w.sums-is
          (adding_set c.args.w c.args.rows c.args.c sums₀ c.loop-i.sums c.loop-i.left
          c.loop-i.i c.loop-i.invariant c.requires.0 inside w.if-left-eq1.true w.mod_add.ensures)
      | else-left-eq1 w ↦ rw w.sums-is
          (adding_skip c.args.w c.args.rows c.args.c sums₀ c.loop-i.sums c.loop-i.left
          c.loop-i.i c.loop-i.invariant inside c.requires.1 w.if-left-eq1.false)
    ]

pub shape_of-sums : goal.shape_of-sums
shape_of-sums c = c.loop-i.invariant.long

pub returns : goal.returns
returns c = adding_done _ _ _ _ _ _ _ c.loop-i.invariant (omega (arith, c.loop-i.invariant.long))
