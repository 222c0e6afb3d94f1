-- The loop keeps that the search goes on from `i`.
use Rattle.judge.specs.Found.{unlike_sums}
use Rattle.judge.proofs.FoundLaws.{test_unlike, test_same}
use Rattle.base.proofs.LoopLaws.{first_next, first_here, first_end}
use mathlib.Core.Path.{◌≡◌, refl, sym, ◌∙◌}
use native.Mathlib.Omega.{arith}
use native.Mathlib.Nat.{one-mul}
use lib.Pow.{shl_exact}
use lib.Dec.{lit<}
use lib.ListN.{length}
use Rattle.judge.proofs.first_unlike.Goals as goal

pub loop-i-init : goal.loop-i-init
loop-i-init c = (
  shl_exact {a = 1} 1 c.args.place 64 (lit< tt) (omega (arith, c.requires.2))
      ∙ one-mul _,
  refl,
)

pub returns-then-x-y : goal.returns-then-x-y
returns-then-x-y c =
    let l = c.args.left.now in
    let r = c.args.right.now in
    let test = unlike_sums c.args.w c.args.place l r in
    let i = c.loop-i.i in (
      omega arith,
      sym
          (c.loop-i.invariant.1
          ∙ first_here test i (length l) (omega arith)
          (test_unlike c.args.w c.args.place l r i c.loop-i.invariant.0
          c.mod_add.ensures
          c.mod_mul-x.ensures c.mod_add-in-loop-i.ensures
          c.mod_mul-y.ensures c.if-x-y.true)),
    )

pub loop-i-preserved : goal.loop-i-preserved
loop-i-preserved c =
    let l = c.args.left.now in
    let r = c.args.right.now in
    let test = unlike_sums c.args.w c.args.place l r in
    let i = c.loop-i.i in (
      c.loop-i.invariant.0,
      c.loop-i.invariant.1
          ∙ first_next test i (length l) (omega arith)
          (test_same c.args.w c.args.place l r i c.loop-i.invariant.0
          c.mod_add.ensures
          c.mod_mul-x.ensures c.mod_add-in-loop-i.ensures
          c.mod_mul-y.ensures c.if-x-y.false),
    )

pub returns : goal.returns
returns c =
    let all : c.loop-i.i ≡ length c.args.left.now = omega arith in
    c.loop-i.invariant.1
    ∙ first_end (unlike_sums c.args.w c.args.place c.args.left.now c.args.right.now)
    c.loop-i.i (length c.args.left.now) (omega arith)
    ∙ all
