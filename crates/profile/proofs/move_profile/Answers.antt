-- `move_profile` meets its contract: the loop keeps that the words before i were moved and the others are as they were.
use Prim.Native.Nat.{ℕ}
use mathlib.Core.Path.{ap, sym, ◌∙◌}
use native.Mathlib.Omega.{arith}
use Rattle.arith.specs.Bit.{bit_at}
use Rattle.profile.proofs.IndexLaws.{entry_edges}
use Rattle.profile.proofs.MoveLaws.{moving_edge, moving_still}
use Rattle.profile.proofs.move_profile.Goals as goal
use Rattle.profile.proofs.move_profile.Goals.{else-bit-eq1, then-bit-eq1}

pub loop-i-preserved : goal.loop-i-preserved
loop-i-preserved c =
    let f = c.args.f.now in
    let i = c.loop-i.i in
    let e = c.requires.0.entry i (omega (arith, c.requires.1, c.loop-i-test.true)) in
    let edges =
    c.bit.ensures
    ∙ ap (λ (x : ℕ). bit_at x c.args.p) (entry_edges e _) in
    elim c.if-bit-eq1.branch [
      | then-bit-eq1 w ↦ moving_edge f _ _ _ _ i c.loop-i-test.true c.loop-i.invariant (sym edges ∙ w.if-bit-eq1.true) w.profile_word.ensures w.profile-is
      | else-bit-eq1 w ↦ moving_still f _ _ _ _ i c.loop-i-test.true c.loop-i.invariant (λ b. w.if-bit-eq1.false (edges ∙ b)) w.profile-is
    ]
