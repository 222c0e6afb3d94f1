-- `none_has` meets its contract: no row before i has the basis.
use mathlib.Core.Path.{◌≡◌, sym, ◌∙◌}
use mathlib.Core.Bool.{false}
use Prim.Native.Nat.{ℕ}
use native.Mathlib.Omega.{arith}
use Rattle.base.proofs.BoolLaws.{false_true}
use Rattle.views.specs.Views.{found_at, has_basis}
use Rattle.views.proofs.HasBasisLaws.{readable_fewer}
use Rattle.lone.proofs.LoneLaws.{from_more}
use Rattle.lone.proofs.none_has.Goals as goal

pub loop-i-init : goal.loop-i-init
loop-i-init c = λ k p q. absurd (omega arith)

pub has_basis-requires : goal.has_basis-requires
has_basis-requires c = readable_fewer c.requires _ (omega arith)

pub returns-then-has_basis : goal.returns-then-has_basis
returns-then-has_basis c = λ e. false_true e

pub loop-i-preserved : goal.loop-i-preserved
loop-i-preserved c =
    let a = c.args in
    from_more (λ (k : ℕ). has_basis a.f.now (found_at a.views.now k) a.hash a.b.now ≡ false) a.a
    c.loop-i.i c.loop-i.invariant (sym c.has_basis.ensures ∙ c.if-has_basis.false)

pub returns : goal.returns
returns c = λ _ k p q. c.loop-i.invariant k p (omega arith)
