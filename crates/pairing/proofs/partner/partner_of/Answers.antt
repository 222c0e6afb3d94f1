-- `partner_of` meets its contract: the search goes on from where the code stands.
use mathlib.Core.Path.{refl, sym, ◌∙◌}
use native.Mathlib.Omega.{arith}
use lib.ListN.{length}
use Rattle.base.proofs.LoopLaws.{first_next, first_here, first_end}
use Rattle.entries.proofs.FoundLaws.{some_below, none_below}
use Rattle.pairing.specs.Recovering.{partner_fits}
use Rattle.pairing.proofs.partner.partner_of.Goals as goal

pub loop-j-init : goal.loop-j-init
loop-j-init c = refl

pub returns-then-is_partner : goal.returns-then-is_partner
unfolding partner_fits
returns-then-is_partner c =
    let a = c.args in
    let e =
    c.loop-j.invariant
    ∙ first_here (partner_fits a.m a.entries.now) c.loop-j.j (length a.entries.now) c.loop-j-test.true
    (sym c.is_partner.ensures ∙ c.if-is_partner.true) in
    rw (← e) (some_below (omega (arith, e, c.loop-j-test.true)))

pub loop-j-preserved : goal.loop-j-preserved
unfolding partner_fits
loop-j-preserved c =
    let a = c.args in
    c.loop-j.invariant
    ∙ first_next (partner_fits a.m a.entries.now) c.loop-j.j (length a.entries.now) c.loop-j-test.true
    (sym c.is_partner.ensures ∙ c.if-is_partner.false)

pub returns : goal.returns
returns c =
    let a = c.args in
    let end =
    c.loop-j.invariant
    ∙ first_end (partner_fits a.m a.entries.now) c.loop-j.j (length a.entries.now) c.loop-j-test.false in
    none_below (omega (arith, end, c.loop-j-test.false))
