-- `newest_slot` meets its contract: the loop keeps that the atoms below `j` decide.
use mathlib.Core.Path.{refl, sym, ◌∙◌}
use native.Mathlib.Omega.{arith}
use Rattle.register.specs.Index.{newest_slot}
use Rattle.register.proofs.SlotLaws.{last_below, last_here, last_end}
use Rattle.register.proofs.index.newest_slot.Goals as goal

pub loop-j-init : goal.loop-j-init
unfolding newest_slot
loop-j-init c = refl

pub returns-then-same_slot : goal.returns-then-same_slot
returns-then-same_slot c =
    sym
    (c.loop-j.invariant
    ∙ last_here _ c.loop-j.j (omega arith) (sym c.same_slot.ensures ∙ c.if-same_slot.true))

pub loop-j-preserved : goal.loop-j-preserved
loop-j-preserved c =
    c.loop-j.invariant
    ∙ last_below _ c.loop-j.j (omega arith) (sym c.same_slot.ensures ∙ c.if-same_slot.false)

pub returns : goal.returns
returns c = sym (c.loop-j.invariant ∙ last_end _ c.loop-j.j (omega arith))
