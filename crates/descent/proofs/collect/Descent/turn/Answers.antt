-- `turn` meets its contract: by whether the Not is turned.
use mathlib.Core.Path.{sym}
use Rattle.descent.specs.Spots.{turn_by}
use Rattle.descent.proofs.collect.Descent.turn.Goals as goal

pub returns-then-turned : goal.returns-then-turned
unfolding turn_by
returns-then-turned c = rw c.mod_add.ensures (sym (simp c.if-turned.true))

pub returns-else-turned : goal.returns-else-turned
unfolding turn_by
returns-else-turned c = sym (simp c.if-turned.false)
