-- `binary` meets its contract: the arithmetic kinds; the others are found by the definition.
use Rattle.expr.specs.Value.{binary}
use Rattle.std.proofs.Common.{◌∙◌}
use Rattle.arith.proofs.WidthLaws.{mod_add_lem, mod_mul_lem}
use Rattle.expr.proofs.value.binary.Goals as goal

pub returns-then-k : goal.returns-then-k
unfolding binary
returns-then-k c = rw c.if-k.true (c.mod_add.ensures ∙ mod_add_lem _ _ _ c.requires)

pub returns-then-k-2 : goal.returns-then-k-2
unfolding binary
returns-then-k-2 c = rw c.if-k-2.true (c.mod_mul.ensures ∙ mod_mul_lem _ _ _ c.requires)
