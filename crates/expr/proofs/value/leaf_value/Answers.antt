-- `leaf_value` meets its contract: a literal or a variable, cut to w bits.
use Rattle.expr.specs.Value.{value}
use Rattle.record.specs.Decode.{leaf}
use Rattle.std.proofs.Common.{◌∙◌, ap₂, eq-eqb, ne_eqb}
use Rattle.arith.proofs.WidthLaws.{and_bitmask}
use lib.Bits.{bit_and}
use Rattle.expr.proofs.value.leaf_value.Goals as goal

pub returns-then-kind : goal.returns-then-kind
unfolding value leaf
returns-then-kind c =
    simp (
      ← c.kind.ensures,
      eq-eqb _ _ c.if-kind.true,
    ) (ap₂ bit_and c.literal.ensures c.bitmask-mask.ensures ∙ and_bitmask _ _ c.requires.1)

pub returns : goal.returns
unfolding value leaf
returns c =
    simp (
      ← c.kind.ensures,
      ne_eqb _ _ c.if-kind.false,
      ← c.var_index.ensures.0,
    ) (ap₂ bit_and c.word.ensures c.bitmask-mask.ensures ∙ and_bitmask _ _ c.requires.1)
