-- `leaf_hash` meets its contract: a literal or a variable.
use Rattle.expr.specs.Hash.{structural_hash, tag_hash, var_hash}
use Rattle.record.specs.Decode.{leaf}
use Rattle.std.proofs.Common.{ap, ◌∙◌, eq-eqb, ne_eqb}
use Rattle.expr.proofs.hash.leaf_hash.Goals as goal

pub returns-then-kind : goal.returns-then-kind
unfolding structural_hash leaf
returns-then-kind c =
    simp (
      ← c.kind.ensures,
      eq-eqb _ _ c.if-kind.true,
    ) (c.tag_hash.ensures ∙ ap (tag_hash 0) c.literal.ensures)

pub returns : goal.returns
unfolding structural_hash leaf
returns c =
    simp (
      ← c.kind.ensures,
      ne_eqb _ _ c.if-kind.false,
    ) (c.var_hash.ensures ∙ ap var_hash c.var_index.ensures.0)
