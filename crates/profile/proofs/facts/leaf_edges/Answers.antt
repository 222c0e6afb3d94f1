-- `leaf_edges` meets its contract: the edges of a literal, and none.
use Rattle.profile.proofs.FactsLaws.{edges_constant, edges_variable}
use Rattle.profile.proofs.facts.leaf_edges.Goals as goal

pub returns-then-kind : goal.returns-then-kind
returns-then-kind c =
    edges_constant _ c.kind.ensures c.if-kind.true c.literal-v.ensures

pub returns : goal.returns
returns c = edges_variable _ c.kind.ensures c.if-kind.false
