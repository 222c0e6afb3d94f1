-- `same_bytes` meets its contract: `==` of two slices.
use mathlib.Core.Path.{◌∙◌}
use Rattle.base.proofs.ListsLaws.{pointwise_eq_list}
use Rattle.record.proofs.same_bytes.Goals as goal

pub returns : goal.returns
returns c = c.eq.ensures ∙ pointwise_eq_list _ _
