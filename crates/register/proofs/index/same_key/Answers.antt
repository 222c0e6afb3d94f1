-- `same_key` meets its contract: the library's test of two arrays.
use mathlib.Core.Path.{◌∙◌}
use Rattle.register.proofs.SlotLaws.{pointwise_eq}
use Rattle.register.proofs.index.same_key.Goals as goal

pub returns : goal.returns
returns c = c.eq.ensures ∙ pointwise_eq _ _
