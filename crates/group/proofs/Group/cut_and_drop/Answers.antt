-- `cut_and_drop` meets its contract: the two steps in turn.
use mathlib.Core.Path.{ap, ◌∙◌}
use Prim.Native.Nat.{ℕ}
use Rattle.group.specs.Steps.{drop_zero}
use Rattle.group.proofs.StagesLaws.{cut_and_drop_lem}
use Rattle.group.proofs.Group.cut_and_drop.Goals as goal

pub returns : goal.returns
returns c =
    cut_and_drop_lem _ c.cut_masks.ensures
    (c.drop_zero.ensures ∙ ap (λ (w : ℕ). drop_zero w c.cut_masks.new.self) c.from.ensures)
