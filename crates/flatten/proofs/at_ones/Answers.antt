-- `at_ones` meets its contract: one word of ones behind v zeros.
use mathlib.Core.Path.{ap, ◌∙◌}
use Prim.Native.Nat.{ℕ}
use mathlib.Core.List.{[], ◌∷◌, ◌++◌}
use lib.ListN.{replicate}
use Rattle.arith.proofs.WidthLaws.{bitmask_ones}
use Rattle.record.specs.Decode.{decode}
use Rattle.expr.specs.Value.{value}
use Rattle.structure_laws.specs.FlattenComplexAtoms.{at_ones}
use Rattle.flatten.proofs.at_ones.Goals as goal

pub value_from-requires : goal.value_from-requires
value_from-requires c =
    let pre = c.requires in
    record { whole = pre.0; width_le = pre.1 }

pub returns : goal.returns
unfolding at_ones
returns c =
    c.value_from.ensures
    ∙ ap (λ (x : ℕ). value c.args.w (replicate c.args.v 0 ++ (x ∷ [])) (decode c.args.t.now))
    (c.bitmask.ensures ∙ bitmask_ones _ c.requires.1)
