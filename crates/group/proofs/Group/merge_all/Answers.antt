-- `merge_all` meets its contract: the steps in turn.
use mathlib.Core.Path.{ap, ◌∙◌}
use Prim.Native.Nat.{ℕ}
use native.Mathlib.Omega.{arith}
use Rattle.made.proofs.WordsLaws.{makes_later}
use Rattle.group.specs.Steps.{to_minus_one}
use Rattle.group.proofs.StagesLaws.{len_minus_one, merge_all_lem}
use Rattle.group.proofs.Group.merge_all.Goals as goal

pub pair_merge-requires-2 : goal.pair_merge-requires-2
pair_merge-requires-2 c =
    let one = c.bucket_merge.ensures in
    let two = c.pair_merge.ensures in
    let pre = c.requires in
    record {
      makes = makes_later pre.makes two.room (omega (arith, one.later.rows_le, two.later.rows_le));
      few = omega (arith, len_minus_one _ _ c.to_minus_one.ensures, one.len, two.len, pre.few);
    }

pub returns : goal.returns
returns c =
    merge_all_lem _ c.bucket_merge.ensures c.pair_merge.ensures
    (c.to_minus_one.ensures ∙ ap (λ (w : ℕ). to_minus_one w c.pair_merge.new.self) c.from.ensures) c.pair_merge-2.ensures
