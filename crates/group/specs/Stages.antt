-- The steps of refining in three stages, each behind one test: those that look at one entry, those that join two, and
-- the collapse. A stage is the identity where its test says so; that is a law.
use Rattle.std.specs.Prelude.{ℕ}
use Rattle.record.specs.Tree.{Tree}
use Rattle.group.specs.Group.{Work, on_group}
use Rattle.group.specs.Steps.{cut_masks, drop_zero, bucket_merge, pair_merge, to_minus_one}

-- the masks cut, and the terms without effect dropped
unfoldable pub cut_and_drop : ℕ → Tree → Work → Work
cut_and_drop w t x = on_group (drop_zero w) (cut_masks w t x)

-- entries joined, by coefficient and by pairs; then again where coefficients became 2 ^ w - 1
unfoldable pub merge_all : ℕ → Tree → Work → Work
merge_all w t x = pair_merge w t (on_group (to_minus_one w) (pair_merge w t (bucket_merge w t x)))
