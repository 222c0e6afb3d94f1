-- What the code asks of a pair of entries (specs/Steps.antt, `pair_at`).
use Rattle.std.specs.Prelude.{ℕ, Option, Some, None}
use Rattle.record.specs.Tree.{Tree}
use Rattle.group.specs.Group.{Work}
use Rattle.group.specs.Steps.{join_at}

-- the join that was found
unfoldable pub join_found : ℕ → Tree → ℕ → ℕ → Option ℕ → Work → Work
join_found w t i j None x = x
join_found w t i j (Some c) x = join_at w t c i j x
