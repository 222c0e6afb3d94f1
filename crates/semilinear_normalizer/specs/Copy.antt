-- The copy of a file that rules 2 work on: its variable-free subtrees below a bitwise operator are literals.
use Rattle.std.specs.Prelude.{◌≡◌, ℕ, ◌≤◌, List, false, length, take}
use Rattle.base.specs.Limits.{expr_bytes}
use Rattle.record.specs.Fields.{size}
use Rattle.record.specs.Decode.{decode}
use Rattle.expr_refusal.specs.Refusal.{tree_refusal}
use Rattle.rules_laws.specs.Rules.{fold_literals}

-- an accepted expression t of at most 1,024 records, a mark for each of them, and room for the copy
pub record CopyRoom (w : ℕ) (t marks folded : List ℕ) : Type 0 where
  pub accepted : tree_refusal w t ≡ 0
  pub long : length t ≤ expr_bytes
  pub marked : size t ≤ length marks
  pub room : length t ≤ length folded

-- the bytes of `after` up to `end` are the copy of t, an accepted expression again
pub record Copied (w : ℕ) (t after : List ℕ) (end : ℕ) : Type 0 where
  pub accepted : tree_refusal w (take end after) ≡ 0
  pub tree : decode (take end after) ≡ fold_literals w false (decode t)
  pub inside : end ≤ length after
  pub count : length (take end after) ≡ end
  pub few : end ≤ length t
