-- What `fold_literals` and `put_root` ask and write: the bytes of a tree with its literals folded, in lent bytes.
use Rattle.std.specs.Prelude.{◌≡◌, ℕ, ◌+◌, ◌-◌, ◌*◌, ◌%◌, ◌≤◌, ◌<◌, List, Bool, length}
use Rattle.base.specs.Limits.{record_length, expr_bytes}
use Rattle.base.specs.Put.{put}
use Rattle.record.specs.Tree.{Tree, size_of, record_bytes, encode}
use Rattle.record.specs.Decode.{decode}
use Rattle.expr_refusal.specs.Refusal.{tree_refusal}
use Rattle.ways.specs.Marks.{marks_of}
use Rattle.rules_laws.specs.Rules.{fold_literals}

-- an accepted tree with its marks, and room for as many bytes from `at` on; the tree is no longer than an expression,
-- so that the two bytes of a size field hold the records of each of its roots
pub record FoldRoom (w : ℕ) (t marks : List ℕ) (at : ℕ) (out : List ℕ) : Type 0 where
  pub accepted : tree_refusal w t ≡ 0
  pub long : length t ≤ expr_bytes
  pub marked : marks ≡ marks_of (decode t)
  pub room : at + length t ≤ length out

-- the bytes of the folded tree are put from `at` on, and end at r
pub record Folded (w : ℕ) (below : Bool) (t : Tree) (at : ℕ) (before after : List ℕ) (r : ℕ) : Type 0 where
  pub written : after ≡ put before at (encode w (fold_literals w below t))
  pub ends : r ≡ at + record_length * size_of (fold_literals w below t)

-- room for a root behind its children, which stand from `at` to `end` as whole records; with it they are no longer than
-- an expression, so that its size field holds how many they are
pub record RootRoom (at end : ℕ) (out : List ℕ) : Type 0 where
  pub room : end + record_length ≤ length out
  pub rising : at ≤ end
  pub long : end - at < expr_bytes
  pub whole : (end - at) % record_length ≡ 0

-- a root of kind k and byte 1 a behind children of n records
pub record RootPut (k a at end w : ℕ) (before after : List ℕ) (r : ℕ) : Type 0 where
  pub written : (n : ℕ) → end ≡ at + record_length * n → after ≡ put before end (record_bytes k a (n + 1) w 0)
  pub ends : r ≡ end + record_length
