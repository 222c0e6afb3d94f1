-- Parts of a file.
use Rattle.std.specs.Prelude.{◌≡◌, ℕ, ◌+◌, ◌-◌, ◌*◌, ◌≤◌, List, length, take, drop}
use Rattle.base.specs.Limits.{record_length}
use Rattle.record.specs.Fields.{u16}
use Rattle.expr_refusal.specs.Refusal.{tree_refusal}

-- the bytes from start to end
unfoldable pub span_of : List ℕ → ℕ → ℕ → List ℕ
span_of file start end = take (end - start) (drop start file)

-- the bytes of the subtree whose root is the record at byte `place`, by that record's size field
unfoldable pub span_under : List ℕ → ℕ → List ℕ
span_under file place =
    span_of file (place + record_length - record_length * u16 file (place + 2)) (place + record_length)

-- a part of the file that holds an accepted tree of width w
pub record Accepted (w : ℕ) (file : List ℕ) (start end : ℕ) : Type 0 where
  pub rising : start ≤ end
  pub inside : end ≤ length file
  pub tree : tree_refusal w (span_of file start end) ≡ 0
