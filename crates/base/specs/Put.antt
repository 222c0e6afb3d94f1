-- What stands in a lent slice after a write: bytes put in from an index on, and zeros behind.
use Rattle.std.specs.Prelude.{ℕ, ◌+◌, ◌-◌, List, ◌++◌, length, take, drop, replicate}

-- d with s in place of what stands from index `at` on
unfoldable pub put : {A : Type 0} → List A → ℕ → List A → List A
put d at s = take at d ++ s ++ drop (at + length s) d

-- l at the start of len elements, zeros behind
unfoldable pub padded : ℕ → List ℕ → List ℕ
padded len l = l ++ replicate (len - length l) 0
