-- What a read that fails half-way leaves.
use Rattle.std.specs.Prelude.{ℕ, ◌≤◌, List, length, take, Option}
use Rattle.std.specs.Io.KnownBytes.{Consumes}

-- what the reader gave stands at the start of buf, where its bytes are known
abbrev pub HoldsRead : Option (List ℕ) → Option (List ℕ) → List ℕ → Type 0
HoldsRead old new buf = (k : ℕ) × (k ≤ length buf) × Consumes old new (take k buf)
