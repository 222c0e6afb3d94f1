-- How many bytes of a result slice hold a form.
use Rattle.std.specs.Prelude.{◌≡◌, ◌⊎◌, ℕ, ◌≤◌, List, length, replicate}
use Rattle.std.specs.Counts.{IsPrefixLen}
use Rattle.base.specs.Limits.{record_length}

-- n bytes at the start of out: none where there is no form, else a sum record at least
abbrev pub IsUsed : ℕ → List ℕ → Type 0
IsUsed n out = IsPrefixLen n out × ((n ≡ 0 → ⊥) → record_length ≤ n)

-- every byte became zero, as on a refusal
abbrev pub IsCleared : List ℕ → List ℕ → Type 0
IsCleared old new = new ≡ replicate (length old) 0

-- as it was, or cleared
abbrev pub HoldsNoForm : List ℕ → List ℕ → Type 0
HoldsNoForm old new = (new ≡ old) ⊎ IsCleared old new
