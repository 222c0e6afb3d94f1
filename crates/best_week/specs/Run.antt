-- A run of played days (document 02, #112): at most 4,096 records of 16 bytes, each with a day, its par and the moves
-- made, and what is refused.
use Rattle.std.specs.Prelude.{ℕ, ◌+◌, ◌-◌, ◌*◌, ◌/◌, ◌%◌, List, Bool, not, ◌&&◌, length, eqb, leb}
use Rattle.base.specs.Choice.{when}
use Rattle.base.specs.Limits.{record_length}
use Rattle.base.specs.Loop.{first_in}
use Rattle.record.specs.Fields.{u16, u32, u64}

-- the records of the longest run
abbrev pub run_records : ℕ
run_records = 4096

-- the records of a run
abbrev pub records : List ℕ → ℕ
records s = length s / record_length

-- record i: its day, its par, the moves, and the eight bytes behind them
unfoldable pub day : List ℕ → ℕ → ℕ
day s i = u32 s (record_length * i)

unfoldable pub par : List ℕ → ℕ → ℕ
par s i = u16 s (record_length * i + 4)

unfoldable pub moves : List ℕ → ℕ → ℕ
moves s i = u16 s (record_length * i + 6)

unfoldable pub rest : List ℕ → ℕ → ℕ
rest s i = u64 s (record_length * i + 8)

-- no number from a to below b passes the test
unfoldable pub none_in : (ℕ → Bool) → ℕ → ℕ → Bool
none_in p a b = leb b (first_in p a b)

-- record i has a non-zero byte that must be 0
unfoldable pub filled : List ℕ → ℕ → Bool
filled s i = not (eqb (rest s i) 0)

-- the day of record i is not above the one before
unfoldable pub falls : List ℕ → ℕ → Bool
falls s i = leb (day s i) (day s (i - 1))

-- whole records, not too many, with zeros where they must be
unfoldable pub well_formed : List ℕ → Bool
well_formed s =
    leb (length s) (record_length * run_records) && (eqb (length s % record_length) 0 && none_in (filled s) 0 (records s))

-- the refusal of a run, 0 where it is accepted: 20 first, then 21
unfoldable pub run_refusal : List ℕ → ℕ
run_refusal s =
    when (well_formed s) (λ _. when (none_in (falls s) 1 (records s)) (λ _. 0) (λ _. 21)) (λ _. 20)
