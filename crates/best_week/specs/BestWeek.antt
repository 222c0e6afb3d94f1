-- The best seven days of a run (document 02, #112): the lowest total of moves minus par over seven neighbouring records
-- whose days are consecutive, and the first day of the earliest of them that has it.
use Rattle.std.specs.Prelude.{◌≡◌, ℕ, zero, suc, ◌+◌, ◌-◌, List, Bool, not, ◌&&◌, eqb, leb, ltb, ℤ, pos, ◌+ℤ◌, ◌-ℤ◌}
use Rattle.std.specs.Int.Signed.{lt_z}
use Rattle.base.specs.Choice.{when}
use Rattle.base.specs.Loop.{first_in}
use Rattle.base.specs.Outcome.{flag_number}
use Rattle.best_week.specs.Run.{records, day, par, moves, none_in, run_refusal}

abbrev pub week_days : ℕ
week_days = 7

-- the day of record i is the one behind that of the record before
unfoldable pub follows : List ℕ → ℕ → Bool
follows s i = eqb (day s i) (day s (i - 1) + 1)

-- seven records from i on, whose days are consecutive
unfoldable pub is_week : List ℕ → ℕ → Bool
is_week s i = leb (i + week_days) (records s) && none_in (λ j. not (follows s j)) (i + 1) (i + week_days)

-- moves minus par of record i
unfoldable pub over_par : List ℕ → ℕ → ℤ
over_par s i = pos (moves s i) -ℤ pos (par s i)

-- the total over n records from i on
unfoldable pub total_of : List ℕ → ℕ → ℕ → ℤ
total_of s i zero = pos 0
total_of s i (suc n) = total_of s i n +ℤ over_par s (i + n)

abbrev pub week_total : List ℕ → ℕ → ℤ
week_total s i = total_of s i week_days

-- a week from j on has a lower total than the seven records from i on
unfoldable pub is_lower : List ℕ → ℕ → ℕ → Bool
is_lower s i j = is_week s j && lt_z (week_total s j) (week_total s i)

-- from i on there is a week, and none has a lower total
unfoldable pub is_lowest : List ℕ → ℕ → Bool
is_lowest s i = is_week s i && none_in (is_lower s i) 0 (records s)

-- the first record of the best week, the earliest of those with the lowest total; the count of records without one
unfoldable pub best_at : List ℕ → ℕ
best_at s = first_in (is_lowest s) 0 (records s)

-- whether the run is accepted and has a week
unfoldable pub has_week : List ℕ → Bool
has_week s = eqb (run_refusal s) 0 && ltb (best_at s) (records s)

-- its total and its first day, both 0 where there is none, and beside a refusal
unfoldable pub best_total : List ℕ → ℤ
best_total s = when (has_week s) (λ _. week_total s (best_at s)) (λ _. pos 0)

unfoldable pub best_day : List ℕ → ℕ
best_day s = when (has_week s) (λ _. day s (best_at s)) (λ _. 0)

-- the refusal returned, whether there is a week, its total and its first day
pub record IsBestWeek (s : List ℕ) (refusal found : ℕ) (total : ℤ) (first : ℕ) : Type 0 where
  pub number : refusal ≡ run_refusal s
  pub flag : found ≡ flag_number (has_week s)
  pub sum : total ≡ best_total s
  pub start : first ≡ best_day s
