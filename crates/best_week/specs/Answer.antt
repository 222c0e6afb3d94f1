-- What is found of a run, as numbers: what callers are given, and what the definition speaks of.
use Rattle.std.specs.Prelude.{ℕ, ℤ, pos, Option, Some, None, Result, Ok, Err}
use Rattle.base.specs.declared.refusal.Refusal.{Refusal}
use Rattle.best_week.specs.declared.Week.{Week}

-- 1 where there is a week
abbrev pub found_of : Result (Option Week) Refusal → ℕ
found_of (Ok (Some w)) = 1
found_of (Ok None) = 0
found_of (Err r) = 0

-- its total and its first day, both 0 where there is none, and beside a refusal
abbrev pub total_of : Result (Option Week) Refusal → ℤ
total_of (Ok (Some w)) = w.total
total_of (Ok None) = pos 0
total_of (Err r) = pos 0

abbrev pub day_of : Result (Option Week) Refusal → ℕ
day_of (Ok (Some w)) = w.day
day_of (Ok None) = 0
day_of (Err r) = 0
