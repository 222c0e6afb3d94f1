-- The walk over the records of a run: what holds after the first i of them.
use Rattle.std.specs.Prelude.{◌≡◌, ℕ, ◌+◌, ◌-◌, ◌*◌, ◌<◌, ◌≤◌, List, true, false, length, ℤ, Option, Some, None}
use Rattle.std.specs.Int.Signed.{lt_z}
use Rattle.base.specs.Choice.{when}
use Rattle.base.specs.Limits.{record_length}
use Rattle.best_week.specs.BestWeek.{week_days, follows, is_week, total_of, week_total}
use Rattle.best_week.specs.Told.{IsBest}
use Rattle.best_week.specs.declared.streak.Streak.{Streak}
use Rattle.best_week.specs.declared.best.Best.{Best}

-- record i lies in the run
abbrev pub Inside : List ℕ → ℕ → Type 0
Inside s i = record_length * i + record_length ≤ length s

-- x is of the last records before i: their days are consecutive, and they are seven or all that are so
pub record StreakAt (s : List ℕ) (i : ℕ) (x : Streak) : Type 0 where
  pub some : 1 ≤ x.days
  pub few : x.days ≤ week_days
  pub inside : x.days ≤ i
  pub linked : (j : ℕ) → i < j + x.days → j < i → follows s j ≡ true
  pub broken : x.days < week_days → x.days < i → follows s (i - x.days) ≡ false
  pub sum : x.total ≡ total_of s (i - x.days) x.days

-- x is of the best week within the first i records, or there is none
abbrev pub BestUpTo : List ℕ → ℕ → Option Best → Type 0
BestUpTo s i None = (j : ℕ) → j + week_days ≤ i → is_week s j ≡ false
BestUpTo s i (Some x) = IsBest s i x.at × (x.total ≡ week_total s x.at)

-- x, or the week from a on with total t, where there is no x or t is lower
unfoldable pub take_week : Option Best → ℕ → ℤ → Option Best
take_week None a t = Some (record { at = a; total = t })
take_week (Some x) a t = when (lt_z t x.total) (λ _. Some (record { at = a; total = t })) (λ _. Some x)
