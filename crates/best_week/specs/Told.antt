-- What an answer tells a caller, without the searches of the definition.
use Rattle.std.specs.Prelude.{◌≡◌, ℕ, ◌+◌, ◌-◌, ◌*◌, ◌%◌, ◌<◌, ◌≤◌, List, true, false, length, get_or, ℤ, pos, ◌<ℤ◌, ◌≤ℤ◌}
use Rattle.base.specs.Limits.{record_length}
use Rattle.best_week.specs.Run.{run_records, records, day}
use Rattle.best_week.specs.BestWeek.{week_days, is_week, week_total}

-- whole records, at most 4,096, with zeros in bytes 8 to 15 and days that rise
pub record Rises (s : List ℕ) : Type 0 where
  pub few : length s ≤ record_length * run_records
  pub whole : length s % record_length ≡ 0
  pub zeros : (i : ℕ) → i < records s → (k : ℕ) → k < 8 → get_or s (record_length * i + 8 + k) 0 ≡ 0
  pub rising : (i : ℕ) → 1 ≤ i → i < records s → day s (i - 1) < day s i

-- from a on is the best of the weeks within the first i records, the earliest of those with the lowest total
pub record IsBest (s : List ℕ) (i a : ℕ) : Type 0 where
  pub week : is_week s a ≡ true
  pub inside : a + week_days ≤ i
  pub lowest : (j : ℕ) → j + week_days ≤ i → is_week s j ≡ true → week_total s a ≤ℤ week_total s j
  pub earliest : (j : ℕ) → j < a → is_week s j ≡ true → week_total s a <ℤ week_total s j

-- zeros beside a refusal; zeros where no seven records have consecutive days; else 1, and the total and the first day
-- of the earliest of those that have the lowest total
pub record Told (s : List ℕ) (refusal found : ℕ) (total : ℤ) (first : ℕ) : Type 0 where
  pub refused : (refusal ≡ 0 → ⊥) → (found ≡ 0) × (total ≡ pos 0) × (first ≡ 0)
  pub none : refusal ≡ 0 → found ≡ 0 → ((j : ℕ) → is_week s j ≡ false) × (total ≡ pos 0) × (first ≡ 0)
  pub week : refusal ≡ 0 → (found ≡ 0 → ⊥) → (found ≡ 1)
      × (a : ℕ) × IsBest s (records s) a × (total ≡ week_total s a) × (first ≡ day s a)
