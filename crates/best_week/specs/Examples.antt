-- Runs with their answers, the cases of document 02's request #112 among them.
use Rattle.std.specs.Prelude.{ℕ, ◌+◌, ◌/◌, ◌%◌, ◌^◌, List, [], ◌∷◌, ◌++◌, ℤ, pos, negsuc, take, replicate}
use Rattle.base.specs.Outcome.{flag_number}
use Rattle.best_week.specs.Run.{run_refusal}
use Rattle.best_week.specs.BestWeek.{has_week, best_total, best_day}

-- the record of a day, with its par, the moves and the byte behind them
abbrev pub played : ℕ → ℕ → ℕ → ℕ → List ℕ
played d p m x =
    d % 2 ^ 8 ∷ d / 2 ^ 8 % 2 ^ 8 ∷ d / 2 ^ 16 % 2 ^ 8 ∷ d / 2 ^ 24 ∷ p % 2 ^ 8 ∷ p / 2 ^ 8 ∷ m % 2 ^ 8 ∷ m / 2 ^ 8
    ∷ x ∷ replicate 7 0

-- a record for each of the moves, on consecutive days, all of one par
abbrev pub days : ℕ → ℕ → List ℕ → List ℕ
days d p [] = []
days d p (m ∷ ms) = played d p m 0 ++ days (d + 1) p ms

-- the refusal, whether there is a week, its total and its first day
abbrev pub Answer : Type 0
Answer = ℕ × ℕ × ℤ × ℕ

abbrev pub answer : List ℕ → Answer
answer s = (run_refusal s, flag_number (has_week s), best_total s, best_day s)

abbrev pub cases : List (List ℕ × Answer)
cases =
    -- no record
    ([], (0, 0, pos 0, 0))
    -- days 0 to 6, par 3, one move each
    ∷ (days 0 3 (replicate 7 1), (0, 1, negsuc 13, 0))
    -- six days
    ∷ (days 0 3 (replicate 6 1), (0, 0, pos 0, 0))
    -- weeks of 35, 31 and 35
    ∷ (days 0 0 (5 ∷ 5 ∷ 5 ∷ 5 ∷ 5 ∷ 5 ∷ 5 ∷ 1 ∷ 9 ∷ []), (0, 1, pos 31, 1))
    -- the last days that there are, and the lowest total
    ∷ (days 4294967289 65535 (replicate 7 0), (0, 1, negsuc 458744, 4294967289))
    -- two weeks of one total: the earlier one
    ∷ (days 3 0 (replicate 8 2), (0, 1, pos 14, 3))
    -- a total of 0 on day 0
    ∷ (days 0 4 (replicate 7 4), (0, 1, pos 0, 0))
    -- a day is missing
    ∷ (days 0 0 (replicate 4 1) ++ days 5 0 (replicate 3 1), (0, 0, pos 0, 0))
    -- the seventh day is missing
    ∷ (days 0 0 (replicate 6 1) ++ days 7 0 (replicate 1 1), (0, 0, pos 0, 0))
    -- a week behind a gap
    ∷ (days 0 0 (replicate 2 1) ++ days 3 1 (replicate 7 3), (0, 1, pos 14, 3))
    -- 15 bytes
    ∷ (take 15 (played 5 0 0 0), (20, 0, pos 0, 0))
    -- a byte that must be 0
    ∷ (played 5 0 0 1, (20, 0, pos 0, 0))
    -- day 5 twice
    ∷ (played 5 0 0 0 ++ played 5 0 0 0, (21, 0, pos 0, 0))
    -- the same, with a byte that must be 0: 20 is first
    ∷ (played 5 0 0 0 ++ played 5 0 0 1, (20, 0, pos 0, 0))
    ∷ []
