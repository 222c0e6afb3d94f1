-- The examples hold, by computing.
use mathlib.Core.Path.{◌≡◌, refl}
use mathlib.Core.List.{map}
use Rattle.base.specs.Loop.{first_f, first_in}
use Rattle.record.specs.Fields.{u16, u32, u64}
use Rattle.best_week.specs.Run.{day, par, moves, rest, none_in, filled, falls, well_formed, run_refusal}
use Rattle.best_week.specs.BestWeek.{follows, is_week, over_par, total_of, is_lower, is_lowest, best_at, has_week}
use Rattle.best_week.specs.BestWeek.{best_total, best_day}
use Rattle.best_week.specs.Examples.{answer, cases}

cases_hold : map (λ c. answer c.0) cases ≡ map (λ c. c.1) cases
unfolding u16 u32 u64 first_f first_in day par moves rest none_in filled falls well_formed run_refusal follows is_week
    over_par total_of is_lower is_lowest best_at has_week best_total best_day
cases_hold = refl
