-- What is shown of a table that may be full, and the end of a pass.
use Rattle.made.specs.declared.Made.{Made}
use Prim.Native.Nat.{ℕ, ◌-◌}
use mathlib.Core.List.{List}
use Rattle.semilinear.specs.Form.{Row}
use Rattle.atom_table.specs.Terms.{Ends}
use Rattle.made.specs.Shown.{Shown}
use Rattle.group.proofs.ShownLaws.{shown_ends}
use Rattle.bare.specs.Showing.{Shows}

pub shows_shown : {w : ℕ} {made : Made} {out coeffs : List ℕ} {l : List Row} → Shown w made out coeffs l
    → Shows w made out coeffs l
shows_shown h = record { shown = λ _. h; past = h.held.holds.past }

-- what the end of a pass reads off
pub shows_ends : {w : ℕ} {made : Made} {out coeffs : List ℕ} {l : List Row} → Shows w made out coeffs l
    → Ends w made.table 1 coeffs out l
shows_ends {w} {made} {out} {coeffs} {l} s =
    record {
      holds = λ more. (s.shown more).held.holds;
      clean = λ more. (s.shown more).held.clean;
      coeffs = λ more. (shown_ends w made out coeffs l (s.shown more)).coeffs more;
      past = s.past;
    }
