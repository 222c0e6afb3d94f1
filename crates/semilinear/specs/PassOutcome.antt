-- What every pass gives before and after its own work: the refusals in their order (document 01, "Refusals"), and the
-- form that was made, or refusal 9.
use Rattle.std.specs.Prelude.{ℕ, List, [], Bool, not, eqb}
use Rattle.base.specs.Choice.{when}
use Rattle.semilinear.specs.Form.{Form, fits_table}
use Rattle.semilinear.specs.Valid.{length_refused, is_semilinear}
use Rattle.semilinear.specs.DecodeForm.{read_form}
use Rattle.base.specs.Outcome.{Outcome, accepted, refused}
use Rattle.semilinear.specs.Outcome.{form_outcome}
use Rattle.base.specs.Limits.{form_bytes}

-- what reads a form and has a result slice of len elements, which must be `whole`: refusals 1, 2 and 10 in this order,
-- then what `given` says of the form
abbrev pub read_outcome : ℕ → (Form → Outcome) → List ℕ → ℕ → Outcome
read_outcome whole given s len =
    when (length_refused s) (λ _. refused 1)
    (λ _. when (not (eqb len whole)) (λ _. refused 2)
    (λ _. when (is_semilinear s) (λ _. given (read_form s)) (λ _. refused 10)))

-- its refusals alone: an accepted call has written nothing yet
unfoldable pub open_outcome : ℕ → List ℕ → ℕ → Outcome
open_outcome whole = read_outcome whole (λ f. accepted [] [])

-- a pass: the result slice has 57,360 bytes
unfoldable pub pass_outcome : (Form → Outcome) → List ℕ → ℕ → Outcome
pass_outcome = read_outcome form_bytes

-- a form that was made, or 9 where its table passes a limit
unfoldable pub limit_outcome : Form → Bool → Outcome
limit_outcome f flag = when (fits_table f.rows) (λ _. form_outcome f flag) (λ _. refused 9)
