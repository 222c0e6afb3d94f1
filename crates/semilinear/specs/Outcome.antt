-- What an entry point that writes gives, apart from how it is handed over: elements and numbers, or a refusal. One
-- shape for all of them (document 01, "Refusals").
use Rattle.base.specs.Outcome.{Outcome, flag_number, accepted}
use Rattle.std.specs.Prelude.{[], ◌∷◌, Bool, length}
use Rattle.semilinear.specs.Form.{Form, term_count, encode_form}

-- the outcome of a writer of a semilinear form: the form's bytes, their length, the count of terms and a flag
unfoldable pub form_outcome : Form → Bool → Outcome
form_outcome f flag = accepted (encode_form f) (length (encode_form f) ∷ term_count f.rows ∷ flag_number flag ∷ [])
