-- Where the form in use stands while a list of passes runs: at the start of the one slice or of the other.
use Rattle.std.specs.Prelude.{◌≡◌, ℕ, List, Bool, true, length, take}
use Rattle.base.specs.Choice.{when}
use Rattle.base.specs.Put.{padded}
use Rattle.semilinear.specs.Form.{Form, term_count, encode_form, valid_form}
use Rattle.base.specs.Limits.{form_bytes}

-- the bytes t are those of a valid form; they lie at the start of a slice of 57,360, with the numbers beside
pub record Lies (t : List ℕ) (used terms : ℕ) (slice : List ℕ) : Type 0 where
  pub form : Form
  pub encoded : t ≡ encode_form form
  pub valid : valid_form form ≡ true
  pub count : used ≡ length t
  pub terms_count : terms ≡ term_count form.rows
  pub written : slice ≡ padded form_bytes t

-- the bytes in use, in the first slice or in the second
abbrev pub bytes_in : Bool → ℕ → List ℕ → List ℕ → List ℕ
bytes_in first used a b = take used (when first (λ _. a) (λ _. b))

-- the bytes t lie in the first 57,360 bytes of the one slice or of the other
pub record InSlices (t : List ℕ) (first : Bool) (used terms : ℕ) (a b : List ℕ) : Type 0 where
  pub lies : Lies t used terms (take form_bytes (when first (λ _. a) (λ _. b)))
