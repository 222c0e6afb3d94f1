-- What the entry point `semilinear_value` returns and writes.
use Rattle.std.specs.Prelude.{◌≡◌, ℕ, List, eqb}
use Rattle.base.specs.Choice.{when}
use Rattle.semilinear.specs.Form.{form_value}
use Rattle.semilinear.specs.Valid.{semilinear_refusal}
use Rattle.semilinear.specs.DecodeForm.{decode_form}

-- the value of an accepted form s under an assignment, 0 beside a refusal
unfoldable pub semilinear_value : List ℕ → List ℕ → ℕ
semilinear_value s vars = when (eqb (semilinear_refusal s) 0) (λ _. form_value vars (decode_form s)) (λ _. 0)

-- the refusal returned, 0 where s is accepted, and the value written
pub record IsSemilinearValue (s vars : List ℕ) (refusal written : ℕ) : Type 0 where
  pub number : refusal ≡ semilinear_refusal s
  pub result : written ≡ semilinear_value s vars
