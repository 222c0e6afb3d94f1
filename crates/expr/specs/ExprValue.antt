-- What the entry point `expr_value` returns and writes.
use Rattle.std.specs.Prelude.{◌≡◌, ℕ, List, ◌==◌}
use Rattle.base.specs.Choice.{when}
use Rattle.record.specs.Fields.{width}
use Rattle.record.specs.Decode.{decode}
use Rattle.expr_refusal.specs.Refusal.{expr_refusal}
use Rattle.expr.specs.Value.{value}

-- the value of an accepted expression s under an assignment, 0 beside a refusal
unfoldable pub expr_value : List ℕ → List ℕ → ℕ
expr_value s vars = when (expr_refusal s == 0) (λ _. value (width s) vars (decode s)) (λ _. 0)

-- the refusal returned, 0 where s is accepted, and the value written
pub record IsExprValue (s vars : List ℕ) (refusal written : ℕ) : Type 0 where
  pub number : refusal ≡ expr_refusal s
  pub result : written ≡ expr_value s vars
