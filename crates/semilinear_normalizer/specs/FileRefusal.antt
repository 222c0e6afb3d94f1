-- The refusals of a file that its tree is not asked for (document 01, "Refusals", 1 to 6), as code finds them once for
-- either rules.
use Rattle.std.specs.Prelude.{ℕ, List, not, eqb}
use Rattle.base.specs.Choice.{when}
use Rattle.base.specs.Limits.{form_bytes}
use Rattle.expr_refusal.specs.Refusal.{expr_refusal}

-- the first that applies to the bytes s beside a result slice of len bytes; 0 where none does
unfoldable pub file_refusal : List ℕ → ℕ → ℕ
file_refusal s len =
    when (eqb (expr_refusal s) 1) (λ _. 1) (λ _. when (not (eqb len form_bytes)) (λ _. 2) (λ _. expr_refusal s))
