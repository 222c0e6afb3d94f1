-- What normalising gives (document 01, "The sheet" and refusals 1 to 6, 8 and 9; semilinear_normalizer.rs 438-486).
-- Refusal 7 is not given any more (request #104).
use Rattle.std.specs.Prelude.{ℕ, List, [], false, not, eqb}
use Rattle.base.specs.Choice.{when}
use Rattle.record.specs.Fields.{width}
use Rattle.record.specs.Tree.{Tree}
use Rattle.record.specs.Decode.{decode}
use Rattle.expr_refusal.specs.Refusal.{expr_refusal}
use Rattle.semilinear.specs.Form.{Form}
use Rattle.base.specs.Outcome.{Outcome, refused}
use Rattle.semilinear.specs.PassOutcome.{limit_outcome}
use Rattle.normalizer_laws.specs.Collect.{Emitted, Collected, nonlinear, linear, collect_terms}
use Rattle.normalizer_laws.specs.Register.{register_all}
use Rattle.base.specs.Limits.{form_bytes}

-- the form of what was collected, with a table that has no limits
unfoldable pub collected_form : ℕ → ℕ → List Emitted → Form
collected_form w c l = record { bitwidth = w; constant = c; rows = register_all w l [] }

-- 8 for what is nonlinear, 9 where the table passes a limit, else the form
unfoldable pub collected_outcome : ℕ → Collected → Outcome
collected_outcome w nonlinear = refused 8
collected_outcome w (linear c l) = limit_outcome (collected_form w c l) false

-- of a tree of any size, at w bits
unfoldable pub normalize_tree : ℕ → Tree → Outcome
normalize_tree w t = collected_outcome w (collect_terms w 1 t)

-- of the bytes s of an expression, with a result slice of len bytes
unfoldable pub normalize_to_semilinear : List ℕ → ℕ → Outcome
normalize_to_semilinear s len =
    when (eqb (expr_refusal s) 1) (λ _. refused 1)
    (λ _. when (not (eqb len form_bytes)) (λ _. refused 2)
    (λ _. when (not (eqb (expr_refusal s) 0)) (λ _. refused (expr_refusal s))
    (λ _. normalize_tree (width s) (decode s))))
