-- `semilinear_refusal` meets its contract: a case for each refusal, the lowest first.
use Rattle.semilinear.specs.Valid.{semilinear_refusal}
use mathlib.Core.Path.{sym, ◌∙◌}
use Rattle.semilinear.proofs.scan.semilinear_refusal.Goals as goal

pub returns-then-length_refused : goal.returns-then-length_refused
unfolding semilinear_refusal
returns-then-length_refused c = simp (sym c.length_refused.ensures ∙ c.if-length_refused.true)

pub returns-then-not-is_semilinear : goal.returns-then-not-is_semilinear
unfolding semilinear_refusal
returns-then-not-is_semilinear c =
    simp (
      sym c.length_refused.ensures ∙ c.if-length_refused.false,
      sym c.is_semilinear.ensures ∙ c.if-not-is_semilinear.true,
    )

pub returns : goal.returns
unfolding semilinear_refusal
returns c =
    simp (
      sym c.length_refused.ensures ∙ c.if-length_refused.false,
      sym c.is_semilinear.ensures ∙ c.if-not-is_semilinear.false,
    )
