-- `lowest` meets its contract: 0 is no refusal, and the lower of two has the lower number.
use Rattle.std.proofs.Common.{◌≡◌, ℕ, ◌<◌, min, refl, sym, ◌∙◌, arith}
use borrow.Author.Tests.{ne_eqb}
use Rattle.base.proofs.RefusalLaws.{number_min, number_pos}
use Rattle.expr_refusal.specs.Refusal.{lowest}
use Rattle.expr_refusal.proofs.lowest.Goals as goal

zero_left : (b : ℕ) → lowest 0 b ≡ b
unfolding lowest
zero_left b = refl

zero_right : (a : ℕ) → 0 < a → lowest a 0 ≡ a
unfolding lowest
zero_right a p = simp (ne_eqb a 0 (λ e. omega (arith, e)))

both : (a b : ℕ) → 0 < a → 0 < b → lowest a b ≡ min a b
unfolding lowest
both a b p q = simp (ne_eqb a 0 (λ e. omega (arith, e)), ne_eqb b 0 (λ e. omega (arith, e)))

pub returns-in_default : goal.returns-in_default
returns-in_default c = rw c.in_default.is (sym (zero_left _))

pub returns-in_default-b : goal.returns-in_default-b
returns-in_default-b c = rw (c.in-Err.is, c.in_default-b.is) (sym (zero_right _ (number_pos _)))

pub returns : goal.returns
returns c =
    rw (c.in-Err.is, c.in-Err-b.is, c.min.ensures)
    (number_min _ _ ∙ sym (both _ _ (number_pos _) (number_pos _)))
