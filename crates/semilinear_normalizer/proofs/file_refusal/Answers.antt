-- `file_refusal` meets its contract: 1, then 2, then what the expression itself shows.
use Rattle.std.proofs.Common.{◌≡◌, ℕ, Bool, true, false, eqb, refl, sym, ◌∙◌}
use Rattle.std.proofs.lemmas.Bool.{eqb-true}
use borrow.Author.Tests.{eq-eqb}
use Rattle.std.specs.Prelude.{Result, Ok, Err}
use Rattle.std.specs.Result.{result_eq}
use Rattle.base.specs.contracts.refusal.RefusalPartialEq.TheImpl.{eq-value}
use Rattle.base.specs.declared.refusal.Refusal.{Refusal}
use Rattle.base.specs.declared.refusal.Refusal.TheVariants.{Length}
use Rattle.base.specs.Refusal.{number_of}
use Rattle.base.proofs.BoolLaws.{false_true}
use Rattle.semilinear_normalizer.proofs.RulesLaws.{file_first, file_slice, file_own}
use Rattle.semilinear_normalizer.proofs.file_refusal.Goals as goal

-- the comparison with refusal 1 is one of numbers
is_one : {A : Type 0} (same : A → A → Bool) (r : Result A Refusal)
    → result_eq same eq-value.it r (Err Length) ≡ eqb (number_of r) 1
is_one same (Ok x) = refl
is_one same (Err Length) = refl
is_one same (Err _) = refl

pub returns-then-eq : goal.returns-then-eq
returns-then-eq c =
    let own = c.expr_refusal-own.ensures in
    let one = eqb-true _ 1 (sym (is_one _ _) ∙ sym c.eq.ensures ∙ c.if-eq.true) in
    one ∙ file_first _ _ (sym own ∙ one)

not_one : {A : Type 0} (same : A → A → Bool) (r : Result A Refusal) {b : Bool} → b ≡ result_eq same eq-value.it r (Err Length)
    → b ≡ false → number_of r ≡ 1 → ⊥
not_one same r e z one = false_true (sym z ∙ e ∙ is_one same r ∙ eq-eqb _ 1 one)

pub returns-then-length-ne-FORM_BYTES : goal.returns-then-length-ne-FORM_BYTES
returns-then-length-ne-FORM_BYTES c =
    let own = c.expr_refusal-own.ensures in
    file_slice _ _ (λ e. not_one _ _ c.eq.ensures c.if-eq.false (own ∙ e)) c.if-length-ne-FORM_BYTES.true

pub returns : goal.returns
returns c =
    let own = c.expr_refusal-own.ensures in
    own ∙ file_own _ _ (λ e. not_one _ _ c.eq.ensures c.if-eq.false (own ∙ e)) c.if-length-ne-FORM_BYTES.false
