-- A law for each way out.
use Rattle.std.proofs.Common.{◌≡◌, ℕ, Bool, true, false, eqb, lit<, arith}
use Rattle.std.proofs.lemmas.Bool.{eqb-true}
use Rattle.std.specs.Prelude.{Ok, Err}
use borrow.Author.Tests.{eq-eqb}
use mathlib.Core.Path.{refl, sym, ◌∙◌}
use lib.ListN.{length}
use Rattle.base.specs.contracts.refusal.RefusalPartialEq.TheImpl.{eq-value}
use Rattle.base.specs.declared.refusal.Refusal.{Refusal}
use Rattle.base.specs.declared.refusal.Refusal.TheVariants.{Length, ResultLength}
use Rattle.base.specs.Refusal.{refusal_number}
use Rattle.base.proofs.BoolLaws.{false_true}
use Rattle.base.proofs.RefusalLaws.{number_not}
use Rattle.semilinear.specs.Answers.{in_numbers}
use Rattle.runner.proofs.EntryLaws.{list_is, run_one, run_two, run_bad, run_refused, run_start, run_end}
use Rattle.semilinear.proofs.OutcomeLaws.{refused_gives}
use Rattle.runner.proofs.run_passes.Goals as goal

-- a comparison of refusals is one of numbers
is_one : (r : Refusal) → eq-value.it r Length ≡ eqb (refusal_number r) 1
is_one Length = refl
is_one _ = refl

is_two : (r : Refusal) → eq-value.it r ResultLength ≡ eqb (refusal_number r) 2
is_two ResultLength = refl
is_two _ = refl

yes_of : {b : Bool} {n k : ℕ} → b ≡ eqb n k → b ≡ true → n ≡ k
yes_of {n = n} {k = k} e t = eqb-true n k (sym e ∙ t)

no_of : {b : Bool} {n k : ℕ} → b ≡ eqb n k → b ≡ false → n ≡ k → ⊥
no_of {n = n} {k = k} e f same = false_true (sym f ∙ e ∙ eq-eqb n k same)

pub returns-then-not-is_list : goal.returns-then-not-is_list
returns-then-not-is_list c =
    let normal = c.normalize_to_semilinear in
    run_bad c.args.expr.now c.args.calls.now (length c.args.sheet.now) (length c.args.spare.now)
    (in_numbers (Ok c.in-Ok.start)) normal.new.out c.in-Ok.ensures
    (λ e. omega (arith, e)) (λ e. omega (arith, e))
    (list_is _ _ normal.auto.out c.is_list.ensures c.if-not-is_list.true)
    _ normal.auto.out (in_numbers c.refuse.result) _ (refused_gives c.refuse.ensures)

pub run_from-requires : goal.run_from-requires
run_from-requires c =
    let normal = c.normalize_to_semilinear in (
      sym c.is_list.ensures ∙ c.if-not-is_list.false,
      run_start c.args.expr.now c.args.calls.now (length c.args.sheet.now) (length c.args.spare.now)
          (in_numbers (Ok c.in-Ok.start)) normal.new.out c.in-Ok.ensures
          (λ e. omega (arith, e)) (λ e. omega (arith, e))
          (list_is _ _ normal.auto.out c.is_list.ensures c.if-not-is_list.false)
          (λ i. (c.type_inv.expr i).fits) refl,
    )

pub returns-else-not-is_list : goal.returns-else-not-is_list
returns-else-not-is_list c =
    let normal = c.normalize_to_semilinear in
    run_end c.args.expr.now c.args.calls.now (length c.args.sheet.now) (length c.args.spare.now)
    (in_numbers (Ok c.in-Ok.start)) normal.new.out c.in-Ok.ensures
    (λ e. omega (arith, e)) (λ e. omega (arith, e))
    (list_is _ _ normal.auto.out c.is_list.ensures c.if-not-is_list.false)
    (λ i. (c.type_inv.expr i).fits) refl (in_numbers c.run_from.result) _ c.run_from.ensures

pub returns-then-eq : goal.returns-then-eq
returns-then-eq c =
    run_one c.args.expr.now c.args.calls.now (length c.args.sheet.now) (length c.args.spare.now)
    (in_numbers (Err c.in-Err.refusal)) c.normalize_to_semilinear.new.out c.in-Err.ensures
    (yes_of (c.eq.ensures ∙ is_one _) c.if-eq.true)

pub returns-then-eq-2 : goal.returns-then-eq-2
returns-then-eq-2 c =
    run_two c.args.expr.now c.args.calls.now (length c.args.sheet.now) (length c.args.spare.now)
    (in_numbers (Err c.in-Err.refusal)) c.normalize_to_semilinear.new.out c.in-Err.ensures
    (yes_of (c.eq-in-Err.ensures ∙ is_two _) c.if-eq-2.true)

pub returns-then-not-is_list-2 : goal.returns-then-not-is_list-2
returns-then-not-is_list-2 c =
    let normal = c.normalize_to_semilinear in
    let refuse = c.refuse-then-not-is_list-2 in
    run_bad c.args.expr.now c.args.calls.now (length c.args.sheet.now) (length c.args.spare.now)
    (in_numbers (Err c.in-Err.refusal)) normal.new.out c.in-Err.ensures
    (no_of (c.eq.ensures ∙ is_one _) c.if-eq.false) (no_of (c.eq-in-Err.ensures ∙ is_two _) c.if-eq-2.false)
    (list_is _ _ normal.auto.out c.is_list-in-Err.ensures c.if-not-is_list-2.true)
    _ normal.auto.out (in_numbers refuse.result) _ (refused_gives refuse.ensures)

pub returns-else-not-is_list-2 : goal.returns-else-not-is_list-2
returns-else-not-is_list-2 c =
    let normal = c.normalize_to_semilinear in
    run_refused c.args.expr.now c.args.calls.now (length c.args.sheet.now) (length c.args.spare.now)
    (in_numbers (Err c.in-Err.refusal)) normal.new.out c.in-Err.ensures
    (no_of (c.eq.ensures ∙ is_one _) c.if-eq.false) (no_of (c.eq-in-Err.ensures ∙ is_two _) c.if-eq-2.false)
    (list_is _ _ normal.auto.out c.is_list-in-Err.ensures c.if-not-is_list-2.false)
    (number_not _)
