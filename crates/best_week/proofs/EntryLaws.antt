-- What the entry point gives, by the ways of the code: without a week, and with one; and what a caller is told by it.
use mathlib.Core.Path.{◌≡◌, refl, ap, sym, subst, ◌∙◌}
use Prim.Native.Nat.{ℕ}
use native.Mathlib.Omega.{arith}
use mathlib.Core.Bool.{Bool, true, false}
use mathlib.Core.List.{List}
use Rattle.std.specs.Prelude.{Option, Some, None, Result, Err}
use lib.IntN.{ℤ, pos}
use Rattle.base.specs.Outcome.{flag_number}
use Rattle.base.specs.Refusal.{refusal_number, number_of}
use Rattle.base.specs.declared.refusal.Refusal.{Refusal}
use Rattle.base.proofs.RefusalLaws.{number_not}
use Rattle.best_week.specs.Run.{records, day, run_refusal}
use Rattle.best_week.specs.BestWeek.{is_week, week_total, has_week, best_at, IsBestWeek}
use Rattle.best_week.specs.Told.{IsBest, Told}
use Rattle.best_week.specs.Walk.{BestUpTo}
use Rattle.best_week.specs.Answer.{found_of, total_of, day_of}
use Rattle.best_week.specs.declared.Week.{Week}
use Rattle.best_week.specs.declared.best.Best.{Best}
use Rattle.best_week.proofs.BestLaws.{best_at_lem, best_at_none, week_found, total_found, total_none}
use Rattle.best_week.proofs.BestLaws.{week_missing, week_refused, day_found, day_none, best_is, best_none, best_inside, no_best}

module _ (s : List ℕ) where
  -- a refusal, or 0, with zeros beside it
  without : {refusal : ℕ} → refusal ≡ run_refusal s → has_week s ≡ false → IsBestWeek s refusal 0 (pos 0) 0
  without e h =
      record {
        number = e;
        flag = sym (ap flag_number h);
        sum = sym (total_none s h);
        start = sym (day_none s h);
      }

  pub gives_refused : (r : Refusal) → refusal_number r ≡ run_refusal s → {x : Result (Option Week) Refusal} → x ≡ Err r
      → IsBestWeek s (number_of x) (found_of x) (total_of x) (day_of x)
  gives_refused r e is = rw is (without e (week_refused s (λ z. number_not r (e ∙ z))))

  pub gives_none : {n : ℕ} → 0 ≡ run_refusal s → n ≡ records s → BestUpTo s n None → IsBestWeek s 0 0 (pos 0) 0
  gives_none e c up =
      without e (week_missing s (best_at_none s (subst (λ (k : ℕ). BestUpTo s k None) c up)))

  pub gives_week : {n first : ℕ} {total : ℤ} (x : Best) → 0 ≡ run_refusal s → n ≡ records s → BestUpTo s n (Some x)
      → total ≡ x.total → first ≡ day s x.at → IsBestWeek s 0 1 total first
  gives_week x e c up t d =
      let b : IsBest s (records s) x.at = (subst (λ (k : ℕ). BestUpTo s k (Some x)) c up).0 in
      let a : best_at s ≡ x.at = best_at_lem s x.at b in
      let h : has_week s ≡ true = week_found s (sym e) (omega (arith, b.inside)) in
      record {
        number = e;
        flag = sym (ap flag_number h);
        sum = t ∙ up.1 ∙ ap (week_total s) (sym a) ∙ sym (total_found s h);
        start = d ∙ ap (day s) (sym a) ∙ sym (day_found s h);
      }

-- ---- what a caller is told

pub told : (s : List ℕ) (refusal found : ℕ) (total : ℤ) (first : ℕ) → IsBestWeek s refusal found total first
    → Told s refusal found total first
told s k f t d given =
    record {
      refused = λ h. let e = week_refused s (λ z. h (given.number ∙ z)) in zeros e;
      none = λ z e. none e (has_week s) refl given.number z;
      week = λ z e. week e (has_week s) refl;
    }
  where
    zeros : has_week s ≡ false → (f ≡ 0) × (t ≡ pos 0) × (d ≡ 0)
    zeros e = (given.flag ∙ ap flag_number e, given.sum ∙ total_none s e, given.start ∙ day_none s e)

    none : f ≡ 0 → (h : Bool) → has_week s ≡ h → k ≡ run_refusal s → k ≡ 0
        → ((j : ℕ) → is_week s j ≡ false) × (t ≡ pos 0) × (d ≡ 0)
    none e true h p z = let q : f ≡ 1 = given.flag ∙ ap flag_number h in absurd (omega arith)
    none e false h p z = (best_none s (no_best s (sym p ∙ z) h), (zeros h).1, (zeros h).2)

    week : (f ≡ 0 → ⊥) → (h : Bool) → has_week s ≡ h
        → (f ≡ 1) × (a : ℕ) × IsBest s (records s) a × (t ≡ week_total s a) × (d ≡ day s a)
    week e true h = (
      given.flag ∙ ap flag_number h,
      best_at s,
      best_is s (best_inside s h),
      given.sum ∙ total_found s h,
      given.start ∙ day_found s h,
    )
    week e false h = absurd (e (zeros h).0)
