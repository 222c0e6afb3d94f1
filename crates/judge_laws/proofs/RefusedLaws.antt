-- The refusals of a pair, each exactly when (specs/Judge.antt): a side's own where it is the left's, or the right's
-- beside an accepted left; and 11, 12, 13 or none, in this order, where both sides are accepted. No side's own refusal
-- is above 10.
use mathlib.Core.Path.{◌≡◌, refl, ap, sym, ◌∙◌}
use Prim.Native.Nat.{ℕ, ◌≤◌, ◌<◌}
use native.Mathlib.Omega.{arith}
use mathlib.Core.Logic.{◌↔◌, ◌⊎◌, inl, inr, ⊎_elim}
use mathlib.Core.List.{List}
use mathlib.Core.Bool.{Bool, true, false, ◌||◌}
use lib.ListN.{length}
use Rattle.base.specs.Choice.{when}
use Rattle.base.specs.Outcome.{Outcome, accepted, refused, refusal_of}
use Rattle.truth.specs.Truth.{shifts_var}
use Rattle.semilinear.specs.Valid.{is_semilinear, length_refused, semilinear_refusal}
use Rattle.normalizer_laws.specs.Normalize.{normalize_to_semilinear}
use Rattle.normalizer_laws.proofs.RefusedLaws.{refused_at_most_nine}
use Rattle.judge_laws.specs.Judge.{Side, expr_side, form_side, joint_vars, judged_vars, judge_refusal}
use Rattle.judge_laws.specs.Judged.{RefusedBy, left_refused, right_refused, widths_differ, too_many, shifted}
use Rattle.judge_laws.specs.Judged.{not_refused}
use Rattle.judge_laws.proofs.JudgeLaws.{refused_by, refused_left, refused_right, refused_eleven, refused_twelve}
use Rattle.judge_laws.proofs.JudgeLaws.{refused_shift, Pair, pair}

pub expr_low : (s : List ℕ) → (expr_side s).refusal ≤ 10
unfolding refusal_of
expr_low s = go (normalize_to_semilinear s 57360) refl
  where
    go : (o : Outcome) → normalize_to_semilinear s 57360 ≡ o → refusal_of o ≤ 10
    go (accepted l ns) e = omega arith
    go (refused n) e = omega (arith, refused_at_most_nine s 57360 n e)

pub form_low : (s : List ℕ) → (form_side s).refusal ≤ 10
unfolding semilinear_refusal
form_low s = go (length_refused s) (is_semilinear s)
  where
    go : (a b : Bool) → when a (λ _. 1) (λ _. when b (λ _. 0) (λ _. 10)) ≤ 10
    go true b = omega arith
    go false true = omega arith
    go false false = omega arith

module _ (a b : Side) (la : a.refusal ≤ 10) (lb : b.refusal ≤ 10) where
  -- both are accepted
  abbrev Both : Type 0
  Both = (a.refusal ≡ 0) × (b.refusal ≡ 0)

  -- a side's own refusal
  pub own_iff : (n : ℕ) → 0 < n → n ≤ 10
      → (judge_refusal a b ≡ n) ↔ ((a.refusal ≡ n) ⊎ ((a.refusal ≡ 0) × (b.refusal ≡ n)))
  own_iff n pos low = (λ e. go e (refused_by a b), back)
    where
      go : judge_refusal a b ≡ n → RefusedBy a b (judge_refusal a b)
          → (a.refusal ≡ n) ⊎ ((a.refusal ≡ 0) × (b.refusal ≡ n))
      go e (left_refused z q) = inl (sym q ∙ e)
      go e (right_refused z y q) = inr (z, sym q ∙ e)
      go e (widths_differ z y d q) = absurd (omega (arith, sym q ∙ e))
      go e (too_many z y d h q) = absurd (omega (arith, sym q ∙ e))
      go e (shifted z y d h s q) = absurd (omega (arith, sym q ∙ e))
      go e (not_refused z y d h s t q) = absurd (omega (arith, sym q ∙ e))

      back : (a.refusal ≡ n) ⊎ ((a.refusal ≡ 0) × (b.refusal ≡ n)) → judge_refusal a b ≡ n
      back =
          ⊎_elim (λ e. refused_left a b (omega (arith, e)) ∙ e)
          (λ p. refused_right a b p.0 (omega (arith, p.1)) ∙ p.1)

  pub eleven_iff : (judge_refusal a b ≡ 11) ↔ (Both × (a.bitwidth ≡ b.bitwidth → ⊥))
  eleven_iff = (λ e. go e (refused_by a b), λ h. refused_eleven a b h.0.0 h.0.1 h.1)
    where
      go : judge_refusal a b ≡ 11 → RefusedBy a b (judge_refusal a b) → Both × (a.bitwidth ≡ b.bitwidth → ⊥)
      go e (left_refused z q) = absurd (omega (arith, sym q ∙ e))
      go e (right_refused z y q) = absurd (omega (arith, sym q ∙ e))
      go e (widths_differ z y d q) = ((z, y), d)
      go e (too_many z y d h q) = absurd (omega (arith, sym q ∙ e))
      go e (shifted z y d h s q) = absurd (omega (arith, sym q ∙ e))
      go e (not_refused z y d h s t q) = absurd (omega (arith, sym q ∙ e))

  pub twelve_iff : (judge_refusal a b ≡ 12)
      ↔ (Both × (a.bitwidth ≡ b.bitwidth) × (judged_vars < length (joint_vars a b)))
  twelve_iff = (λ e. go e (refused_by a b), λ h. refused_twelve a b h.0.0 h.0.1 h.1 h.2)
    where
      go : judge_refusal a b ≡ 12 → RefusedBy a b (judge_refusal a b)
          → Both × (a.bitwidth ≡ b.bitwidth) × (judged_vars < length (joint_vars a b))
      go e (left_refused z q) = absurd (omega (arith, sym q ∙ e))
      go e (right_refused z y q) = absurd (omega (arith, sym q ∙ e))
      go e (widths_differ z y d q) = absurd (omega (arith, sym q ∙ e))
      go e (too_many z y d h q) = ((z, y), d, h)
      go e (shifted z y d h s q) = absurd (omega (arith, sym q ∙ e))
      go e (not_refused z y d h s t q) = absurd (omega (arith, sym q ∙ e))

  pub thirteen_iff : (judge_refusal a b ≡ 13)
      ↔ (Both × (a.bitwidth ≡ b.bitwidth) × (length (joint_vars a b) ≤ judged_vars)
      × (shifts_var a.tree || shifts_var b.tree ≡ true))
  thirteen_iff = (
    λ e. go e (refused_by a b),
    λ h. refused_shift a b h.0.0 h.0.1 h.1 h.2 true h.3,
  )
    where
      go : judge_refusal a b ≡ 13 → RefusedBy a b (judge_refusal a b)
          → Both × (a.bitwidth ≡ b.bitwidth) × (length (joint_vars a b) ≤ judged_vars)
          × (shifts_var a.tree || shifts_var b.tree ≡ true)
      go e (left_refused z q) = absurd (omega (arith, sym q ∙ e))
      go e (right_refused z y q) = absurd (omega (arith, sym q ∙ e))
      go e (widths_differ z y d q) = absurd (omega (arith, sym q ∙ e))
      go e (too_many z y d h q) = absurd (omega (arith, sym q ∙ e))
      go e (shifted z y d h s q) = ((z, y), d, h, s)
      go e (not_refused z y d h s t q) = absurd (omega (arith, sym q ∙ e))

-- none
pub none_iff : (a b : Side) → (judge_refusal a b ≡ 0) ↔ Pair a b
none_iff a b = (pair a b, λ h. refused_shift a b h.left h.right h.widths h.few false (neither h))
  where
    neither : Pair a b → shifts_var a.tree || shifts_var b.tree ≡ false
    neither h = simp (h.no_shift_l, h.no_shift_r)
