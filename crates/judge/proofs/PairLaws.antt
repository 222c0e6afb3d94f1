-- From two sides with their forms to the verdict: the refusals of the pair, its variables, and the forms in place of
-- the sides.
use mathlib.Core.Path.{◌≡◌, refl, ap, ap₂, sym, fun_ext, ◌∙◌}
use Prim.Native.Nat.{ℕ, zero, suc, ◌+◌, ◌≤◌, ◌<◌, min}
use native.Mathlib.Omega.{arith}
use mathlib.Core.List.{List, ◌++◌}
use mathlib.Core.Bool.{true, false, ◌||◌}
use lib.ListN.{length, take, replicate}
use lib.Seq.{take-take, take_at}
use Rattle.record.specs.Tree.{Tree}
use Rattle.record.specs.Tree.Tree.{Binary}
use Rattle.expr.specs.Vars.{no_var, next_var, first_vars, support}
use Rattle.expr.proofs.VarsLaws.{first_vars_support}
use Rattle.truth.specs.Truth.{shifts_var, place_of}
use Rattle.truth.proofs.FirstVarsLaws.{place_first}
use Rattle.semilinear_value.specs.Value.{semilinear_value}
use Rattle.semilinear_value.proofs.ValueLaws.{encoded_value}
use Rattle.judge_laws.specs.Judge.{Side, joint_vars, judge_refusal, verdict, compared, judge_sides}
use Rattle.judge_laws.proofs.JudgeLaws.{refused_left, refused_right, refused_eleven, refused_twelve, refused_shift}
use Rattle.judge_laws.proofs.JudgeLaws.{Pair, pair, judged_compared, refused_verdict}
use Rattle.judge.specs.Forms.{FormFor, Unshifted, Comparable}

-- ---- refusals

module _ (a b : Side) where
  pub left_verdict : (n : ℕ) → n ≡ a.refusal → (n ≡ 0 → ⊥) → verdict n 0 0 0 ≡ judge_sides a b
  left_verdict n e z =
      sym (refused_verdict a b n (refused_left a b (λ q. z (e ∙ q)) ∙ sym e) z)

  module _ (ha : a.refusal ≡ 0) where
    pub right_verdict : (n : ℕ) → n ≡ b.refusal → (n ≡ 0 → ⊥) → verdict n 0 0 0 ≡ judge_sides a b
    right_verdict n e z =
        sym (refused_verdict a b n (refused_right a b ha (λ q. z (e ∙ q)) ∙ sym e) z)

    module _ (hb : b.refusal ≡ 0) where
      pub eleven : (a.bitwidth ≡ b.bitwidth → ⊥) → verdict 11 0 0 0 ≡ judge_sides a b
      eleven n = sym (refused_verdict a b 11 (refused_eleven a b ha hb n) (λ z. absurd (omega arith)))

      module _ (w : a.bitwidth ≡ b.bitwidth) where
        pub twelve : 5 < length (joint_vars a b) → verdict 12 0 0 0 ≡ judge_sides a b
        twelve h = sym (refused_verdict a b 12 (refused_twelve a b ha hb w h) (λ z. absurd (omega arith)))

        module _ (few : length (joint_vars a b) ≤ 5) where
          pub thirteen : shifts_var a.tree || shifts_var b.tree ≡ true → verdict 13 0 0 0 ≡ judge_sides a b
          thirteen e =
              sym (refused_verdict a b 13 (refused_shift a b ha hb w few true e) (λ z. absurd (omega arith)))

          pub not_shifted : shifts_var a.tree ≡ false → shifts_var b.tree ≡ false → judge_refusal a b ≡ 0
          not_shifted p q = refused_shift a b ha hb w few false (simp (p, q))

-- ---- the joint variables

module _ (a b : Side) where
  -- how many there are, six at most, by the words that were collected
  pub joint_count : {vs : List ℕ} {n : ℕ} → vs ≡ first_vars 6 0 (Binary 2 a.tree b.tree) → n ≡ place_of no_var vs
      → n ≡ min 6 (length (joint_vars a b))
  unfolding joint_vars
  joint_count ev en =
      en ∙ ap (place_of no_var) ev ∙ place_first (Binary 2 a.tree b.tree) 6

  -- and they are the first of these words
  pub joint_words : {vs : List ℕ} {n : ℕ} → vs ≡ first_vars 6 0 (Binary 2 a.tree b.tree)
      → n ≡ length (joint_vars a b) → n ≤ 5 → take n vs ≡ joint_vars a b
  unfolding joint_vars
  joint_words {vs} {n} ev en h =
      let s : List ℕ = support (Binary 2 a.tree b.tree) in
      ap (take n) (ev ∙ first_vars_support 6 (Binary 2 a.tree b.tree))
      ∙ take-take n 6 (s ++ replicate 6 no_var) (omega arith)
      ∙ take_at s (replicate 6 no_var) n (sym en)

pub length_first : (n from : ℕ) (t : Tree) → length (first_vars n from t) ≡ n
unfolding first_vars
length_first zero from t = refl
length_first (suc n) from t = ap suc (length_first n (next_var from t + 1) t)

-- ---- the forms in place of the sides

unshifted_form : (a : Side) (f : List ℕ) → FormFor a f → shifts_var a.tree ≡ false → (w : ℕ) → w ≡ a.bitwidth
    → Unshifted w f
unshifted_form a f h n w e =
    record {
      form = h.form;
      encoded = h.encoded;
      valid = h.valid;
      wide = h.wide ∙ sym e;
      unshifted = h.unshifted n;
    }

form_value_lem : (a : Side) (f : List ℕ) → FormFor a f → semilinear_value f ≡ a.value
form_value_lem a f h =
    fun_ext
    (λ vars. ap (λ (s : List ℕ). semilinear_value s vars) h.encoded
    ∙ encoded_value h.form h.valid vars
    ∙ h.kept vars)

module _ (a b : Side) (f g : List ℕ) (left : FormFor a f) (right : FormFor b g) (ok : judge_refusal a b ≡ 0) (w : ℕ)
    (vs : List ℕ) (wide : w ≡ a.bitwidth) (vars : vs ≡ joint_vars a b) where
  known : Pair a b
  known = pair a b ok

  pub pair_comparable : Comparable w f g vs
  pair_comparable =
      record {
        left = unshifted_form a f left known.no_shift_l w wide;
        right = unshifted_form b g right known.no_shift_r w (wide ∙ known.widths);
        few = rw vars known.few;
      }

  pub pair_judged : compared w vs (semilinear_value f) (semilinear_value g) ≡ judge_sides a b
  pair_judged =
      ap₂ (compared w vs) (form_value_lem a f left) (form_value_lem b g right)
      ∙ ap₂ (λ (k : ℕ) (l : List ℕ). compared k l a.value b.value) wide vars
      ∙ sym (judged_compared a b ok)
