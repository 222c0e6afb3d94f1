-- The judge is right (specs/Judged.antt): "equal" exactly when the two sides have the same value under every
-- assignment, else the first place and index at which they differ; and each refusal exactly when.
use mathlib.Core.Path.{◌≡◌, refl, ap, sym, subst, ◌∙◌}
use Prim.Native.Nat.{ℕ, ◌%◌, ◌^◌, ◌≤◌, ◌<◌}
use native.Mathlib.Decide.{ℕ_discrete}
use native.Mathlib.Omega.{arith}
use mathlib.Core.Logic.{◌↔◌, inl, inr, ⊎_elim}
use mathlib.Core.List.{List, []}
use mathlib.Core.Bool.{Bool, true, false, not, ◌||◌}
use lib.ListN.{length}
use lib.Dec.{eqb, ltb}
use borrow.Author.Tests.{eqb-true, eqb-false, eq-eqb, ne_eqb, not-true, not-false, ltb-true, ltb-false, lt-ltb, le-ltb}
use Rattle.base.specs.Choice.{when}
use Rattle.base.specs.Lists.{elem}
use Rattle.base.proofs.BoolLaws.{or_false, or_of_l, or_of_r}
use Rattle.base.proofs.LoopLaws.{when_both}
use Rattle.record.specs.Tree.{IsBytes}
use Rattle.record.specs.Tree.Tree.{Binary}
use Rattle.expr_refusal.specs.Refusal.{is_expr}
use Rattle.expr.specs.Vars.{occurs}
use Rattle.expr.proofs.IsExprLaws.{expr_of_binary}
use Rattle.truth.specs.Truth.{shifts_var}
use Rattle.truth.proofs.TruthLaws.{occurs_support}
use Rattle.judge_laws.specs.Judge.{Side, expr_side, form_side, joint_vars, judged_vars, judge_refusal, single}
use Rattle.judge_laws.specs.Judge.{first_index, first_place, verdict, compared, judge_sides}
use Rattle.judge_laws.specs.declared.Verdict.{Verdict}
use Rattle.judge_laws.specs.Judged.{SameValue, AgreeAt, Before, lower_place, lower_index, FirstUnlike, Judged}
use Rattle.judge_laws.specs.Judged.{RefusedBy, left_refused, right_refused, widths_differ, too_many, shifted}
use Rattle.judge_laws.specs.Judged.{not_refused, IsVerdict, JudgeTold}
use Rattle.judge_laws.proofs.CompareLaws.{before_index, before_place, place_le, index_found, unlike_found}
use Rattle.judge_laws.proofs.CompareLaws.{compared_equal, compared_unlike}
use Rattle.judge_laws.proofs.PlacesLaws.{only_at, Additive, agree}
use Rattle.judge_laws.proofs.SingleLaws.{index_of, index_of_lt, index_words}
use Rattle.judge_laws.proofs.SoundLaws.{Sound, sound_additive, expr_sound, form_sound}

-- ---- the refusal of a pair

pub refused_by : (a b : Side) → RefusedBy a b (judge_refusal a b)
unfolding judge_refusal
refused_by a b =
    when_both P (not (eqb a.refusal 0)) _ _ (λ x. left_refused (eqb-false _ _ (not-true _ x)) refl)
    (λ x. when_both P (not (eqb b.refusal 0)) _ _
    (λ y. right_refused (eqb-true _ _ (not-false _ x)) (eqb-false _ _ (not-true _ y)) refl)
    (λ y. when_both P (not (eqb a.bitwidth b.bitwidth)) _ _
    (λ w. widths_differ (eqb-true _ _ (not-false _ x)) (eqb-true _ _ (not-false _ y))
    (eqb-false _ _ (not-true _ w)) refl)
    (λ w. when_both P (ltb judged_vars (length (joint_vars a b))) _ _
    (λ v. too_many (eqb-true _ _ (not-false _ x)) (eqb-true _ _ (not-false _ y)) (eqb-true _ _ (not-false _ w))
    (ltb-true _ _ v) refl)
    (λ v. when_both P (shifts_var a.tree || shifts_var b.tree) _ _
    (λ s. shifted (eqb-true _ _ (not-false _ x)) (eqb-true _ _ (not-false _ y)) (eqb-true _ _ (not-false _ w))
    (ltb-false _ _ v) s refl)
    (λ s.
    let o = or_false (shifts_var a.tree) (shifts_var b.tree) s in
    not_refused (eqb-true _ _ (not-false _ x)) (eqb-true _ _ (not-false _ y)) (eqb-true _ _ (not-false _ w))
    (ltb-false _ _ v) o.0 o.1 refl)))))
  where
    P : ℕ → Type 0
    P n = RefusedBy a b n

-- and the other way: each number where its test decides
module _ (a b : Side) where
  pub refused_left : (a.refusal ≡ 0 → ⊥) → judge_refusal a b ≡ a.refusal
  unfolding judge_refusal
  refused_left n = simp (ne_eqb a.refusal 0 n)

  module _ (ha : a.refusal ≡ 0) where
    pub refused_right : (b.refusal ≡ 0 → ⊥) → judge_refusal a b ≡ b.refusal
    unfolding judge_refusal
    refused_right n = simp (eq-eqb a.refusal 0 ha, ne_eqb b.refusal 0 n)

    module _ (hb : b.refusal ≡ 0) where
      pub refused_eleven : (a.bitwidth ≡ b.bitwidth → ⊥) → judge_refusal a b ≡ 11
      unfolding judge_refusal
      refused_eleven n =
          simp (eq-eqb a.refusal 0 ha, eq-eqb b.refusal 0 hb, ne_eqb a.bitwidth b.bitwidth n)

      module _ (w : a.bitwidth ≡ b.bitwidth) where
        pub refused_twelve : judged_vars < length (joint_vars a b) → judge_refusal a b ≡ 12
        unfolding judge_refusal
        refused_twelve h =
            simp (
              eq-eqb a.refusal 0 ha,
              eq-eqb b.refusal 0 hb,
              eq-eqb a.bitwidth b.bitwidth w,
              lt-ltb judged_vars (length (joint_vars a b)) h,
            )

        -- by the shifts
        pub refused_shift : length (joint_vars a b) ≤ judged_vars → (t : Bool)
            → shifts_var a.tree || shifts_var b.tree ≡ t → judge_refusal a b ≡ when t (λ _. 13) (λ _. 0)
        unfolding judge_refusal
        refused_shift few t e =
            simp (
              eq-eqb a.refusal 0 ha,
              eq-eqb b.refusal 0 hb,
              eq-eqb a.bitwidth b.bitwidth w,
              le-ltb judged_vars (length (joint_vars a b)) few,
              e,
            )

-- ---- a pair that is judged

-- what is known of it
pub record Pair (a b : Side) : Type 0 where
  pub left : a.refusal ≡ 0
  pub right : b.refusal ≡ 0
  pub widths : a.bitwidth ≡ b.bitwidth
  pub few : length (joint_vars a b) ≤ judged_vars
  pub no_shift_l : shifts_var a.tree ≡ false
  pub no_shift_r : shifts_var b.tree ≡ false

pub pair : (a b : Side) → judge_refusal a b ≡ 0 → Pair a b
pair a b z = go (refused_by a b)
  where
    go : RefusedBy a b (judge_refusal a b) → Pair a b
    go (left_refused n e) = absurd (n (sym e ∙ z))
    go (right_refused l n e) = absurd (n (sym e ∙ z))
    go (widths_differ l r n e) = absurd (omega (arith, sym e ∙ z))
    go (too_many l r w h e) = absurd (omega (arith, sym e ∙ z))
    go (shifted l r w h s e) = absurd (omega (arith, sym e ∙ z))
    go (not_refused l r w h s t e) =
        record { left = l; right = r; widths = w; few = h; no_shift_l = s; no_shift_r = t }

pub judged_compared : (a b : Side) → judge_refusal a b ≡ 0
    → judge_sides a b ≡ compared a.bitwidth (joint_vars a b) a.value b.value
unfolding judge_sides
judged_compared a b ok = simp (eq-eqb (judge_refusal a b) 0 ok)

module _ (a b : Side) (sa : Sound a) (sb : Sound b) (ok : judge_refusal a b ≡ 0) where
  known : Pair a b
  known = pair a b ok

  -- the variables of each are among the joint ones
  inside : (v : ℕ) → occurs v (Binary 2 a.tree b.tree) ≡ true → elem v (joint_vars a b) ≡ true
  unfolding joint_vars
  inside =
      let both : is_expr (Binary 2 a.tree b.tree) ≡ true =
      expr_of_binary 2 a.tree b.tree
      (record { low = omega arith; high = omega arith; child_l = sa.expr; child_r = sb.expr }) in
      occurs_support (Binary 2 a.tree b.tree) both

  inside_l : (v : ℕ) → occurs v a.tree ≡ true → elem v (joint_vars a b) ≡ true
  unfolding occurs
  inside_l v o = inside v (or_of_l (occurs v a.tree) (occurs v b.tree) o)

  inside_r : (v : ℕ) → occurs v b.tree ≡ true → elem v (joint_vars a b) ≡ true
  unfolding occurs
  inside_r v o = inside v (or_of_r (occurs v a.tree) (occurs v b.tree) o)

  -- a side with no other variables takes one place of an assignment for the assignment of an index
  at_index : (c : Side) → Sound c → ((v : ℕ) → occurs v c.tree ≡ true → elem v (joint_vars a b) ≡ true)
      → (q : ℕ) (vars : List ℕ)
      → c.value (only_at q vars) ≡ c.value (single (joint_vars a b) q (index_of (joint_vars a b) q vars))
  at_index c s there q vars =
      s.depends (only_at q vars) (single (joint_vars a b) q (index_of (joint_vars a b) q vars))
      (λ v o. ap (λ (n : ℕ). n % 2 ^ c.bitwidth) (index_words (joint_vars a b) q vars v (there v o)))

  -- agreement under the assignments of places and indices is agreement under all
  module _ (e : (p : ℕ) → p < a.bitwidth → (i : ℕ) → i < 2 ^ length (joint_vars a b) → AgreeAt a b p i) where
    singles : (q : ℕ) → q < a.bitwidth → (vars : List ℕ) → a.value (only_at q vars) ≡ b.value (only_at q vars)
    singles q h vars =
        at_index a sa inside_l q vars
        ∙ e q h (index_of (joint_vars a b) q vars) (index_of_lt (joint_vars a b) q vars)
        ∙ sym (at_index b sb inside_r q vars)

    same_value : SameValue a b
    unfolding only_at
    same_value =
        agree a.bitwidth a.value b.value (sound_additive a sa known.no_shift_l)
        (subst (λ (w : ℕ). Additive w b.value) (sym known.widths) (sound_additive b sb known.no_shift_r))
        (singles 0 sa.pos []) singles

  -- ---- the verdict

  abbrev place : ℕ
  place = first_place a.bitwidth a.value b.value (joint_vars a b)

  abbrev index : ℕ
  index = first_index a.value b.value (joint_vars a b) place

  found : place < a.bitwidth → FirstUnlike a b place index
  found h =
      record {
        place_lt = h;
        index_lt = index_found a.bitwidth (joint_vars a b) a.value b.value h;
        unlike = unlike_found a.bitwidth (joint_vars a b) a.value b.value h;
        earlier = earlier;
      }
    where
      earlier : (q j : ℕ) → j < 2 ^ length (joint_vars a b) → Before q j place index → AgreeAt a b q j
      earlier q j u (lower_place k) = before_place a.bitwidth (joint_vars a b) a.value b.value q k j u
      earlier q j u (lower_index f k) =
          before_index a.bitwidth (joint_vars a b) a.value b.value q j
          (subst (λ (p : ℕ). j < first_index a.value b.value (joint_vars a b) p) (sym f) k)

  as_compared : judge_sides a b ≡ compared a.bitwidth (joint_vars a b) a.value b.value
  as_compared = judged_compared a b ok

  pub judged : Judged a b
  judged = go (ℕ_discrete place a.bitwidth)
    where
      go : Dec (place ≡ a.bitwidth) → Judged a b
      go (yes e) =
          let v : judge_sides a b ≡ verdict 0 1 0 0 =
          as_compared ∙ compared_equal a.bitwidth (joint_vars a b) a.value b.value e in
          record {
            same =
                λ _. same_value
                (λ p h i u. before_place a.bitwidth (joint_vars a b) a.value b.value p (omega arith) i u);
            all = λ _. ap (λ (x : Verdict). x.equal) v;
            numbers = λ _. (ap (λ (x : Verdict). x.place) v, ap (λ (x : Verdict). x.index) v);
            either = inr (ap (λ (x : Verdict). x.equal) v);
            unlike = λ z. let q = ap (λ (x : Verdict). x.equal) v in absurd (omega (arith, sym q ∙ z));
          }
      go (no n) =
          let v : judge_sides a b ≡ verdict 0 0 place index =
          as_compared ∙ compared_unlike a.bitwidth (joint_vars a b) a.value b.value n in
          let h : place < a.bitwidth =
          omega (arith, place_le a.bitwidth (joint_vars a b) a.value b.value) in
          let zero_of : (judge_sides a b).equal ≡ 0 = ap (λ (x : Verdict). x.equal) v in
          record {
            same = λ o. absurd (omega (arith, sym zero_of ∙ o));
            all = λ s. absurd ((found h).unlike (s _));
            numbers = λ o. absurd (omega (arith, sym zero_of ∙ o));
            either = inl zero_of;
            unlike = λ _. subst (λ (x : Verdict). FirstUnlike a b x.place x.index) (sym v) (found h);
          }

  judged_number : (judge_sides a b).refusal ≡ 0
  judged_number = go (ℕ_discrete place a.bitwidth)
    where
      go : Dec (place ≡ a.bitwidth) → (judge_sides a b).refusal ≡ 0
      go (yes e) =
          ap (λ (x : Verdict). x.refusal)
          (as_compared ∙ compared_equal a.bitwidth (joint_vars a b) a.value b.value e)
      go (no n) =
          ap (λ (x : Verdict). x.refusal)
          (as_compared ∙ compared_unlike a.bitwidth (joint_vars a b) a.value b.value n)

-- ---- the numbers of a call

pub refused_verdict : (a b : Side) (n : ℕ) → judge_refusal a b ≡ n → (n ≡ 0 → ⊥) → judge_sides a b ≡ verdict n 0 0 0
unfolding judge_sides
refused_verdict a b n e z =
    simp (ne_eqb (judge_refusal a b) 0 (λ q. z (sym e ∙ q))) (ap (λ (k : ℕ). verdict k 0 0 0) e)

pub told : (a b : Side) → (a.refusal ≡ 0 → Sound a) → (b.refusal ≡ 0 → Sound b) → (n e p i : ℕ)
    → IsVerdict (judge_sides a b) n e p i → JudgeTold a b n e p i
told a b sa sb n e p i v = go (ℕ_discrete (judge_refusal a b) 0)
  where
    refused_as : n ≡ judge_refusal a b → RefusedBy a b n
    refused_as q = subst (RefusedBy a b) (sym q) (refused_by a b)

    go : Dec (judge_refusal a b ≡ 0) → JudgeTold a b n e p i
    go (yes z) =
        let k = pair a b z in
        let j = judged a b (sa k.left) (sb k.right) z in
        let none : n ≡ 0 = v.number ∙ judged_number a b (sa k.left) (sb k.right) z in
        record {
          refusal = refused_as (none ∙ sym z);
          refused = λ q. absurd (q none);
          same = λ o. j.same (sym v.flag ∙ o);
          all = λ _ s. v.flag ∙ j.all s;
          numbers =
              λ o.
              let q = j.numbers (sym v.flag ∙ o) in
              (none, v.at_place ∙ q.0, v.at_index ∙ q.1);
          either = ⊎_elim (λ q. inl (v.flag ∙ q)) (λ q. inr (v.flag ∙ q)) j.either;
          unlike =
              λ _ o.
              rw (v.at_place, v.at_index) (j.unlike (sym v.flag ∙ o));
        }
    go (no m) =
        let q = refused_verdict a b (judge_refusal a b) refl m in
        let number : n ≡ judge_refusal a b = v.number ∙ ap (λ (x : Verdict). x.refusal) q in
        let zero_of : e ≡ 0 = v.flag ∙ ap (λ (x : Verdict). x.equal) q in
        record {
          refusal = refused_as number;
          refused =
              λ _. (
                zero_of,
                v.at_place ∙ ap (λ (x : Verdict). x.place) q,
                v.at_index ∙ ap (λ (x : Verdict). x.index) q,
              );
          same = λ o. absurd (omega (arith, sym zero_of ∙ o));
          all = λ z. absurd (m (sym number ∙ z));
          numbers = λ o. absurd (omega (arith, sym zero_of ∙ o));
          either = inl zero_of;
          unlike = λ z. absurd (m (sym number ∙ z));
        }

-- of two expressions, and of two semilinear forms
pub told_exprs : (l r : List ℕ) → IsBytes l → IsBytes r → (n e p i : ℕ)
    → IsVerdict (judge_sides (expr_side l) (expr_side r)) n e p i → JudgeTold (expr_side l) (expr_side r) n e p i
told_exprs l r hl hr =
    told (expr_side l) (expr_side r) (λ z. expr_sound l z hl) (λ z. expr_sound r z hr)

pub told_forms : (l r : List ℕ) → IsBytes l → IsBytes r → (n e p i : ℕ)
    → IsVerdict (judge_sides (form_side l) (form_side r)) n e p i → JudgeTold (form_side l) (form_side r) n e p i
told_forms l r hl hr =
    told (form_side l) (form_side r) (form_sound l hl) (form_sound r hr)
