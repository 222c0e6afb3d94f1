-- The refusals of normalising, both ways: which number is given exactly when (document 01, "Refusals", 1 to 6, 8 and
-- 9), and that no other is.
use mathlib.Core.Path.{◌≡◌, refl, ap, sym, subst, ◌∙◌}
use Prim.Native.Nat.{ℕ, ◌%◌, ◌^◌, ◌≤◌, ◌<◌}
use native.Mathlib.Omega.{arith}
use native.Mathlib.Decide.{dec_lt}
use mathlib.Core.Logic.{◌↔◌, ◌⊎◌, inl, inr}
use mathlib.Core.List.{List}
use mathlib.Core.Bool.{Bool, true, false, not, ◌&&◌}
use lib.ListN.{length}
use lib.Dec.{eqb, ltb}
use borrow.Author.Tests.{eq-eqb, ne_eqb}
use Rattle.base.specs.Choice.{when}
use Rattle.record.specs.Fields.{kind, width, amount, arity}
use Rattle.record.specs.Span.{body, left, right}
use Rattle.record.specs.Tree.{Tree}
use Rattle.record.specs.Decode.{decode}
use Rattle.record.proofs.SpanLaws.{fold_none, fold_leaf, fold_one, fold_two, span_ind}
use Rattle.expr_refusal.specs.Refusal.{lowest, form_ok, width_ok, root_refusal, tree_refusal, expr_refusal}
use Rattle.semilinear.specs.Form.{fits_table}
use Rattle.base.specs.Outcome.{Outcome, refused, refusal_of}
use Rattle.semilinear.specs.Outcome.{form_outcome}
use Rattle.normalizer_laws.specs.Collect.{Emitted, nonlinear, linear, collect_terms}
use Rattle.normalizer_laws.specs.Normalize.{collected_form, normalize_tree, normalize_to_semilinear}
use Rattle.normalizer_laws.proofs.NormalizeLaws.{TreeCase, not_linear, too_large, written}
use Rattle.normalizer_laws.proofs.NormalizeLaws.{tree_eight, tree_nine, tree_case, file_outcome, normalize_file}
use Rattle.normalizer_laws.proofs.NormalizeLaws.{FileCase, wrong_length, wrong_slice, no_expression, expression}
use Rattle.normalizer_laws.proofs.NormalizeLaws.{file_one, file_two, file_refused, file_tree, file_case}

-- ---- the refusals of an expression

-- none, or 3 to 6
abbrev Range : ℕ → Type 0
Range n = (n ≡ 0) ⊎ ((3 ≤ n) × (n ≤ 6))

lowest_range : (a b : ℕ) → Range a → Range b → Range (lowest a b)
unfolding lowest
lowest_range a b (inl z) h = simp (eq-eqb a 0 z) h
lowest_range a b (inr p) (inl z) = simp (ne_eqb a 0 (omega (arith, p.0)), eq-eqb b 0 z) (inr p)
lowest_range a b (inr p) (inr q) =
    simp (ne_eqb a 0 (omega (arith, p.0)), ne_eqb b 0 (omega (arith, q.0)))
    (inr (omega (arith, p.0, q.0), omega (arith, p.1)))

module _ (w : ℕ) where
  root_range : (s : List ℕ) → Range (root_refusal w s)
  unfolding root_refusal
  root_range s =
      go (not (form_ok s)) (not (width_ok w (width s))) (ltb 9 (kind s)) (eqb (kind s) 9 && ltb 63 (amount s))
    where
      go : (a b c d : Bool)
          → Range
          (when a (λ _. 3) (λ _. when b (λ _. 4) (λ _. when c (λ _. 5) (λ _. when d (λ _. 6) (λ _. 0)))))
      go true b c d = inr (omega arith, omega arith)
      go false true c d = inr (omega arith, omega arith)
      go false false true d = inr (omega arith, omega arith)
      go false false false true = inr (omega arith, omega arith)
      go false false false false = inl refl

  InRange : List ℕ → Type 0
  InRange s = Range (tree_refusal w s)

  tree_range : (s : List ℕ) → InRange s
  unfolding InRange
  tree_range = span_ind InRange none leaf one two
    where
      none : (s : List ℕ) → length s < 16 → InRange s
      none s h = subst Range (sym (fold_none _ _ _ _ s h)) (inr (omega arith, omega arith))

      leaf : (s : List ℕ) → 16 ≤ length s → arity (kind s) ≡ 0 → InRange s
      leaf s big a = subst Range (sym (fold_leaf _ _ _ _ s big a)) (root_range s)

      one : (s : List ℕ) → 16 ≤ length s → arity (kind s) ≡ 1 → InRange (body s) → InRange s
      one s big a h = subst Range (sym (fold_one _ _ _ _ s big a)) (lowest_range _ _ (root_range s) h)

      two : (s : List ℕ) → 16 ≤ length s → (arity (kind s) ≡ 0 → ⊥) → (arity (kind s) ≡ 1 → ⊥)
          → InRange (left s) → InRange (right s) → InRange s
      two s big p q h k =
          subst Range (sym (fold_two _ _ _ _ s big p q))
          (lowest_range _ _ (root_range s) (lowest_range _ _ h k))

-- the refusal of an expression file is none, 1, or 3 to 6
pub expr_range : (s : List ℕ) → (expr_refusal s ≡ 1) ⊎ Range (expr_refusal s)
unfolding expr_refusal InRange
expr_range s =
    go (eqb (length s) 0) (ltb (2 ^ 14) (length s)) (not (eqb (length s % 16) 0)) (tree_range (width s) s)
  where
    whole : Bool → Bool → Bool → ℕ
    whole a b c =
        when a (λ _. 1) (λ _. when b (λ _. 1) (λ _. when c (λ _. 1) (λ _. tree_refusal (width s) s)))

    go : (a b c : Bool) → Range (tree_refusal (width s) s) → (whole a b c ≡ 1) ⊎ Range (whole a b c)
    go true b c h = inl refl
    go false true c h = inl refl
    go false false true h = inl refl
    go false false false h = inr h

-- ---- a tree

same_refusal : {o p : Outcome} {n : ℕ} → o ≡ p → o ≡ refused n → refusal_of p ≡ n
unfolding refusal_of
same_refusal f e = ap refusal_of (sym f ∙ e)

-- the descent gives these atoms, and the table does not hold them
abbrev pub TooLarge : ℕ → Tree → Type 0
TooLarge w t =
    (c : ℕ) × (l : List Emitted) × (collect_terms w 1 t ≡ linear c l) × (fits_table (collected_form w c l).rows ≡ false)

module _ (w : ℕ) (t : Tree) where
  -- the refusals of a tree are 8 and 9
  tree_which : (n : ℕ) → 1 ≤ n → normalize_tree w t ≡ refused n → (8 ≤ n) × (n ≤ 9)
  unfolding refusal_of form_outcome
  tree_which n pos e = go (tree_case w t)
    where
      go : TreeCase w t → (8 ≤ n) × (n ≤ 9)
      go (not_linear b f) = (omega (arith, same_refusal f e), omega (arith, same_refusal f e))
      go (too_large c l b x f) = (omega (arith, same_refusal f e), omega (arith, same_refusal f e))
      go (written c l b x f) = absurd (omega (arith, same_refusal f e))

  pub tree_eight_iff : (normalize_tree w t ≡ refused 8) ↔ (collect_terms w 1 t ≡ nonlinear)
  unfolding refusal_of form_outcome
  tree_eight_iff = (λ e. go e (tree_case w t), λ h. tree_eight w t h)
    where
      go : normalize_tree w t ≡ refused 8 → TreeCase w t → collect_terms w 1 t ≡ nonlinear
      go e (not_linear b f) = b
      go e (too_large c l b x f) = absurd (omega (arith, same_refusal f e))
      go e (written c l b x f) = absurd (omega (arith, same_refusal f e))

  pub tree_nine_iff : (normalize_tree w t ≡ refused 9) ↔ TooLarge w t
  unfolding refusal_of form_outcome
  tree_nine_iff = (
    λ e. go e (tree_case w t),
    λ h. tree_nine w t h.0 h.1 h.2 h.3,
  )
    where
      go : normalize_tree w t ≡ refused 9 → TreeCase w t → TooLarge w t
      go e (not_linear b f) = absurd (omega (arith, same_refusal f e))
      go e (too_large c l b x f) = (c, l, b, x)
      go e (written c l b x f) = absurd (omega (arith, same_refusal f e))

-- ---- the bytes of an expression

-- the bytes are an expression, and the result slice has the right length
abbrev pub Reached : List ℕ → ℕ → Type 0
Reached s len = (expr_refusal s ≡ 0) × (len ≡ 57360)

-- of any outcome o that is given where the tree u is normalised for the bytes s
module _ (s : List ℕ) (len : ℕ) (u : Tree) {o : Outcome} (is : o ≡ file_outcome s len u) where
  cases : FileCase o s len u
  cases = file_case s len u is

  -- a refusal of 7 or more is the tree's
  of_tree : (n : ℕ) → 7 ≤ n → o ≡ refused n → Reached s len × (normalize_tree (width s) u ≡ refused n)
  unfolding refusal_of
  of_tree n h e = go cases
    where
      low : (expr_refusal s ≡ 1) ⊎ Range (expr_refusal s) → expr_refusal s ≡ n → ⊥
      low (inl a) f = omega arith
      low (inr (inl a)) f = omega arith
      low (inr (inr a)) f = omega (arith, a.1)

      go : FileCase o s len u → Reached s len × (normalize_tree (width s) u ≡ refused n)
      go (wrong_length a f) = absurd (omega (arith, same_refusal f e))
      go (wrong_slice a b f) = absurd (omega (arith, same_refusal f e))
      go (no_expression a b c f) = absurd (low (expr_range s) (same_refusal f e))
      go (expression z k f) = ((z, k), sym f ∙ e)

  not_low : (n : ℕ) → 1 ≤ n → n < 7 → normalize_tree (width s) u ≡ refused n → ⊥
  not_low n pos h e = omega (arith, (tree_which (width s) u n pos e).0)

  pub file_one_iff : (o ≡ refused 1) ↔ (expr_refusal s ≡ 1)
  unfolding refusal_of
  file_one_iff = (λ e. go e cases, λ h. file_one s len u is h)
    where
      go : o ≡ refused 1 → FileCase o s len u → expr_refusal s ≡ 1
      go e (wrong_length a f) = a
      go e (wrong_slice a b f) = absurd (omega (arith, same_refusal f e))
      go e (no_expression a b c f) = same_refusal f e
      go e (expression z k f) = absurd (not_low 1 (omega arith) (omega arith) (sym f ∙ e))

  pub file_two_iff : (o ≡ refused 2) ↔ ((expr_refusal s ≡ 1 → ⊥) × (len ≡ 57360 → ⊥))
  unfolding refusal_of
  file_two_iff = (λ e. go e cases, λ h. file_two s len u is h.0 h.1)
    where
      low : (expr_refusal s ≡ 1) ⊎ Range (expr_refusal s) → expr_refusal s ≡ 2 → ⊥
      low (inl a) f = omega arith
      low (inr (inl a)) f = omega arith
      low (inr (inr a)) f = omega (arith, a.0)

      go : o ≡ refused 2 → FileCase o s len u → (expr_refusal s ≡ 1 → ⊥) × (len ≡ 57360 → ⊥)
      go e (wrong_length a f) = absurd (omega (arith, same_refusal f e))
      go e (wrong_slice a b f) = (a, b)
      go e (no_expression a b c f) = absurd (low (expr_range s) (same_refusal f e))
      go e (expression z k f) = absurd (not_low 2 (omega arith) (omega arith) (sym f ∙ e))

  -- refusals 3 to 6
  pub file_expr_iff : (n : ℕ) → 3 ≤ n → n < 7 → (o ≡ refused n) ↔ ((expr_refusal s ≡ n) × (len ≡ 57360))
  unfolding refusal_of
  file_expr_iff n low high = (
    λ e. go e cases,
    λ h. file_refused s len u is (omega (arith, h.0)) (omega (arith, h.0)) h.1 ∙ ap refused h.0,
  )
    where
      go : o ≡ refused n → FileCase o s len u → (expr_refusal s ≡ n) × (len ≡ 57360)
      go e (wrong_length a f) = absurd (omega (arith, same_refusal f e))
      go e (wrong_slice a b f) = absurd (omega (arith, same_refusal f e))
      go e (no_expression a b c f) = (same_refusal f e, c)
      go e (expression z k f) = absurd (not_low n (omega arith) high (sym f ∙ e))

  -- 7 is the refusal of no file
  pub file_not_seven : o ≡ refused 7 → ⊥
  file_not_seven e = omega (arith, (tree_which (width s) u 7 (omega arith) (of_tree 7 (omega arith) e).1).0)

  -- and neither is one above 9
  pub file_at_most_nine : (n : ℕ) → o ≡ refused n → n ≤ 9
  file_at_most_nine n e = go (dec_lt 9 n)
    where
      go : Dec (9 < n) → n ≤ 9
      go (yes h) = (tree_which (width s) u n (omega arith) (of_tree n (omega arith) e).1).1
      go (no h) = omega arith

  -- refusals 8 and 9 are those of the tree
  from_tree : {P : Type 0} (n : ℕ) → 8 ≤ n → (normalize_tree (width s) u ≡ refused n) ↔ P
      → (o ≡ refused n) ↔ (Reached s len × P)
  from_tree n h iff = (
    λ e. ((of_tree n (omega arith) e).0, iff.0 (of_tree n (omega arith) e).1),
    λ p. file_tree s len u is p.0.0 p.0.1 ∙ iff.1 p.1,
  )

  pub file_eight_iff : (o ≡ refused 8) ↔ (Reached s len × (collect_terms (width s) 1 u ≡ nonlinear))
  file_eight_iff = from_tree 8 (omega arith) (tree_eight_iff (width s) u)

  pub file_nine_iff : (o ≡ refused 9) ↔ (Reached s len × TooLarge (width s) u)
  file_nine_iff = from_tree 9 (omega arith) (tree_nine_iff (width s) u)

-- ---- normalising

module _ (s : List ℕ) (len : ℕ) where
  pub refused_one_iff : (normalize_to_semilinear s len ≡ refused 1) ↔ (expr_refusal s ≡ 1)
  refused_one_iff = file_one_iff s len (decode s) (normalize_file s len)

  pub refused_two_iff : (normalize_to_semilinear s len ≡ refused 2)
      ↔ ((expr_refusal s ≡ 1 → ⊥) × (len ≡ 57360 → ⊥))
  refused_two_iff = file_two_iff s len (decode s) (normalize_file s len)

  -- refusals 3 to 6
  pub refused_expr_iff : (n : ℕ) → 3 ≤ n → n < 7
      → (normalize_to_semilinear s len ≡ refused n) ↔ ((expr_refusal s ≡ n) × (len ≡ 57360))
  refused_expr_iff = file_expr_iff s len (decode s) (normalize_file s len)

  -- 7 is the refusal of no file
  pub refused_not_seven : normalize_to_semilinear s len ≡ refused 7 → ⊥
  refused_not_seven = file_not_seven s len (decode s) (normalize_file s len)

  -- and neither is one above 9
  pub refused_at_most_nine : (n : ℕ) → normalize_to_semilinear s len ≡ refused n → n ≤ 9
  refused_at_most_nine = file_at_most_nine s len (decode s) (normalize_file s len)

  pub refused_eight_iff : (normalize_to_semilinear s len ≡ refused 8)
      ↔ (Reached s len × (collect_terms (width s) 1 (decode s) ≡ nonlinear))
  refused_eight_iff = file_eight_iff s len (decode s) (normalize_file s len)

  pub refused_nine_iff : (normalize_to_semilinear s len ≡ refused 9)
      ↔ (Reached s len × TooLarge (width s) (decode s))
  refused_nine_iff = file_nine_iff s len (decode s) (normalize_file s len)
