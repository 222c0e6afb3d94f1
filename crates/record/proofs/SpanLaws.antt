-- Laws of specs/Span.antt: the children's spans, the equations of `fold`, and induction over spans.
use mathlib.Core.Path.{◌≡◌, refl, ◌∙◌}
use Prim.Native.Nat.{ℕ, zero, suc, ◌+◌, ◌-◌, ◌*◌, ◌≤◌, ◌<◌}
use native.Mathlib.Omega.{arith}
use native.Mathlib.Nat.{le_refl, le_of_lt}
use native.Mathlib.Decide.{dec_lt, ℕ_discrete}
use mathlib.Core.List.{List, [], ◌++◌}
use mathlib.Core.Bool.{Bool, true, false}
use lib.ListN.{length, drop, length-take, length-drop, take-append-drop}
use lib.Seq.{take-add}
use lib.Dec.{ltb}
use borrow.Author.Tests.{lt-ltb, le-ltb, ltb-false, ne_eqb}
use Rattle.base.specs.Choice.{when}
use Rattle.record.specs.Fields.{u16, kind, arity}
use Rattle.record.specs.Span.{cut, body, left, right, step, steps_f, fold}

pub cut_le : (s : List ℕ) → cut s ≤ length s - 16
unfolding cut
cut_le s = go (ltb (length s) 32)
  where
    go : (b : Bool) → when b (λ _. 0) (λ _. length s - 16 - 16 * u16 s (length s - 30)) ≤ length s - 16
    go true = omega arith
    go false = omega arith

-- of a span too short for a record
pub body_short : (s : List ℕ) → length s < 16 → [] ≡ body s
unfolding body
body_short s h = let e : length s - 16 ≡ 0 = omega arith in rw e

pub right_short : (s : List ℕ) → length s < 16 → [] ≡ right s
unfolding right
right_short s h = let e : length s - 16 - cut s ≡ 0 = omega arith in rw e

pub length_body : (s : List ℕ) → length (body s) ≡ length s - 16
unfolding body
length_body s = simp length-take (omega arith)

pub length_left : (s : List ℕ) → length (left s) ≡ cut s
unfolding left
length_left s = simp length-take (omega (arith, cut_le s))

pub length_right : (s : List ℕ) → length (right s) ≡ length s - 16 - cut s
unfolding right
length_right s = simp (length-take, length-drop) (omega (arith, cut_le s))

module _ (s : List ℕ) (big : 16 ≤ length s) where
  pub body_shorter : length (body s) < length s
  body_shorter = omega (arith, length_body s)

  pub left_shorter : length (left s) < length s
  left_shorter = omega (arith, length_left s, cut_le s)

  pub right_shorter : length (right s) < length s
  right_shorter = omega (arith, length_right s, cut_le s)

-- a span is its children's spans and its last record
pub split_one : (s : List ℕ) → body s ++ drop (length s - 16) s ≡ s
unfolding body
split_one s = take-append-drop (length s - 16) s

pub split_two : (s : List ℕ) → (left s ++ right s) ++ drop (length s - 16) s ≡ s
unfolding left right
split_two s =
    let e : cut s + (length s - 16 - cut s) ≡ length s - 16 = omega (arith, cut_le s) in
    rw (← take-add (cut s) (length s - 16 - cut s) s, e) (take-append-drop (length s - 16) s)

module _ {A : Type 0} (none : A) (leaf : List ℕ → A) (one : List ℕ → A → A) (two : List ℕ → A → A → A) where
  abbrev step_of : (List ℕ → A) → List ℕ → A
  step_of = step none leaf one two

  abbrev fold_of : List ℕ → A
  fold_of = fold none leaf one two

  step_cong : (f g : List ℕ → A) (s : List ℕ) → ((r : List ℕ) → length r < length s → f r ≡ g r)
      → step_of f s ≡ step_of g s
  unfolding step
  step_cong f g s h = go (ltb (length s) 16) refl
    where
      go : (b : Bool) → ltb (length s) 16 ≡ b → step_of f s ≡ step_of g s
      go true e = simp e
      go false e =
          let big : 16 ≤ length s = ltb-false _ _ e in
          simp (
            e,
            h (body s) (body_shorter s big),
            h (left s) (left_shorter s big),
            h (right s) (right_shorter s big),
          )

  -- any count that reaches the length gives the same
  steps_f_enough : (m n : ℕ) (s : List ℕ) → length s ≤ m → length s ≤ n
      → steps_f none leaf one two m s ≡ steps_f none leaf one two n s
  unfolding steps_f step
  steps_f_enough zero zero s p q = refl
  steps_f_enough zero (suc n) s p q = let h : length s < 16 = omega arith in simp (lt-ltb (length s) 16 h)
  steps_f_enough (suc m) zero s p q = let h : length s < 16 = omega arith in simp (lt-ltb (length s) 16 h)
  steps_f_enough (suc m) (suc n) s p q =
      step_cong (steps_f none leaf one two m) (steps_f none leaf one two n) s
      (λ r h.
      let a : length r ≤ m = omega arith in
      let b : length r ≤ n = omega arith in
      steps_f_enough m n r a b)

  fold_step : (s : List ℕ) → fold_of s ≡ step_of fold_of s
  unfolding fold steps_f
  fold_step s =
      steps_f_enough (length s) (suc (length s)) s (le_refl _) (omega arith)
      ∙ step_cong (steps_f none leaf one two (length s)) fold_of s
      (λ r h. steps_f_enough (length s) (length r) r (le_of_lt h) (le_refl _))

  pub fold_none : (s : List ℕ) → length s < 16 → fold_of s ≡ none
  unfolding step
  fold_none s h = fold_step s ∙ simp (lt-ltb (length s) 16 h)

  pub fold_leaf : (s : List ℕ) → 16 ≤ length s → arity (kind s) ≡ 0 → fold_of s ≡ leaf s
  unfolding step
  fold_leaf s big e = fold_step s ∙ simp (le-ltb (length s) 16 big, e)

  pub fold_one : (s : List ℕ) → 16 ≤ length s → arity (kind s) ≡ 1 → fold_of s ≡ one s (fold_of (body s))
  unfolding step
  fold_one s big e = fold_step s ∙ simp (le-ltb (length s) 16 big, e)

  pub fold_two : (s : List ℕ) → 16 ≤ length s → (arity (kind s) ≡ 0 → ⊥) → (arity (kind s) ≡ 1 → ⊥)
      → fold_of s ≡ two s (fold_of (left s)) (fold_of (right s))
  unfolding step
  fold_two s big p q =
      fold_step s
      ∙ simp (le-ltb (length s) 16 big, ne_eqb (arity (kind s)) 0 p, ne_eqb (arity (kind s)) 1 q)

-- induction over spans, with the same four cases
module _ (P : List ℕ → Type 0) (none : (s : List ℕ) → length s < 16 → P s)
    (leaf : (s : List ℕ) → 16 ≤ length s → arity (kind s) ≡ 0 → P s)
    (one : (s : List ℕ) → 16 ≤ length s → arity (kind s) ≡ 1 → P (body s) → P s)
    (two : (s : List ℕ) → 16 ≤ length s → (arity (kind s) ≡ 0 → ⊥) → (arity (kind s) ≡ 1 → ⊥)
    → P (left s) → P (right s) → P s) where
  ind_at : (n : ℕ) → ((r : List ℕ) → length r ≤ n → P r) → (s : List ℕ) → length s ≤ suc n
      → Dec (length s < 16) → Dec (arity (kind s) ≡ 0) → Dec (arity (kind s) ≡ 1) → P s
  ind_at n below s h (yes a) b d = none s a
  ind_at n below s h (no a) (yes e) d = leaf s (omega arith) e
  ind_at n below s h (no a) (no p) (yes e) =
      let big : 16 ≤ length s = omega arith in
      one s big e (below (body s) (omega (arith, body_shorter s big)))
  ind_at n below s h (no a) (no p) (no q) =
      let big : 16 ≤ length s = omega arith in
      two s big p q (below (left s) (omega (arith, left_shorter s big)))
      (below (right s) (omega (arith, right_shorter s big)))

  ind_to : (n : ℕ) (s : List ℕ) → length s ≤ n → P s
  ind_to zero s h = none s (omega arith)
  ind_to (suc n) s h =
      ind_at n (ind_to n) s h (dec_lt (length s) 16) (ℕ_discrete (arity (kind s)) 0)
      (ℕ_discrete (arity (kind s)) 1)

  pub span_ind : (s : List ℕ) → P s
  span_ind s = ind_to (length s) s (le_refl _)
