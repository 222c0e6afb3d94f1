-- The place of a variable in a list, as std's `position` finds it.
use Rattle.std.proofs.Common.{◌≡◌, ℕ, ◌+◌, ◌<◌, List, ◌∷◌, Bool, true, false, cond, length, nat_lt, refl, sym, ap, ◌∙◌, arith, ltb-true, ltb-false}
use Rattle.std.specs.Option.{unwrap_or}
use Rattle.std.specs.Prelude.{Option, Some, None}
use Rattle.std.specs.List.{position, position_or_len}
use Rattle.std.proofs.lemmas.List.Recursion.{is_position_or_len}
use lib.Dec.{eqb}
use Rattle.base.specs.Choice.{when}
use Rattle.truth.specs.Truth.{place_of}
use Rattle.truth.proofs.RowsLaws.{place_le}

module _ (v : ℕ) where
  place_turn : (x : ℕ) (l : List ℕ) → place_of v (x ∷ l) ≡ cond (eqb x v) 0 (1 + place_of v l)
  unfolding place_of
  place_turn x l =
      elim (eqb x v) as (λ b. when b (λ _. 0) (λ _. place_of v l + 1) ≡ cond b 0 (1 + place_of v l)) [ true ↦ refl | false ↦ omega arith ]

  place_or_len : (l : List ℕ) → place_of v l ≡ position_or_len (λ (x : ℕ). eqb x v) l
  unfolding place_of
  place_or_len l = is_position_or_len (place_of v) (λ (x : ℕ). eqb x v) refl place_turn l

  module _ (l : List ℕ) where
    known : (b : Bool) → nat_lt (place_of v l) (length l) ≡ b
        → position (λ (x : ℕ). eqb x v) l ≡ cond b (Some (place_of v l)) None
    known b e =
        ap (λ (k : ℕ). cond (nat_lt k (length l)) (Some k) None) (sym (place_or_len l))
        ∙ ap (λ (c : Bool). cond c (Some (place_of v l)) None) e

    -- there is one, or none
    pub place_some : (j : ℕ) → position (λ (x : ℕ). eqb x v) l ≡ Some j → (j ≡ place_of v l) × (j < length l)
    place_some j h = go (nat_lt (place_of v l) (length l)) refl
      where
        go : (b : Bool) → nat_lt (place_of v l) (length l) ≡ b → (j ≡ place_of v l) × (j < length l)
        go true e =
            let q : Some j ≡ Some (place_of v l) = sym h ∙ known true e in
            let r : j ≡ place_of v l = cc in
            (r, omega (arith, ltb-true _ _ e))
        go false e =
            let q : Some j ≡ None = sym h ∙ known false e in
            let z : ◌≡◌ {A = ℕ} 0 1 = cc in
            absurd (omega arith)

    pub place_none : position (λ (x : ℕ). eqb x v) l ≡ None → place_of v l ≡ length l
    place_none h = go (nat_lt (place_of v l) (length l)) refl
      where
        go : (b : Bool) → nat_lt (place_of v l) (length l) ≡ b → place_of v l ≡ length l
        go true e =
            let q : Some (place_of v l) ≡ None = sym (known true e) ∙ h in
            let z : ◌≡◌ {A = ℕ} 0 1 = cc in
            absurd (omega arith)
        go false e = omega (arith, place_le v l, ltb-false _ _ e)

    pub place_of_position : unwrap_or (position (λ (x : ℕ). eqb x v) l) (length l) ≡ place_of v l
    place_of_position = go (nat_lt (place_of v l) (length l)) refl
      where
        go : (b : Bool) → nat_lt (place_of v l) (length l) ≡ b
            → unwrap_or (position (λ (x : ℕ). eqb x v) l) (length l) ≡ place_of v l
        go true e = ap (λ (o : Option ℕ). unwrap_or o (length l)) (known true e)
        go false e =
            ap (λ (o : Option ℕ). unwrap_or o (length l)) (known false e)
            ∙ omega (arith, place_le v l, ltb-false _ _ e)
