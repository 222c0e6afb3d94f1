-- Two values compared under the assignments of places and indices (specs/Judge.antt): what the searches have found, and
-- what the outcome is where it is known which pairs differ.
use mathlib.Core.Path.{◌≡◌, ap, ap₂, sym, ◌∙◌}
use Prim.Native.Nat.{ℕ, ◌^◌, ◌≤◌, ◌<◌}
use native.Mathlib.Omega.{arith}
use mathlib.Core.List.{List}
use mathlib.Core.Bool.{true, false}
use lib.ListN.{length}
use borrow.Author.Tests.{eqb-true, eqb-false, eq-eqb, ne_eqb, not-true, not-false, ltb-true, ltb-false, lt-ltb, le-ltb}
use Rattle.base.specs.Loop.{first_in}
use Rattle.base.proofs.LoopLaws.{first_true, first_le}
use Rattle.base.proofs.SearchLaws.{first_before, first_is, first_none}
use Rattle.judge_laws.specs.Judge.{single, differs, indices, first_index, differs_at, first_place, verdict, compared}

module _ (w : ℕ) (vs : List ℕ) (f g : List ℕ → ℕ) where
  -- the values agree under the assignment of a place and an index
  abbrev Agree : ℕ → ℕ → Type 0
  Agree p i = f (single vs p i) ≡ g (single vs p i)

  -- ---- what the searches have found

  agrees : (p i : ℕ) → differs f g vs p i ≡ false → Agree p i
  unfolding differs
  agrees p i e = eqb-true _ _ (not-false _ e)

  pub before_index : (p j : ℕ) → j < first_index f g vs p → Agree p j
  unfolding first_index
  before_index p j h = agrees p j (first_before (differs f g vs p) 0 (indices vs) j (omega arith) h)

  pub before_place : (q : ℕ) → q < first_place w f g vs → (j : ℕ) → j < 2 ^ length vs → Agree q j
  unfolding first_place differs_at indices
  before_place q h j u =
      let none : indices vs ≤ first_index f g vs q =
      ltb-false _ _ (first_before (differs_at f g vs) 0 w q (omega arith) h) in
      before_index q j (omega (arith, none))

  pub place_le : first_place w f g vs ≤ w
  unfolding first_place
  place_le = first_le (differs_at f g vs) 0 w (omega arith)

  -- where a place is found
  module _ (h : first_place w f g vs < w) where
    pub index_found : first_index f g vs (first_place w f g vs) < 2 ^ length vs
    unfolding first_place differs_at indices
    index_found = ltb-true _ _ (first_true (differs_at f g vs) 0 w h)

    pub unlike_found : Agree (first_place w f g vs) (first_index f g vs (first_place w f g vs)) → ⊥
    unfolding first_index differs indices
    unlike_found =
        eqb-false _ _
        (not-true _ (first_true (differs f g vs (first_place w f g vs)) 0 (indices vs) index_found))

  -- ---- the outcome

  pub compared_equal : first_place w f g vs ≡ w → compared w vs f g ≡ verdict 0 1 0 0
  unfolding compared
  compared_equal e = simp (eq-eqb (first_place w f g vs) w e)

  pub compared_unlike : (first_place w f g vs ≡ w → ⊥)
      → compared w vs f g ≡ verdict 0 0 (first_place w f g vs) (first_index f g vs (first_place w f g vs))
  unfolding compared
  compared_unlike n = simp (ne_eqb (first_place w f g vs) w n)

  no_index : (p : ℕ) → ((i : ℕ) → i < 2 ^ length vs → differs f g vs p i ≡ false) → differs_at f g vs p ≡ false
  unfolding differs_at first_index indices
  no_index p e =
      let n = first_none (differs f g vs p) 0 (indices vs) (omega arith) (λ i _ u. e i u) in
      le-ltb (first_in (differs f g vs p) 0 (indices vs)) (indices vs) (omega (arith, n))

  -- they differ nowhere
  pub compared_nowhere : ((p : ℕ) → p < w → (i : ℕ) → i < 2 ^ length vs → differs f g vs p i ≡ false)
      → verdict 0 1 0 0 ≡ compared w vs f g
  unfolding first_place
  compared_nowhere e =
      sym (compared_equal (first_none (differs_at f g vs) 0 w (omega arith) (λ p _ h. no_index p (e p h))))

  -- they differ first at place p and index i
  module _ (p i : ℕ) (hp : p < w) (hi : i < 2 ^ length vs) (t : differs f g vs p i ≡ true)
      (places : (q : ℕ) → q < p → (j : ℕ) → j < 2 ^ length vs → differs f g vs q j ≡ false)
      (before : (j : ℕ) → j < i → differs f g vs p j ≡ false) where
    index_is : first_index f g vs p ≡ i
    unfolding first_index indices
    index_is = first_is (differs f g vs p) 0 (indices vs) i (omega arith) hi t (λ j _ u. before j u)

    place_is : first_place w f g vs ≡ p
    unfolding first_place differs_at indices
    place_is =
        first_is (differs_at f g vs) 0 w p (omega arith) hp
        (lt-ltb (first_index f g vs p) (indices vs) (omega (arith, index_is))) (λ q _ h. no_index q (places q h))

    pub compared_first : verdict 0 0 p i ≡ compared w vs f g
    compared_first =
        sym
        (compared_unlike (omega (arith, place_is))
        ∙ ap₂ (verdict 0 0) place_is (ap (first_index f g vs) place_is ∙ index_is))
