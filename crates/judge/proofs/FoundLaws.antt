-- The search for the first place and index (specs/Found.antt): the test on sums is that on rows; what is found is the
-- verdict.
use mathlib.Core.Path.{◌≡◌, ap, ap₂, sym, ◌∙◌}
use Prim.Native.Nat.{ℕ, ◌+◌, ◌*◌, ◌%◌, ◌^◌, ◌≤◌, ◌<◌}
use native.Mathlib.Nat.{mul_comm}
use native.Mathlib.Decide.{ℕ_discrete}
use native.Mathlib.Omega.{arith}
use mathlib.Core.List.{List}
use mathlib.Core.Bool.{Bool, true, false, not}
use lib.ListN.{get_or}
use lib.Dec.{eqb}
use borrow.Author.Tests.{eq-eqb, ne_eqb}
use Rattle.arith.specs.Congruence.{Eqm}
use Rattle.arith.specs.Width.{mod_add, mod_mul}
use Rattle.arith.proofs.CongruenceLaws.{eqm_of_eq, eqm_trans, eqm_add, eqm_mod, eqm_mul_l}
use Rattle.arith.proofs.WidthLaws.{mod_add_lem, mod_mul_lem}
use Rattle.base.specs.Loop.{first_in}
use Rattle.base.proofs.LoopLaws.{first_true}
use Rattle.base.proofs.SearchLaws.{first_before}
use Rattle.semilinear.specs.Form.{Row}
use Rattle.judge_laws.specs.PlaceSum.{place_sum}
use Rattle.judge_laws.specs.declared.Verdict.{Verdict}
use Rattle.judge_laws.specs.Judge.{verdict}
use Rattle.judge.specs.Found.{unlike_sums, unlike_rows, IsFirst, Found, first_at}
use Rattle.std.specs.Prelude.{Option, Some, None}

-- ---- the test of an index

module _ (w p : ℕ) (l r : List ℕ) (i : ℕ) {factor a b x y : ℕ} (ef : factor ≡ 2 ^ p)
    (ea : a ≡ mod_add (get_or l i 0) (get_or r 0 0) w) (ex : x ≡ mod_mul factor a w)
    (eb : b ≡ mod_add (get_or r i 0) (get_or l 0 0) w) (ey : y ≡ mod_mul factor b w) where
  first_side : x ≡ mod_mul (2 ^ p) (mod_add (get_or l i 0) (get_or r 0 0) w) w
  first_side = ex ∙ ap₂ (λ (f n : ℕ). mod_mul f n w) ef ea

  second_side : y ≡ mod_mul (2 ^ p) (mod_add (get_or r i 0) (get_or l 0 0) w) w
  second_side = ey ∙ ap₂ (λ (f n : ℕ). mod_mul f n w) ef eb

  pub test_unlike : (x ≡ y → ⊥) → unlike_sums w p l r i ≡ true
  unfolding unlike_sums
  test_unlike n = ap not (ne_eqb _ _ (λ e. n (first_side ∙ e ∙ sym second_side)))

  pub test_same : x ≡ y → unlike_sums w p l r i ≡ false
  unfolding unlike_sums
  test_same e = ap not (eq-eqb _ _ (sym first_side ∙ e ∙ second_side))

-- ---- by sums and by rows

scaled : (w p : ℕ) → w ≤ 64 → (a b : ℕ) {x y : ℕ} → x ≡ a % 2 ^ w → y ≡ b % 2 ^ w
    → mod_mul (2 ^ p) (mod_add x y w) w ≡ (a + b) * 2 ^ p % 2 ^ w
scaled w p hw a b {x} {y} ex ey =
    let sum : Eqm (2 ^ w) (mod_add x y w) (a + b) =
    eqm_trans (eqm_of_eq (mod_add_lem x y w hw))
    (eqm_trans (eqm_mod (2 ^ w) (x + y))
    (eqm_trans (eqm_of_eq (ap₂ ◌+◌ ex ey)) (eqm_add (eqm_mod (2 ^ w) a) (eqm_mod (2 ^ w) b)))) in
    mod_mul_lem (2 ^ p) (mod_add x y w) w hw
    ∙ (eqm_mul_l (2 ^ p) sum).eqm
    ∙ ap (λ (n : ℕ). n % 2 ^ w) (mul_comm (2 ^ p) (a + b))

pub sums_rows : (w p : ℕ) → w ≤ 64 → (vs : List ℕ) (f g : List Row) (l r : List ℕ) (n : ℕ) → 0 < n
    → ((i : ℕ) → i < n → get_or l i 0 ≡ place_sum w p vs i f % 2 ^ w)
    → ((i : ℕ) → i < n → get_or r i 0 ≡ place_sum w p vs i g % 2 ^ w)
    → (i : ℕ) → i < n → unlike_sums w p l r i ≡ unlike_rows w vs f g p i
unfolding unlike_sums unlike_rows
sums_rows w p hw vs f g l r n some hl hr i h =
    ap₂ (λ (x y : ℕ). not (eqb x y))
    (scaled w p hw (place_sum w p vs i f) (place_sum w p vs 0 g) (hl i h) (hr 0 some))
    (scaled w p hw (place_sum w p vs i g) (place_sum w p vs 0 f) (hr i h) (hl 0 some))

-- the first by another test that says the same
pub first_moved : (t u : ℕ → Bool) {m n : ℕ} → m ≡ n → first_in t 0 m ≡ first_in u 0 n → (o : Option ℕ) → IsFirst t m o
    → IsFirst u n o
first_moved t u e s None h = sym s ∙ h ∙ e
first_moved t u e s (Some i) h = let less = h.0 in (omega (arith, less, e), h.1 ∙ s)

-- ---- the places in turn

module _ (test : ℕ → ℕ → Bool) (places rows p i : ℕ) (e : i ≡ first_in (test p) 0 rows)
    (passed : (q : ℕ) → q < p → (j : ℕ) → j < rows → test q j ≡ false) where
  -- the index is one of the place
  pub turn_found : {v : Verdict} → v ≡ verdict 0 0 p i → p < places → i < rows → Found test places rows v
  turn_found ev hp hi =
      first_at p i ev hp hi
      (ap (test p) e ∙ first_true (test p) 0 rows (omega (arith, e)))
      passed
      (λ j h. first_before (test p) 0 rows j (omega arith) (omega (arith, e)))

  -- it is not
  pub turn_on : rows ≤ i → (q : ℕ) → q < p + 1 → (j : ℕ) → j < rows → test q j ≡ false
  turn_on h q l j u = go (ℕ_discrete q p)
    where
      go : Dec (q ≡ p) → test q j ≡ false
      go (yes s) = ap (λ (k : ℕ). test k j) s ∙ first_before (test p) 0 rows j (omega arith) (omega (arith, e))
      go (no n) = passed q (omega arith) j u
