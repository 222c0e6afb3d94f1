-- The words of the first variables of a tree (`first_vars`) beside the list of all (`support`): how many there are,
-- which, and that the low rows of a table over the words are the table over the variables.
use mathlib.Core.Path.{◌≡◌, refl, ap, sym, ◌∙◌}
use Prim.Native.Nat.{ℕ, zero, suc, ◌+◌, ◌%◌, ◌^◌, ◌≤◌, ◌<◌, min}
use native.Mathlib.Omega.{arith}
use native.Mathlib.Decide.{dec_lt}
use native.Mathlib.Nat.{zero-add}
use mathlib.Core.List.{List, [], ◌∷◌, ◌++◌}
use mathlib.Core.Bool.{false}
use lib.ListN.{length, take, replicate}
use lib.Dec.{eqb}
use borrow.Author.Tests.{eq-eqb, ne_eqb}
use Rattle.arith.specs.Bit.{bit_at}
use Rattle.base.specs.Choice.{when}
use Rattle.record.specs.Tree.{Tree}
use Rattle.expr.specs.Vars.{no_var, next_var, first_vars, support}
use Rattle.expr.proofs.VarsLaws.{next_var_le, support_from, support_from_zero, support_from_next, support_from_end}
use Rattle.expr.proofs.VarsLaws.{first_vars_support}
use Rattle.truth.specs.Truth.{place_of, row_bits, table_f, table}
use Rattle.truth.proofs.RowsLaws.{row_bits_past, rows_low, rows_agree}

none_of_length : (l : List ℕ) → length l ≤ 0 → l ≡ []
none_of_length [] h = refl
none_of_length (x ∷ l) h = absurd (omega arith)

module _ (t : Tree) where
  module _ (from : ℕ) where
    -- no variable is left
    past : (next_var from t < no_var → ⊥) → next_var from t ≡ no_var
    past p = omega (arith, next_var_le from t)

    -- one is, and the others after it
    length_next : next_var from t < no_var
        → length (support_from from t) ≡ suc (length (support_from (next_var from t + 1) t))
    length_next p = ap length (support_from_next from t p)

    length_past : (next_var from t < no_var → ⊥) → length (support_from from t) ≡ 0
    length_past p = ap length (support_from_end from t (past p))

    next_there : next_var from t < no_var → eqb (next_var from t) no_var ≡ false
    next_there p = ne_eqb (next_var from t) no_var (λ e. omega arith)

  place_first_from : (n from : ℕ) → place_of no_var (first_vars n from t) ≡ min n (length (support_from from t))
  unfolding first_vars place_of
  place_first_from zero from = omega arith
  place_first_from (suc n) from = go (dec_lt (next_var from t) no_var) (place_first_from n (next_var from t + 1))
    where
      k : ℕ
      k = place_of no_var (first_vars n (next_var from t + 1) t)

      go : Dec (next_var from t < no_var) → k ≡ min n (length (support_from (next_var from t + 1) t))
          → when (eqb (next_var from t) no_var) (λ _. 0) (λ _. k + 1) ≡ min (suc n) (length (support_from from t))
      go (yes p) below = simp (next_there from p) (omega (arith, length_next from p))
      go (no p) below = simp (eq-eqb (next_var from t) no_var (past from p)) (omega (arith, length_past from p))

  vars_first_from : (n from : ℕ) → length (support_from from t) ≤ n
      → take (place_of no_var (first_vars n from t)) (first_vars n from t) ≡ support_from from t
  unfolding first_vars place_of
  vars_first_from zero from h = sym (none_of_length (support_from from t) h)
  vars_first_from (suc n) from h = go (dec_lt (next_var from t) no_var) (vars_first_from n (next_var from t + 1))
    where
      x : ℕ
      x = next_var from t

      l : List ℕ
      l = first_vars n (next_var from t + 1) t

      go : Dec (next_var from t < no_var)
          → (length (support_from (next_var from t + 1) t) ≤ n
          → take (place_of no_var l) l ≡ support_from (next_var from t + 1) t)
          → take (when (eqb x no_var) (λ _. 0) (λ _. place_of no_var l + 1)) (x ∷ l) ≡ support_from from t
      go (yes p) below =
          let e : place_of no_var l + 1 ≡ suc (place_of no_var l) = omega arith in
          rw (support_from_next from t p)
          (simp (next_there from p)
          (ap (λ (k : ℕ). take k (x ∷ l)) e
          ∙ ap (λ (m : List ℕ). x ∷ m) (below (omega (arith, length_next from p)))))
      go (no p) below = rw (support_from_end from t (past from p)) (simp (eq-eqb x no_var (past from p)))

  row_bits_first_from : (n from place i v : ℕ) → length (support_from from t) ≤ n
      → i < 2 ^ (place + length (support_from from t))
      → row_bits place (first_vars n from t) i v ≡ row_bits place (support_from from t) i v
  unfolding first_vars row_bits
  row_bits_first_from zero from place i v h l =
      ap (λ (m : List ℕ). row_bits place m i v) (sym (none_of_length (support_from from t) h))
  row_bits_first_from (suc n) from place i v h l =
      go (dec_lt (next_var from t) no_var) (row_bits_first_from n (next_var from t + 1) (place + 1) i v)
    where
      x : ℕ
      x = next_var from t

      rest : List ℕ
      rest = support_from (next_var from t + 1) t

      go : Dec (next_var from t < no_var)
          → (length rest ≤ n → i < 2 ^ (place + 1 + length rest)
          → row_bits (place + 1) (first_vars n (next_var from t + 1) t) i v ≡ row_bits (place + 1) rest i v)
          → row_bits place (x ∷ first_vars n (next_var from t + 1) t) i v ≡ row_bits place (support_from from t) i v
      go (yes p) below =
          let e : place + length (support_from from t) ≡ place + 1 + length rest = omega (arith, length_next from p) in
          rw (support_from_next from t p)
          (ap (λ (y : ℕ). when (eqb x v) (λ _. bit_at i place) (λ _. y))
          (below (omega (arith, length_next from p)) (omega (arith, ap (λ (k : ℕ). 2 ^ k) e))))
      go (no p) below =
          let e : place + length (support_from from t) ≡ place = omega (arith, length_past from p) in
          rw (support_from_end from t (past from p))
          (row_bits_past place i v (x ∷ first_vars n (next_var from t + 1) t) (omega (arith, ap (λ (k : ℕ). 2 ^ k) e)))

  -- the place of the first word that is no variable tells how many there are
  pub place_first : (n : ℕ) → place_of no_var (first_vars n 0 t) ≡ min n (length (support t))
  place_first n = place_first_from n 0 ∙ ap (λ (l : List ℕ). min n (length l)) (sym (support_from_zero t))

  -- the words before it are the variables
  vars_first : (n : ℕ) → length (support t) ≤ n
      → take (place_of no_var (first_vars n 0 t)) (first_vars n 0 t) ≡ support t
  vars_first n h = vars_first_from n 0 (rw (support_from_zero t) at h) ∙ sym (support_from_zero t)

  -- and the low rows over all the words are those over the variables
  row_bits_first : (n i v : ℕ) → length (support t) ≤ n → i < 2 ^ length (support t)
      → row_bits 0 (first_vars n 0 t) i v ≡ row_bits 0 (support t) i v
  row_bits_first n i v = rw (support_from_zero t) (λ h l. row_bits_first_from n 0 0 i v h (rw zero-add l))

  pub table_first : (m n w p : ℕ) → length (support t) ≤ n → 2 ^ length (support t) ≤ m
      → table_f m w p (first_vars n 0 t) t % 2 ^ (2 ^ length (support t)) ≡ table w p (support t) (length (support t)) t
  unfolding table
  table_first m n w p h l =
      let k : ℕ = 2 ^ length (support t) in
      rows_low k m w p (first_vars n 0 t) t l
      ∙ rows_agree k w p (first_vars n 0 t) (support t) t (λ i v b. row_bits_first n i v h b)

-- the same words are the same variables
pub same_of_first : (n : ℕ) (t u : Tree) → length (support t) ≤ n → length (support u) ≤ n
    → first_vars n 0 t ≡ first_vars n 0 u → support t ≡ support u
same_of_first n t u ht hu e =
    sym (vars_first t n ht) ∙ ap (λ (l : List ℕ). take (place_of no_var l) l) e ∙ vars_first u n hu

pub first_of_same : (n : ℕ) (t u : Tree) → support t ≡ support u → first_vars n 0 t ≡ first_vars n 0 u
first_of_same n t u e =
    first_vars_support n t
    ∙ ap (λ (l : List ℕ). take n (l ++ replicate n no_var)) e
    ∙ sym (first_vars_support n u)
