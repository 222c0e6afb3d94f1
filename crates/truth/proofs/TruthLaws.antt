-- Laws of the truth tables (specs/Truth.antt): a table's bits are those of its rows, and trees with the same table
-- (specs/Key.antt) have the same value under every assignment.
use mathlib.Core.Path.{◌≡◌, refl, ap, sym, ◌∙◌}
use Prim.Native.Nat.{ℕ, zero, suc, ◌+◌, ◌*◌, ◌/◌, ◌^◌, ◌≤◌, ◌<◌}
use native.Mathlib.Omega.{arith}
use native.Mathlib.Nat.{mod-eq_of_lt, zero-add}
use native.Mathlib.Decide.{ℕ_discrete}
use mathlib.Core.List.{List, [], ◌∷◌}
use mathlib.Core.Bool.{Bool, true, false, not, ◌&&◌, ◌||◌}
use lib.ListN.{length, get_or}
use lib.Dec.{eqb, leb}
use borrow.Author.Tests.{eqb-true, leb-true, not-true}
use Rattle.arith.specs.Bit.{bit_at}
use Rattle.arith.proofs.BitLaws.{bit_lt, bit_zero, bit_suc, bit_under, bit_top, bits_below_lem}
use Rattle.base.specs.Choice.{when}
use Rattle.base.specs.Lists.{elem, eq_list}
use Rattle.record.specs.Tree.{Tree}
use Rattle.record.specs.Tree.Tree.{Constant, Variable, Unary, Binary}
use Rattle.base.proofs.BoolLaws.{false_true, and_true, or_false}
use Rattle.base.proofs.ListsLaws.{eq_of_eq_list}
use Rattle.expr_refusal.specs.Refusal.{is_expr}
use Rattle.expr_utils.specs.Utils.{has_kind, has_literal, has_shr, has_arith}
use Rattle.expr.specs.Value.{value}
use Rattle.expr.specs.Vars.{occurs, support, same_vars}
use Rattle.expr.proofs.ValueLaws.{value_lt}
use Rattle.expr.proofs.IsExprLaws.{occurs_lt}
use Rattle.expr.proofs.SupportLaws.{support_occurs}
use Rattle.truth.specs.Truth.{has_shift, bit_of, row_bits, row_number, table_f, table}
use Rattle.truth.specs.Key.{shared_vars, is_pure, same_table}
use Rattle.truth.proofs.BitwiseLaws.{Bitwise, bitwise_of_no_shift}
use Rattle.truth.proofs.BitOfLaws.{bit_value, bit_of_agree, bit_of_place, bit_of_lt}

-- ---- tables

pub row_bits_lt : (place : ℕ) (vs : List ℕ) (i v : ℕ) → row_bits place vs i v < 2
unfolding row_bits
row_bits_lt place [] i v = omega arith
row_bits_lt place (x ∷ l) i v = go (eqb x v) (row_bits_lt (place + 1) l i v)
  where
    go : (b : Bool) → row_bits (place + 1) l i v < 2 → when b (λ _. bit_at i place) (λ _. row_bits (place + 1) l i v) < 2
    go true h = bit_lt i place
    go false h = h

module _ (w p : ℕ) (vs : List ℕ) (t : Tree) where
  row_lt : (i : ℕ) → bit_of w p (row_bits 0 vs i) t < 2
  row_lt i = bit_of_lt w p (row_bits 0 vs i) t (row_bits_lt 0 vs i)

  pub table_f_lt : (m : ℕ) → table_f m w p vs t < 2 ^ m
  unfolding table_f
  table_f_lt zero = omega arith
  table_f_lt (suc m) = go (bit_of w p (row_bits 0 vs m) t) (row_lt m) (table_f_lt m)
    where
      go : (b : ℕ) → b < 2 → table_f m w p vs t < 2 ^ m → table_f m w p vs t + 2 ^ m * b < 2 ^ suc m
      go zero h l = omega arith
      go (suc zero) h l = omega arith
      go (suc (suc b)) h l = absurd (omega arith)

  pub table_f_bit : (m i : ℕ) → i < m → bit_at (table_f m w p vs t) i ≡ bit_of w p (row_bits 0 vs i) t
  unfolding table_f
  table_f_bit zero i h = absurd (omega arith)
  table_f_bit (suc m) i h = ap (λ (x : ℕ). bit_at x i) reordered ∙ go (ℕ_discrete i m) (table_f_bit m i)
    where
      b : ℕ
      b = bit_of w p (row_bits 0 vs m) t

      reordered : table_f m w p vs t + 2 ^ m * b ≡ b * 2 ^ m + table_f m w p vs t
      reordered = omega arith

      go : Dec (i ≡ m) → (i < m → bit_at (table_f m w p vs t) i ≡ bit_of w p (row_bits 0 vs i) t)
          → bit_at (b * 2 ^ m + table_f m w p vs t) i ≡ bit_of w p (row_bits 0 vs i) t
      go (yes e) below = rw e (bit_top b m (table_f m w p vs t) (table_f_lt m) ∙ mod-eq_of_lt (row_lt m))
      go (no n) below = bit_under b m (table_f m w p vs t) i (table_f_lt m) (omega arith) ∙ below (omega arith)

  -- a table of n variables has 2 ^ n bits, each the tree's bit under the assignment of its number
  pub table_lt : (n : ℕ) → table w p vs n t < 2 ^ (2 ^ n)
  unfolding table
  table_lt n = table_f_lt (2 ^ n)

  pub table_bit : (n i : ℕ) → i < 2 ^ n → bit_at (table w p vs n t) i ≡ bit_of w p (row_bits 0 vs i) t
  unfolding table
  table_bit n i h = table_f_bit (2 ^ n) i h

-- ---- the row of an assignment

module _ (b : ℕ → ℕ) (hb : (v : ℕ) → b v < 2) where
  pub row_of_lt : (vs : List ℕ) → row_number b vs < 2 ^ length vs
  unfolding row_number
  row_of_lt [] = omega arith
  row_of_lt (x ∷ l) = go (length l) (row_of_lt l)
    where
      go : (n : ℕ) → row_number b l < 2 ^ n → b x + 2 * row_number b l < 2 ^ suc n
      go n h = omega (arith, hb x)

  pub row_of_bit : (vs : List ℕ) (j : ℕ) → j < length vs → bit_at (row_number b vs) j ≡ b (get_or vs j 0)
  unfolding row_number
  row_of_bit [] j h = absurd (omega arith)
  row_of_bit (x ∷ l) zero h = bit_zero (b x + 2 * row_number b l) ∙ omega (arith, hb x)
  row_of_bit (x ∷ l) (suc j) h =
      bit_suc (b x + 2 * row_number b l) j ∙ ap (λ (y : ℕ). bit_at y j) halved ∙ row_of_bit l j (omega arith)
    where
      halved : (b x + 2 * row_number b l) / 2 ≡ row_number b l
      halved = omega (arith, hb x)

-- an assignment whose bits are b gives each variable of the list its bit
row_bits_from : (place i : ℕ) (vs : List ℕ) (b : ℕ → ℕ)
    → ((j : ℕ) → j < length vs → bit_at i (place + j) ≡ b (get_or vs j 0))
    → (v : ℕ) → elem v vs ≡ true → row_bits place vs i v ≡ b v
unfolding row_bits elem
row_bits_from place i [] b h v e = false_true e
row_bits_from place i (x ∷ l) b h v e =
    go (eqb x v) refl (row_bits_from (place + 1) i l b (λ j k. ap (bit_at i) (omega arith) ∙ h (suc j) (omega arith)) v)
  where
    go : (t : Bool) → eqb x v ≡ t → (elem v l ≡ true → row_bits (place + 1) l i v ≡ b v)
        → when t (λ _. bit_at i place) (λ _. row_bits (place + 1) l i v) ≡ b v
    go true f below = ap (bit_at i) (omega arith) ∙ h 0 (omega arith) ∙ ap b (eqb-true x v f)
    go false f below = below (simp f at e)

pub row_bits_lem : (i : ℕ) (vs : List ℕ) (b : ℕ → ℕ) → ((j : ℕ) → j < length vs → bit_at i j ≡ b (get_or vs j 0))
    → (v : ℕ) → elem v vs ≡ true → row_bits 0 vs i v ≡ b v
row_bits_lem i vs b h v e = row_bits_from 0 i vs b (λ j k. ap (bit_at i) (zero-add j) ∙ h j k) v e

-- the variables of an expression are those of its list
pub occurs_support : (t : Tree) → is_expr t ≡ true → (v : ℕ) → occurs v t ≡ true → elem v (support t) ≡ true
occurs_support t e v o = support_occurs v t (omega (arith, occurs_lt v t e o)) ∙ o

-- the bit of a table at the row of the bits b is the tree's bit under b
pub table_row : (w p : ℕ) (vs : List ℕ) (n : ℕ) (t : Tree) (b : ℕ → ℕ) (i : ℕ) → i < 2 ^ n
    → ((j : ℕ) → j < length vs → bit_at i j ≡ b (get_or vs j 0))
    → ((v : ℕ) → occurs v t ≡ true → elem v vs ≡ true) → bit_at (table w p vs n t) i ≡ bit_of w p b t
table_row w p vs n t b i hi h there =
    table_bit w p vs t n i hi
    ∙ bit_of_agree w p (row_bits 0 vs i) b t (λ v o. row_bits_lem i vs b h v (there v o))

-- without literals a table is the same at every width and place
pub table_place : (w v p q : ℕ) → p < w → q < v → (vs : List ℕ) (n : ℕ) (t : Tree) → Bitwise t → has_literal t ≡ false
    → table w p vs n t ≡ table v q vs n t
table_place w v p q hp hq vs n t b e =
    bits_below_lem (2 ^ n) (table w p vs n t) (table v q vs n t) (table_lt w p vs t n) (table_lt v q vs t n)
    (λ i h.
    table_bit w p vs t n i h
    ∙ bit_of_place w v p q hp hq (row_bits 0 vs i) t b e
    ∙ sym (table_bit v q vs t n i h))

-- ---- trees with the same table

pub no_shift : (t : Tree) → has_shr t ≡ false → has_shift t ≡ false
unfolding has_kind has_shift
no_shift (Constant v) e = refl
no_shift (Variable i) e = refl
no_shift (Unary k a t) e =
    let p = or_false (eqb k 9) (has_shr t) e in
    simp (p.0, no_shift t p.1)
no_shift (Binary k l r) e =
    let p = or_false (has_shr l) (has_shr r) (or_false (eqb k 9) (has_shr l || has_shr r) e).1 in
    simp (no_shift l p.0, no_shift r p.1)

-- a tree that may be shared: no literal, no Shr
pub record Pure (t : Tree) : Type 0 where
  pub no_literal : has_literal t ≡ false
  pub no_shr : has_shr t ≡ false
  pub few : length (support t) ≤ shared_vars

pub pure_parts : (t : Tree) → is_pure t ≡ true → Pure t
unfolding is_pure
pure_parts t e =
    let p = and_true (not (has_literal t)) (not (has_shr t) && leb (length (support t)) shared_vars) e in
    let q = and_true (not (has_shr t)) (leb (length (support t)) shared_vars) p.1 in
    record { no_literal = not-true _ p.0; no_shr = not-true _ q.0; few = leb-true _ _ q.1 }

pub pure_bitwise : (t : Tree) → Pure t → is_expr t ≡ true → has_arith t ≡ false → Bitwise t
pure_bitwise t p e n = bitwise_of_no_shift t e n (no_shift t p.no_shr)

-- the same function of the same variables
pub record SameTable (t u : Tree) : Type 0 where
  pub pure_l : Pure t
  pub pure_r : Pure u
  pub vars : support t ≡ support u
  pub tables : table 1 0 (support t) (length (support t)) t ≡ table 1 0 (support t) (length (support t)) u

pub same_table_parts : (t u : Tree) → same_table t u ≡ true → SameTable t u
unfolding same_table same_vars
same_table_parts t u e =
    let vs : List ℕ = support t in
    let n : ℕ = length vs in
    let tables : Bool = eqb (table 1 0 vs n t) (table 1 0 vs n u) in
    let p = and_true (is_pure t) (is_pure u && (eq_list vs (support u) && tables)) e in
    let q = and_true (is_pure u) (eq_list vs (support u) && tables) p.1 in
    let r = and_true (eq_list vs (support u)) tables q.1 in
    record {
      pure_l = pure_parts t p.0;
      pure_r = pure_parts u q.0;
      vars = eq_of_eq_list vs (support u) r.0;
      tables = eqb-true _ _ r.1;
    }

module _ (t u : Tree) (parts : SameTable t u) (expr_l : is_expr t ≡ true) (expr_r : is_expr u ≡ true) where
  same_bit : (b : ℕ → ℕ) → ((v : ℕ) → b v < 2) → bit_of 1 0 b t ≡ bit_of 1 0 b u
  same_bit b hb =
      let vs : List ℕ = support t in
      let i : ℕ = row_number b vs in
      sym (table_row 1 0 vs (length vs) t b i (row_of_lt b hb vs) (row_of_bit b hb vs) (occurs_support t expr_l))
      ∙ ap (λ (x : ℕ). bit_at x i) parts.tables
      ∙ table_row 1 0 vs (length vs) u b i (row_of_lt b hb vs) (row_of_bit b hb vs)
      (λ v o. ap (elem v) parts.vars ∙ occurs_support u expr_r v o)

  pub same_value : has_arith t ≡ false → has_arith u ≡ false → (w : ℕ) (vars : List ℕ) → value w vars t ≡ value w vars u
  same_value arith-l arith-r w vars =
      bits_below_lem w (value w vars t) (value w vars u) (value_lt w vars t) (value_lt w vars u) at_place
    where
      at_place : (p : ℕ) → p < w → bit_at (value w vars t) p ≡ bit_at (value w vars u) p
      at_place p hp =
          let b : ℕ → ℕ = λ i. bit_at (get_or vars i 0) p in
          let bits_l : Bitwise t = pure_bitwise t parts.pure_l expr_l arith-l in
          let bits_r : Bitwise u = pure_bitwise u parts.pure_r expr_r arith-r in
          bit_value w p hp vars t bits_l
          ∙ bit_of_place w 1 p 0 hp (omega arith) b t bits_l parts.pure_l.no_literal
          ∙ same_bit b (λ i. bit_lt (get_or vars i 0) p)
          ∙ bit_of_place 1 w 0 p (omega arith) hp b u bits_r parts.pure_r.no_literal
          ∙ sym (bit_value w p hp vars u bits_r)

-- trees with the same table have the same value under every assignment
pub table_value : (t u : Tree) → same_table t u ≡ true → is_expr t ≡ true → is_expr u ≡ true
    → has_arith t ≡ false → has_arith u ≡ false → (w : ℕ) (vars : List ℕ) → value w vars t ≡ value w vars u
table_value t u e expr_l expr_r = same_value t u (same_table_parts t u e) expr_l expr_r
