-- Laws of a table as a word (specs/Truth.antt): a word is a tree's table where its bits are the tree's, at each root; a
-- variable's rows are those of its place in the list; the low rows of a table, and tables over two lists.
use mathlib.Core.Path.{◌≡◌, refl, ap, ap₂, sym, ◌∙◌}
use Prim.Native.Nat.{ℕ, zero, suc, ◌+◌, ◌-◌, ◌/◌, ◌%◌, ◌^◌, ◌≤◌, ◌<◌}
use native.Mathlib.Omega.{arith}
use native.Mathlib.Nat.{mod-lt, zero-add}
use native.Mathlib.Decide.{ℕ_discrete}
use mathlib.Core.List.{List, [], ◌∷◌}
use mathlib.Core.Bool.{Bool, true, false, ◌&&◌}
use lib.ListN.{length}
use lib.Dec.{eqb}
use lib.Bits.{bit_and, bit_or, bit_xor}
use lib.Pow.{pow_pos, ones_lt}
use borrow.Author.Tests.{eqb-true, eq-eqb, ne_eqb}
use Rattle.arith.specs.Bit.{bit_at}
use Rattle.arith.proofs.BitLaws.{bits_below_lem, bit_lt, bit_past, bit_of_zero, bit_and_lem, bit_or_lem, bit_xor_lem, bit_not, bit_ones}
use Rattle.arith.proofs.BitLaws.{bit_mod}
use Rattle.base.specs.Choice.{when}
use Rattle.record.specs.Tree.{Tree}
use Rattle.record.specs.Tree.Tree.{Constant, Variable, Unary, Binary}
use Rattle.base.proofs.BoolLaws.{and_true}
use Rattle.truth.specs.Truth.{bit_binary, bit_of, place_of, row_bits, table_f}
use Rattle.truth.proofs.BitOfLaws.{bit_of_not, bit_of_shift, bit_of_past, bit_of_agree}
use Rattle.truth.proofs.TruthLaws.{table_f_lt, table_f_bit}

-- ---- words of n rows at place p of w, over the variables vs

module _ (n w p : ℕ) (vs : List ℕ) where
  -- a word whose bit i is the tree's under assignment i is the tree's table
  pub rows_of_bits : (t : Tree) (x : ℕ) → x < 2 ^ n → ((i : ℕ) → i < n → bit_at x i ≡ bit_of w p (row_bits 0 vs i) t)
      → x ≡ table_f n w p vs t
  rows_of_bits t x hx e =
      bits_below_lem n x (table_f n w p vs t) hx (table_f_lt w p vs t n) (λ i h. e i h ∙ sym (table_f_bit w p vs t n i h))

  -- a literal: its bit at the place in every row
  pub rows_clear : (v : ℕ) → bit_at v p ≡ 0 → 0 ≡ table_f n w p vs (Constant v)
  unfolding bit_of
  rows_clear v e = rows_of_bits (Constant v) 0 (pow_pos n) (λ i h. bit_of_zero i ∙ sym e)

  pub rows_set : (v : ℕ) → (bit_at v p ≡ 0 → ⊥) → 2 ^ n - 1 ≡ table_f n w p vs (Constant v)
  unfolding bit_of
  rows_set v d =
      rows_of_bits (Constant v) (2 ^ n - 1) (ones_lt n) (λ i h. bit_ones n i h ∙ omega (arith, bit_lt v p))

  -- a root with one child: a Not, or a shift, with its child's rows at a higher place or none
  pub rows_not : (k a : ℕ) (t : Tree) → k ≡ 7 → {x : ℕ} → x ≡ table_f n w p vs t
      → 2 ^ n - 1 - x ≡ table_f n w p vs (Unary k a t)
  rows_not k a t hk {x} e =
      rows_of_bits (Unary k a t) (2 ^ n - 1 - x) (omega (arith, pow_pos n))
      (λ i h.
      ap (λ (y : ℕ). bit_at (2 ^ n - 1 - y) i) e
      ∙ bit_not n (table_f n w p vs t) i (table_f_lt w p vs t n) h
      ∙ ap (λ (y : ℕ). 1 - y) (table_f_bit w p vs t n i h)
      ∙ sym (bit_of_not w p (row_bits 0 vs i) k a t hk))

  pub rows_shift : (k a : ℕ) (t : Tree) → (k ≡ 7 → ⊥) → {q : ℕ} → q ≡ p + a → q < w → {x : ℕ} → x ≡ table_f n w q vs t
      → x ≡ table_f n w p vs (Unary k a t)
  rows_shift k a t hk {q} hq l e =
      e
      ∙ rows_of_bits (Unary k a t) (table_f n w q vs t) (table_f_lt w q vs t n)
      (λ i h.
      table_f_bit w q vs t n i h
      ∙ ap (λ (r : ℕ). bit_of w r (row_bits 0 vs i) t) hq
      ∙ sym (bit_of_shift w p (row_bits 0 vs i) k a t hk (omega arith)))

  pub rows_past : (k a : ℕ) (t : Tree) → (k ≡ 7 → ⊥) → w ≤ p + a → 0 ≡ table_f n w p vs (Unary k a t)
  rows_past k a t hk l =
      rows_of_bits (Unary k a t) 0 (pow_pos n)
      (λ i h. bit_of_zero i ∙ sym (bit_of_past w p (row_bits 0 vs i) k a t hk l))

  -- a root with two children
  pub rows_join : (k : ℕ) (l r : Tree) {x y : ℕ} → x ≡ table_f n w p vs l → y ≡ table_f n w p vs r
      → (z : ℕ) → z < 2 ^ n → ((i : ℕ) → bit_at z i ≡ bit_binary k (bit_at x i) (bit_at y i))
      → z ≡ table_f n w p vs (Binary k l r)
  unfolding bit_of
  rows_join k l r hx hy z hz e =
      rows_of_bits (Binary k l r) z hz
      (λ i h.
      e i
      ∙ ap₂ (λ (a b : ℕ). bit_binary k (bit_at a i) (bit_at b i)) hx hy
      ∙ ap₂ (bit_binary k) (table_f_bit w p vs l n i h) (table_f_bit w p vs r n i h))

-- ---- the low rows, and the same rows

pub rows_low : (m n w p : ℕ) (vs : List ℕ) (t : Tree) → m ≤ n → table_f n w p vs t % 2 ^ m ≡ table_f m w p vs t
rows_low m n w p vs t l =
    rows_of_bits m w p vs t (table_f n w p vs t % 2 ^ m) (mod-lt (table_f n w p vs t) (pow_pos m))
    (λ i h. bit_mod (table_f n w p vs t) m i h ∙ table_f_bit w p vs t n i (omega arith))

pub rows_agree : (n w p : ℕ) (vs ws : List ℕ) (t : Tree)
    → ((i v : ℕ) → i < n → row_bits 0 vs i v ≡ row_bits 0 ws i v) → table_f n w p vs t ≡ table_f n w p ws t
rows_agree n w p vs ws t e =
    rows_of_bits n w p ws t (table_f n w p vs t) (table_f_lt w p vs t n)
    (λ i h. table_f_bit w p vs t n i h ∙ bit_of_agree w p (row_bits 0 vs i) (row_bits 0 ws i) t (λ v o. e i v h))

-- ---- And, Or and Xor of words, bit by bit

module _ (k x y i : ℕ) where
  pub join_and : k ≡ 4 → bit_at (bit_and x y) i ≡ bit_binary k (bit_at x i) (bit_at y i)
  unfolding bit_binary
  join_and e = bit_and_lem x y i ∙ simp (eq-eqb k 4 e)

  pub join_or : k ≡ 5 → bit_at (bit_or x y) i ≡ bit_binary k (bit_at x i) (bit_at y i)
  unfolding bit_binary
  join_or e = bit_or_lem x y i ∙ simp (ne_eqb k 4 (λ f. omega arith), eq-eqb k 5 e)

  pub join_xor : (k ≡ 4 → ⊥) → (k ≡ 5 → ⊥) → bit_at (bit_xor x y) i ≡ bit_binary k (bit_at x i) (bit_at y i)
  unfolding bit_binary
  join_xor d e = bit_xor_lem x y i ∙ simp (ne_eqb k 4 d, ne_eqb k 5 e)

-- ---- the place of a variable in the list

pub place_le : (v : ℕ) (l : List ℕ) → place_of v l ≤ length l
unfolding place_of
place_le v [] = omega arith
place_le v (x ∷ l) = go (eqb x v) (place_le v l)
  where
    go : (b : Bool) → place_of v l ≤ length l → when b (λ _. 0) (λ _. place_of v l + 1) ≤ suc (length l)
    go true h = omega arith
    go false h = omega arith

-- in row i a variable of the list has the bit of i at its place, and another one has 0
pub row_bits_place : (place i v : ℕ) (vs : List ℕ) → place_of v vs < length vs
    → row_bits place vs i v ≡ bit_at i (place + place_of v vs)
unfolding row_bits place_of
row_bits_place place i v [] h = absurd (omega arith)
row_bits_place place i v (x ∷ l) h = go (eqb x v) (row_bits_place (place + 1) i v l) h
  where
    go : (b : Bool) → (place_of v l < length l → row_bits (place + 1) l i v ≡ bit_at i (place + 1 + place_of v l))
        → when b (λ _. 0) (λ _. place_of v l + 1) < suc (length l)
        → when b (λ _. bit_at i place) (λ _. row_bits (place + 1) l i v)
        ≡ bit_at i (place + when b (λ _. 0) (λ _. place_of v l + 1))
    go true below h = ap (bit_at i) (omega arith)
    go false below h = below (omega arith) ∙ ap (bit_at i) (omega arith)

pub row_bits_none : (place i v : ℕ) (vs : List ℕ) → place_of v vs ≡ length vs → row_bits place vs i v ≡ 0
unfolding row_bits place_of
row_bits_none place i v [] h = refl
row_bits_none place i v (x ∷ l) h = go (eqb x v) (row_bits_none (place + 1) i v l) h
  where
    go : (b : Bool) → (place_of v l ≡ length l → row_bits (place + 1) l i v ≡ 0)
        → when b (λ _. 0) (λ _. place_of v l + 1) ≡ suc (length l)
        → when b (λ _. bit_at i place) (λ _. row_bits (place + 1) l i v) ≡ 0
    go true below h = absurd (omega arith)
    go false below h = below (omega arith)

-- an assignment's number below 2 ^ place has no bit from there on
pub row_bits_past : (place i v : ℕ) (vs : List ℕ) → i < 2 ^ place → row_bits place vs i v ≡ 0
unfolding row_bits
row_bits_past place i v [] h = refl
row_bits_past place i v (x ∷ l) h =
    let e : 2 ^ (place + 1) ≡ 2 ^ suc place = ap (λ (k : ℕ). 2 ^ k) (omega arith) in
    go (eqb x v) (row_bits_past (place + 1) i v l (omega arith))
  where
    go : (b : Bool) → row_bits (place + 1) l i v ≡ 0 → when b (λ _. bit_at i place) (λ _. row_bits (place + 1) l i v) ≡ 0
    go true below = bit_past i place place h (omega arith)
    go false below = below

-- the rows of a variable, where j is its place: those of the place, or none
module _ (n v : ℕ) (vs : List ℕ) {j : ℕ} (hj : j ≡ place_of v vs) where
  pub rows_none : j ≡ length vs → (w p : ℕ) → 0 ≡ table_f n w p vs (Variable v)
  unfolding bit_of
  rows_none e w p =
      rows_of_bits n w p vs (Variable v) 0 (pow_pos n)
      (λ i h. bit_of_zero i ∙ sym (row_bits_none 0 i v vs (sym hj ∙ e)))

  pub rows_place : (j ≡ length vs → ⊥) → (x : ℕ) → x < 2 ^ n → ((i : ℕ) → i < n → bit_at x i ≡ bit_at i j)
      → (w p : ℕ) → x ≡ table_f n w p vs (Variable v)
  unfolding bit_of
  rows_place d x hx e w p =
      rows_of_bits n w p vs (Variable v) x hx
      (λ i h.
      e i h
      ∙ ap (bit_at i) (hj ∙ sym (zero-add (place_of v vs)))
      ∙ sym (row_bits_place 0 i v vs (omega (arith, place_le v vs))))

-- ---- the words of the places below 6: a closed test for all rows of one place

abbrev pub all_below : ℕ → (ℕ → Bool) → Bool
all_below zero f = true
all_below (suc n) f = f n && all_below n f

all_below_lem : (n : ℕ) (f : ℕ → Bool) → all_below n f ≡ true → (i : ℕ) → i < n → f i ≡ true
all_below_lem zero f e i h = absurd (omega arith)
all_below_lem (suc n) f e i h =
    let p = and_true (f n) (all_below n f) e in
    go p.0 (all_below_lem n f p.1 i) (ℕ_discrete i n)
  where
    go : f n ≡ true → (i < n → f i ≡ true) → Dec (i ≡ n) → f i ≡ true
    go last below (yes q) = ap f q ∙ last
    go last below (no q) = below (omega arith)

-- bit i of x is bit j of i, in n rows
abbrev pub is_column : ℕ → ℕ → ℕ → Bool
is_column n x j = all_below n (λ i. eqb (x / 2 ^ i % 2) (i / 2 ^ j % 2))

pub column_bits : (n x j : ℕ) → is_column n x j ≡ true → {k : ℕ} → k ≡ j → (i : ℕ) → i < n → bit_at x i ≡ bit_at i k
unfolding bit_at
column_bits n x j e hk i h =
    eqb-true (bit_at x i) (bit_at i j) (all_below_lem n (λ i. eqb (x / 2 ^ i % 2) (i / 2 ^ j % 2)) e i h)
    ∙ ap (bit_at i) (sym hk)

pub column_past : (n j : ℕ) → n ≤ j → (i : ℕ) → i < 2 ^ n → bit_at 0 i ≡ bit_at i j
column_past n j l i h = bit_of_zero i ∙ sym (bit_past i n j h l)
