-- Laws of specs/Lists.antt: `eq_list` tells equality and goes element by element; what the elements of a list are, and
-- that a list that rises is known by its elements.
use mathlib.Core.Path.{◌≡◌, refl, ap, ap₂, sym, ◌∙◌}
use Prim.Native.Nat.{ℕ, zero, suc, ◌+◌, ◌<◌, ◌≤◌}
use native.Mathlib.Omega.{arith}
use native.Mathlib.Numerals.{add-one}
use native.Mathlib.Decide.{dec_lt, ℕ_discrete}
use mathlib.Core.List.{List, [], ◌∷◌}
use mathlib.Core.Bool.{Bool, true, false, ◌&&◌}
use lib.Dec.{eqb}
use lib.ListN.{length, get_or, drop, drop_of_length-le}
use lib.Pointwise.{pointwise}
use lib.Seq.{drop-cons}
use borrow.Author.Tests.{eqb-true, eq-eqb, ne_eqb}
use Rattle.base.specs.Lists.{eq_list, elem, RisingFrom}
use Rattle.base.proofs.BoolLaws.{false_true, and_true, or_of_r}

pub eq_of_eq_list : (l m : List ℕ) → eq_list l m ≡ true → l ≡ m
unfolding eq_list
eq_of_eq_list [] [] e = refl
eq_of_eq_list [] (y ∷ m) e = false_true e
eq_of_eq_list (x ∷ l) [] e = false_true e
eq_of_eq_list (x ∷ l) (y ∷ m) e =
    let p = and_true (eqb x y) (eq_list l m) e in
    ap₂ ◌∷◌ (eqb-true x y p.0) (eq_of_eq_list l m p.1)

pub eq_list_self : (l : List ℕ) → eq_list l l ≡ true
unfolding eq_list
eq_list_self [] = refl
eq_list_self (x ∷ l) = simp (eq-eqb x x refl, eq_list_self l)

-- `==` of two slices tells the same
pub pointwise_eq_list : (l m : List ℕ) → pointwise eqb l m ≡ eq_list l m
unfolding eq_list
pointwise_eq_list [] [] = refl
pointwise_eq_list [] (y ∷ m) = refl
pointwise_eq_list (x ∷ l) [] = refl
pointwise_eq_list (x ∷ l) (y ∷ m) = ap (λ (b : Bool). eqb x y && b) (pointwise_eq_list l m)

-- past the first i elements: the next ones decide, or the rest does
module _ (l m : List ℕ) (i : ℕ) (hl : i < length l) (hm : i < length m) where
  heads : eq_list (drop i l) (drop i m) ≡ eqb (get_or l i 0) (get_or m i 0) && eq_list (drop (i + 1) l) (drop (i + 1) m)
  unfolding eq_list
  heads = rw (add-one, drop-cons l i 0 hl, drop-cons m i 0 hm)

  pub eq_list_differ : (get_or l i 0 ≡ get_or m i 0 → ⊥) → eq_list (drop i l) (drop i m) ≡ false
  eq_list_differ d = heads ∙ simp (ne_eqb (get_or l i 0) (get_or m i 0) d)

  pub eq_list_next : get_or l i 0 ≡ get_or m i 0
      → eq_list (drop i l) (drop i m) ≡ eq_list (drop (i + 1) l) (drop (i + 1) m)
  eq_list_next e = heads ∙ simp (eq-eqb (get_or l i 0) (get_or m i 0) e)

pub eq_list_end : (l m : List ℕ) (i : ℕ) → length l ≤ i → length m ≤ i → eq_list (drop i l) (drop i m) ≡ true
eq_list_end l m i hl hm = rw (drop_of_length-le l hl, drop_of_length-le m hm) (eq_list_self [])

-- ---- elements

module _ (x : ℕ) (l : List ℕ) where
  pub elem_head : elem x (x ∷ l) ≡ true
  unfolding elem
  elem_head = simp (eq-eqb x x refl)

  pub elem_other : (i : ℕ) → (x ≡ i → ⊥) → elem i (x ∷ l) ≡ elem i l
  unfolding elem
  elem_other i d = simp (ne_eqb x i d)

pub elem_tail : (i x : ℕ) (l : List ℕ) → elem i l ≡ true → elem i (x ∷ l) ≡ true
unfolding elem
elem_tail i x l e = or_of_r (eqb x i) (elem i l) e

pub elem_get_or : (l : List ℕ) (k : ℕ) → k < length l → elem (get_or l k 0) l ≡ true
elem_get_or [] k h = absurd (omega arith)
elem_get_or (x ∷ l) zero h = elem_head x l
elem_get_or (x ∷ l) (suc k) h = elem_tail (get_or l k 0) x l (elem_get_or l k (omega arith))

-- an element has a place
pub place_of_elem : (i : ℕ) (l : List ℕ) → elem i l ≡ true → (k : ℕ) × (k < length l) × (get_or l k 0 ≡ i)
unfolding elem
place_of_elem i [] e = false_true e
place_of_elem i (x ∷ l) e = go (ℕ_discrete x i) (place_of_elem i l)
  where
    go : Dec (x ≡ i) → (elem i l ≡ true → (k : ℕ) × (k < length l) × (get_or l k 0 ≡ i))
        → (k : ℕ) × (k < suc (length l)) × (get_or (x ∷ l) k 0 ≡ i)
    go (yes p) below = (zero, omega arith, p)
    go (no p) below =
        let b = below (sym (elem_other x l i p) ∙ e) in
        (suc b.0, omega (arith, b.1), b.2)

-- ---- lists that rise

pub rising_below : (i from : ℕ) (l : List ℕ) → RisingFrom from l → i < from → elem i l ≡ false
unfolding elem RisingFrom
rising_below i from [] r h = refl
rising_below i from (x ∷ l) r h =
    elem_other x l i (omega (arith, r.0)) ∙ rising_below i (x + 1) l r.1 (omega (arith, r.0))

-- an element of the tail is above the head
rising_above : (i x : ℕ) (l : List ℕ) → RisingFrom (x + 1) l → elem i l ≡ true → x < i
rising_above i x l r e = go (dec_lt i (x + 1))
  where
    go : Dec (i < x + 1) → x < i
    go (yes h) = false_true (sym (rising_below i (x + 1) l r h) ∙ e)
    go (no h) = omega arith

pub rising_get_or : (from : ℕ) (l : List ℕ) → RisingFrom from l → (i j : ℕ) → i < j → j < length l
    → get_or l i 0 < get_or l j 0
unfolding RisingFrom
rising_get_or from [] r i j h k = absurd (omega arith)
rising_get_or from (x ∷ l) r zero zero h k = absurd (omega arith)
rising_get_or from (x ∷ l) r (suc i) zero h k = absurd (omega arith)
rising_get_or from (x ∷ l) r zero (suc j) h k = rising_above (get_or l j 0) x l r.1 (elem_get_or l j (omega arith))
rising_get_or from (x ∷ l) r (suc i) (suc j) h k = rising_get_or (x + 1) l r.1 i j (omega arith) (omega arith)

head_le : (i x : ℕ) (l : List ℕ) → RisingFrom (x + 1) l → elem i (x ∷ l) ≡ true → x ≤ i
head_le i x l r e = go (ℕ_discrete x i)
  where
    go : Dec (x ≡ i) → x ≤ i
    go (yes p) = omega arith
    go (no p) = omega (arith, rising_above i x l r (sym (elem_other x l i p) ∙ e))

-- two that rise are the same if their elements are
pub rising_ext : (f g : ℕ) (l m : List ℕ) → RisingFrom f l → RisingFrom g m
    → ((i : ℕ) → elem i l ≡ elem i m) → l ≡ m
unfolding elem RisingFrom
rising_ext f g [] [] r s e = refl
rising_ext f g [] (y ∷ m) r s e = false_true (e y ∙ elem_head y m)
rising_ext f g (x ∷ l) [] r s e = false_true (sym (e x) ∙ elem_head x l)
rising_ext f g (x ∷ l) (y ∷ m) r s e = ap₂ ◌∷◌ same (rising_ext (x + 1) (y + 1) l m r.1 s.1 tails)
  where
    same : x ≡ y
    same =
        let p = head_le x y m s.1 (sym (e x) ∙ elem_head x l) in
        let q = head_le y x l r.1 (e y ∙ elem_head y m) in
        omega arith

    tails : (i : ℕ) → elem i l ≡ elem i m
    tails i = go (ℕ_discrete x i)
      where
        go : Dec (x ≡ i) → elem i l ≡ elem i m
        go (yes p) =
            rising_below i (x + 1) l r.1 (omega arith)
            ∙ sym (rising_below i (y + 1) m s.1 (omega (arith, same)))
        go (no p) = sym (elem_other x l i p) ∙ e i ∙ elem_other y m i (λ q. p (same ∙ q))
