-- Laws of the words of classes and of the number of a class (partition_laws/specs/Classes.antt): where a class's words
-- stand, that a search finds the first class with a profile, and what `join_class` does to classes and their words.
use mathlib.Core.Path.{◌≡◌, refl, ap, sym, ◌∙◌}
use Prim.Native.Nat.{ℕ, suc, ◌+◌, ◌-◌, ◌*◌, ◌%◌, ◌^◌, ◌≤◌, ◌<◌}
use native.Mathlib.Omega.{arith}
use native.Mathlib.Decide.{dec_lt}
use native.Mathlib.Nat.{mul-le-mul_right, zero-add, suc-add}
use mathlib.Core.List.{List, [], ◌∷◌, ◌++◌, append_assoc, append-nil}
use mathlib.Core.Bool.{Bool, true, false, ◌&&◌}
use lib.ListN.{length, get_or, take, drop, set, replicate, length-append, length-set, get_or-append}
use lib.Seq.{get_or-append-add, set-append_left}
use lib.Bits.{bit_or}
use lib.Pow.{shl_exact}
use lib.Dec.{eqb}
use lib.Pointwise.{pointwise}
use Rattle.base.specs.Choice.{when}
use Rattle.base.specs.Lists.{eq_list}
use Rattle.base.specs.Put.{padded}
use Rattle.base.proofs.ListsLaws.{eq_list_self}
use Rattle.base.specs.Loop.{first_f}
use Rattle.partition_laws.specs.Partition.{PartitionClass, join_class, class_words}
use Rattle.partition_laws.specs.Classes.{EachClass, HasWords, class_number, has_profile, add_place}
use Rattle.partition_laws.proofs.PartitionLaws.{class_at}

-- ---- places of words

-- the words of class j of k lie before those behind the classes
pub class_inside : (n : ℕ) {j k : ℕ} → j < k → j * (n + 1) + (n + 1) ≤ k * (n + 1)
class_inside n {j} {k} h =
    let m : suc j * (n + 1) ≤ k * (n + 1) = mul-le-mul_right (n + 1) (omega arith) in
    omega arith

-- a part of the words by its start and end is the profile that the test reads
pub profile_read : (q out : List ℕ) (j from : ℕ) {b : Bool} → from ≡ j * (length q + 1) + 1
    → b ≡ eq_list (take (from + length q - from) (drop from out)) q → has_profile out q j ≡ b
profile_read q out j from e h =
    let n : length q ≡ from + length q - from = omega arith in
    sym (h ∙ rw (← n, e))

-- `==` on slices is `eq_list`
pub same_slices : (l m : List ℕ) → pointwise eqb l m ≡ eq_list l m
unfolding eq_list
same_slices [] [] = refl
same_slices [] (y ∷ m) = refl
same_slices (x ∷ l) [] = refl
same_slices (x ∷ l) (y ∷ m) = ap (λ (b : Bool). eqb x y && b) (same_slices l m)

pub one_shl : (p : ℕ) → p < 64 → 1 * 2 ^ p % 2 ^ 64 ≡ 2 ^ p
one_shl p h = shl_exact 1 p 64 (omega arith) (omega arith) ∙ omega arith

pub add_place_set : (at p : ℕ) (out : List ℕ) → p < 64
    → set out at (bit_or (get_or out at 0) (1 * 2 ^ p % 2 ^ 64)) ≡ add_place at p out
unfolding add_place
add_place_set at p out h = ap (λ (m : ℕ). set out at (bit_or (get_or out at 0) m)) (one_shl p h)

pub length_add_place : (at p : ℕ) (out : List ℕ) → length (add_place at p out) ≡ length out
unfolding add_place
length_add_place at p out = simp length-set

-- an element set past the first list is one set in the second
pub set_append_add : (xs ys : List ℕ) (i a : ℕ) → set (xs ++ ys) (length xs + i) a ≡ xs ++ set ys i a
set_append_add [] ys i a = ap (λ (j : ℕ). set ys j a) (zero-add i)
set_append_add (x ∷ xs) ys i a = rw suc-add (ap (λ (m : List ℕ). x ∷ m) (set_append_add xs ys i a))

-- and one in the first list, with zeros behind
pub add_place_padded : (at p len : ℕ) (l : List ℕ) → at < length l
    → add_place at p (padded len l) ≡ padded len (add_place at p l)
unfolding add_place padded
add_place_padded at p len l h =
    let v : ℕ = bit_or (get_or l at 0) (2 ^ p) in
    let zeros : List ℕ = replicate (len - length l) 0 in
    ap (λ (y : ℕ). set (l ++ zeros) at (bit_or y (2 ^ p))) (get_or-append l zeros 0 at h)
    ∙ set-append_left l zeros at v h
    ∙ ap (λ (m : ℕ). set l at v ++ replicate (len - m) 0) (sym (length-set l at v))

-- ---- the number of a class

module _ (q : List ℕ) where
  pub number_le : (l : List PartitionClass) → class_number q l ≤ length l
  unfolding class_number
  number_le [] = omega arith
  number_le (x ∷ l) = go (eq_list x.profile q) (number_le l)
    where
      go : (b : Bool) → class_number q l ≤ length l → when b (λ _. 0) (λ _. class_number q l + 1) ≤ suc (length l)
      go true h = omega arith
      go false h = omega arith

  -- a search over tests of the classes finds it
  pub number_first : (test : ℕ → Bool) (l : List PartitionClass) (a : ℕ)
      → ((j : ℕ) → j < length l → test (a + j) ≡ eq_list (class_at l j).profile q)
      → first_f (length l) test a ≡ a + class_number q l
  unfolding first_f class_number
  number_first test [] a h = omega arith
  number_first test (x ∷ l) a h =
      let z : a ≡ a + 0 = omega arith in
      let e : test a ≡ eq_list x.profile q = ap test z ∙ h 0 (omega arith) in
      go (eq_list x.profile q) e (number_first test l (a + 1) (λ j b. shift j ∙ h (suc j) (omega arith)))
    where
      shift : (j : ℕ) → test (a + 1 + j) ≡ test (a + suc j)
      shift j = let z : a + 1 + j ≡ a + suc j = omega arith in ap test z

      go : (b : Bool) → test a ≡ b → first_f (length l) test (a + 1) ≡ a + 1 + class_number q l
          → when (test a) (λ _. a) (λ _. first_f (length l) test (a + 1))
          ≡ a + when b (λ _. 0) (λ _. class_number q l + 1)
      go true e below = simp e (omega arith)
      go false e below = simp e (omega arith)

  -- ---- joining

  module _ (p : ℕ) where
    pub join_new : (l : List PartitionClass) → class_number q l ≡ length l
        → join_class p q l ≡ l ++ (record { mask = 2 ^ p; profile = q } ∷ [])
    unfolding class_number join_class
    join_new [] e = refl
    join_new (x ∷ l) e = go (eq_list x.profile q) e (join_new l)
      where
        new : PartitionClass
        new = record { mask = 2 ^ p; profile = q }

        go : (b : Bool) → when b (λ _. 0) (λ _. class_number q l + 1) ≡ suc (length l)
            → (class_number q l ≡ length l → join_class p q l ≡ l ++ (new ∷ []))
            → when b (λ _. record { mask = bit_or x.mask (2 ^ p); profile = x.profile } ∷ l)
            (λ _. x ∷ join_class p q l)
            ≡ x ∷ (l ++ (new ∷ []))
        go true f below = absurd (omega arith)
        go false f below = ap (λ (m : List PartitionClass). x ∷ m) (below (omega arith))

    pub join_old_length : (l : List PartitionClass) → class_number q l < length l
        → length (join_class p q l) ≡ length l
    unfolding class_number join_class
    join_old_length [] h = absurd (omega arith)
    join_old_length (x ∷ l) h = go (eq_list x.profile q) h (join_old_length l)
      where
        go : (b : Bool) → when b (λ _. 0) (λ _. class_number q l + 1) < suc (length l)
            → (class_number q l < length l → length (join_class p q l) ≡ length l)
            → length
            (when b (λ _. record { mask = bit_or x.mask (2 ^ p); profile = x.profile } ∷ l)
            (λ _. x ∷ join_class p q l))
            ≡ suc (length l)
        go true f below = refl
        go false f below = ap suc (below (omega arith))

    pub join_words : (n : ℕ) → length q ≡ n → (l : List PartitionClass) → EachClass (HasWords n) l
        → EachClass (HasWords n) (join_class p q l)
    unfolding EachClass join_class
    join_words n hq [] e = (hq, tt)
    join_words n hq (x ∷ l) e = go (eq_list x.profile q) (join_words n hq l e.1)
      where
        go : (b : Bool) → EachClass (HasWords n) (join_class p q l)
            → EachClass (HasWords n)
            (when b (λ _. record { mask = bit_or x.mask (2 ^ p); profile = x.profile } ∷ l)
            (λ _. x ∷ join_class p q l))
        go true below = e
        go false below = (e.0, below)

    -- the place is in the class of its profile
    pub join_number : (l : List PartitionClass) → class_number q (join_class p q l) ≡ class_number q l
    unfolding class_number join_class
    join_number [] = simp (eq_list_self q)
    join_number (x ∷ l) = go (eq_list x.profile q) refl (join_number l)
      where
        go : (b : Bool) → eq_list x.profile q ≡ b → class_number q (join_class p q l) ≡ class_number q l
            → class_number q
            (when b (λ _. record { mask = bit_or x.mask (2 ^ p); profile = x.profile } ∷ l)
            (λ _. x ∷ join_class p q l))
            ≡ when b (λ _. 0) (λ _. class_number q l + 1)
        go true e below = simp e
        go false e below = simp e (ap (λ (m : ℕ). m + 1) below)

    pub number_lt : (l : List PartitionClass) → class_number q (join_class p q l) < length (join_class p q l)
    number_lt l = go (dec_lt (class_number q l) (length l))
      where
        go : Dec (class_number q l < length l) → class_number q (join_class p q l) < length (join_class p q l)
        go (yes h) = omega (arith, join_number l, join_old_length l h)
        go (no h) =
            let new : PartitionClass = record { mask = 2 ^ p; profile = q } in
            let e = join_new l (omega (arith, number_le l)) in
            omega (arith, join_number l, number_le l, ap length e, length-append l (new ∷ []))

    -- the words of the class that is found change in the mask alone
    pub words_old : (n : ℕ) (l : List PartitionClass) → EachClass (HasWords n) l → class_number q l < length l
        → class_words (join_class p q l) ≡ add_place (class_number q l * (n + 1)) p (class_words l)
    unfolding EachClass class_number join_class class_words add_place
    words_old n [] e h = absurd (omega arith)
    words_old n (x ∷ l) e h = go (eq_list x.profile q) h (words_old n l e.1)
      where
        go : (b : Bool) → when b (λ _. 0) (λ _. class_number q l + 1) < suc (length l)
            → (class_number q l < length l
            → class_words (join_class p q l) ≡ add_place (class_number q l * (n + 1)) p (class_words l))
            → class_words
            (when b (λ _. record { mask = bit_or x.mask (2 ^ p); profile = x.profile } ∷ l)
            (λ _. x ∷ join_class p q l))
            ≡ add_place (when b (λ _. 0) (λ _. class_number q l + 1) * (n + 1)) p
            ((x.mask ∷ x.profile) ++ class_words l)
        go true f below =
            let z : 0 ≡ 0 * (n + 1) = omega arith in
            ap (λ (i : ℕ). add_place i p ((x.mask ∷ x.profile) ++ class_words l)) z
        go false f below =
            let m : ℕ = class_number q l * (n + 1) in
            let s : ℕ = length (x.mask ∷ x.profile) in
            let z : s + m ≡ (class_number q l + 1) * (n + 1) = omega (arith, e.0) in
            let v : ℕ = bit_or (get_or (class_words l) m 0) (2 ^ p) in
            ap (◌++◌ (x.mask ∷ x.profile)) (below (omega arith))
            ∙ sym (set_append_add (x.mask ∷ x.profile) (class_words l) m v)
            ∙ ap (λ (y : ℕ). set ((x.mask ∷ x.profile) ++ class_words l) (s + m) (bit_or y (2 ^ p)))
            (sym (get_or-append-add (x.mask ∷ x.profile) (class_words l) m 0))
            ∙ ap (λ (i : ℕ). add_place i p ((x.mask ∷ x.profile) ++ class_words l)) z

    pub words_new : (l : List PartitionClass)
        → class_words (l ++ (record { mask = 2 ^ p; profile = q } ∷ [])) ≡ class_words l ++ (2 ^ p ∷ q)
    unfolding class_words
    words_new [] = ap (λ (m : List ℕ). 2 ^ p ∷ m) (append-nil q)
    words_new (x ∷ l) =
        ap (◌++◌ (x.mask ∷ x.profile)) (words_new l)
        ∙ sym (append_assoc (x.mask ∷ x.profile) (class_words l) (2 ^ p ∷ q))
