-- Laws of the coefficients with their bits in two lent arrays (specs/Coalescing.antt): one bit joined to its
-- coefficient, as the code does it.
use Rattle.std.proofs.Common.{◌≡◌, ℕ, zero, suc, ◌+◌, ◌*◌, ◌%◌, ◌^◌, ◌<◌, ◌≤◌, true, List, [], ◌∷◌, ◌++◌, length, get_or, take, drop, set, sym, refl, ap, ◌∙◌, subst, ap₂, arith, length-drop, length-set, length-take-le, drop-cons, get_or-take, take-suc, take-take, pow_mono, shl_exact, le-ltb, lt-ltb, eq-eqb, ne_eqb}
use lib.Seq.{split_at, set_split, take-set-lt}
use Rattle.views.specs.Bases.{insert_at}
use Rattle.group.specs.Bucket.{IsThere, GoesAt}
use Rattle.views.proofs.InsertLaws.{take_insert, length_insert}
use Rattle.group.proofs.KeysLaws.{place_first}
use Rattle.structure_laws.specs.Carried.{Carried, carry}
use Rattle.carried.specs.Coalescing.{pairs, carried_in, IsCarried}
use Rattle.structure_laws.proofs.CarriedLaws.{carried, carry_joined, carry_here, carry_later}
use Rattle.structure_laws.proofs.CarriedLaws.{bits_below, below_cons}

-- ---- two lists side by side

pairs_append : (a b : List ℕ) → length a ≡ length b → (c d : List ℕ) → pairs (a ++ c) (b ++ d) ≡ pairs a b ++ pairs c d
unfolding pairs
pairs_append [] [] e c d = refl
pairs_append [] (y ∷ b) e c d = absurd (omega (arith, e))
pairs_append (x ∷ a) [] e c d = absurd (omega (arith, e))
pairs_append (x ∷ a) (y ∷ b) e c d =
    ap (λ (l : List Carried). carried x y ∷ l) (pairs_append a b (omega (arith, e)) c d)

length_pairs : (a b : List ℕ) → length a ≡ length b → length (pairs a b) ≡ length a
unfolding pairs
length_pairs [] b e = refl
length_pairs (x ∷ a) [] e = absurd (omega (arith, e))
length_pairs (x ∷ a) (y ∷ b) e = ap suc (length_pairs a b (omega (arith, e)))

pairs_below : (n : ℕ) (a b : List ℕ) → length a ≡ length b → bits_below n (pairs a b) ≡ true → (k : ℕ) → k < length a
    → get_or b k 0 < n
unfolding pairs
pairs_below n [] b e h k lt = absurd (omega (arith, lt))
pairs_below n (x ∷ a) [] e h k lt = absurd (omega (arith, e))
pairs_below n (x ∷ a) (y ∷ b) e h zero lt = (below_cons n (carried x y) (pairs a b) h).0
pairs_below n (x ∷ a) (y ∷ b) e h (suc k) lt =
    pairs_below n a b (omega (arith, e)) (below_cons n (carried x y) (pairs a b) h).1 k (omega (arith, lt))

module _ (n : ℕ) (carried bits : List ℕ) (lc : n ≤ length carried) (lb : n ≤ length bits) where
  same_length : length (take n carried) ≡ length (take n bits)
  same_length = length-take-le n carried lc ∙ sym (length-take-le n bits lb)

  pub length_in : length (carried_in n carried bits) ≡ n
  unfolding carried_in
  length_in = length_pairs (take n carried) (take n bits) same_length ∙ length-take-le n carried lc

  pub below_in : (m : ℕ) → bits_below m (carried_in n carried bits) ≡ true → (k : ℕ) → k < n → get_or bits k 0 < m
  unfolding carried_in
  below_in m h k lt =
      subst (λ (x : ℕ). x < m) (get_or-take n bits k 0 lt)
      (pairs_below m (take n carried) (take n bits) same_length h k (omega (arith, length-take-le n carried lc)))

-- one entry more
pub in_next : (n : ℕ) (xs ys : List ℕ) → n < length xs → n < length ys
    → carried_in (n + 1) xs ys ≡ carried_in n xs ys ++ (carried (get_or xs n 0) (get_or ys n 0) ∷ [])
unfolding carried_in pairs
in_next n xs ys lx ly =
    let s : n + 1 ≡ suc n = omega arith in
    rw s
    (ap₂ pairs (take-suc xs n 0 lx) (take-suc ys n 0 ly)
    ∙ pairs_append (take n xs) (take n ys) (same_length n xs ys (omega arith) (omega arith)) (get_or xs n 0 ∷ [])
    (get_or ys n 0 ∷ []))

-- ---- one bit

pub bit_word : (p : ℕ) → p < 64 → 1 * 2 ^ p % 2 ^ 64 ≡ 2 ^ p
bit_word p h = shl_exact 1 p 64 (omega arith) (omega arith) ∙ omega arith

-- beside bits below it
pub bit_room : (x p : ℕ) → p < 64 → x < 2 ^ p → x + 1 * 2 ^ p % 2 ^ 64 < 2 ^ 64
bit_room x p h lt = omega (arith, bit_word p h, lt, pow_mono {i = suc p} {j = 64} (omega arith))

module _ (c p : ℕ) where
  -- past lower coefficients
  carry_past : (a b : List ℕ) → length a ≡ length b → (k : ℕ) → k ≤ length a → ((j : ℕ) → j < k → get_or a j 0 < c)
      → carry c p (pairs a b) ≡ pairs (take k a) (take k b) ++ carry c p (pairs (drop k a) (drop k b))
  unfolding pairs
  carry_past a b e zero le h = refl
  carry_past [] b e (suc k) le h = absurd (omega (arith, le))
  carry_past (x ∷ a) [] e (suc k) le h = absurd (omega (arith, e))
  carry_past (x ∷ a) (y ∷ b) e (suc k) le h =
      let low : x < c = h 0 (omega arith) in
      carry_later c p (carried x y) (pairs a b) (ne_eqb x c (λ q. omega (arith, q, low))) (le-ltb c x (omega (arith, low)))
      ∙ ap (λ (l : List Carried). carried x y ∷ l)
      (carry_past a b (omega (arith, e)) k (omega (arith, le)) (λ j lt. h (suc j) (omega arith)))

  -- before a higher one
  carry_front : (a b : List ℕ) → length a ≡ length b → (0 < length a → c < get_or a 0 0)
      → carry c p (pairs a b) ≡ carried c (2 ^ p) ∷ pairs a b
  unfolding pairs carry
  carry_front [] b e h = refl
  carry_front (x ∷ a) [] e h = absurd (omega (arith, e))
  carry_front (x ∷ a) (y ∷ b) e h =
      let high : c < x = h (omega arith) in
      carry_here c p (carried x y) (pairs a b) (ne_eqb x c (λ q. omega (arith, q, high))) (lt-ltb c x high)

  carry_same : (x y : ℕ) (a b : List ℕ) → x ≡ c
      → carry c p (pairs (x ∷ a) (y ∷ b)) ≡ pairs (x ∷ a) ((y + 2 ^ p) ∷ b)
  unfolding pairs
  carry_same x y a b e =
      carry_joined c p (carried x y) (pairs a b) (eq-eqb x c e)
      ∙ ap (λ (z : ℕ). carried z (y + 2 ^ p) ∷ pairs a b) (sym e)

module _ (c p n : ℕ) (carried bits : List ℕ) (lc : n < length carried) (lb : n < length bits) (k : ℕ)
    (le : k ≤ n) (below : (j : ℕ) → j < k → get_or carried j 0 < c) where
  abbrev a : List ℕ
  a = take n carried

  abbrev b : List ℕ
  b = take n bits

  len_a : length a ≡ n
  len_a = length-take-le n carried (omega arith)

  len_b : length b ≡ n
  len_b = length-take-le n bits (omega arith)

  fronts : length (take k a) ≡ length (take k b)
  fronts =
      length-take-le k a (omega (arith, len_a, le)) ∙ sym (length-take-le k b (omega (arith, len_b, le)))

  parted : carry c p (carried_in n carried bits)
      ≡ pairs (take k a) (take k b) ++ carry c p (pairs (drop k a) (drop k b))
  unfolding carried_in
  parted =
      carry_past c p a b (len_a ∙ sym len_b) k (omega (arith, len_a, le))
      (λ j lt. subst (λ (x : ℕ). x < c) (sym (get_or-take n carried j 0 (omega (arith, le)))) (below j lt))

  module _ (s : IsThere c n carried k) where
    joined_are : (y : ℕ) → y ≡ get_or bits k 0 + 2 ^ p
        → carried_in n carried (set bits k y) ≡ carry c p (carried_in n carried bits)
    unfolding carried_in
    joined_are y ey =
        let lt : k < n = s.within in
        let x : ℕ = get_or a k 0 in
        let old : ℕ = get_or b k 0 in
        let is_c : x ≡ c = get_or-take n carried k 0 lt ∙ s.is_c in
        let new : y ≡ old + 2 ^ p =
        ey ∙ ap (λ (z : ℕ). z + 2 ^ p) (sym (get_or-take n bits k 0 lt)) in
        let left : a ≡ take k a ++ x ∷ drop (suc k) a = split_at a k 0 (omega (arith, len_a, lt)) in
        let right : take n (set bits k y) ≡ take k b ++ y ∷ drop (suc k) b =
        take-set-lt n bits k y lt ∙ set_split b k y (omega (arith, len_b, lt)) in
        ap₂ pairs left right
        ∙ pairs_append (take k a) (take k b) fronts (x ∷ drop (suc k) a) (y ∷ drop (suc k) b)
        ∙ ap (λ (z : ℕ). pairs (take k a) (take k b) ++ pairs (x ∷ drop (suc k) a) (z ∷ drop (suc k) b)) new
        ∙ ap (λ (l : List Carried). pairs (take k a) (take k b) ++ l)
        (sym (carry_same c p x old (drop (suc k) a) (drop (suc k) b) is_c)
        ∙ ap₂ (λ (u v : List ℕ). carry c p (pairs u v)) (sym (drop-cons a k 0 (omega (arith, len_a, lt))))
        (sym (drop-cons b k 0 (omega (arith, len_b, lt)))))
        ∙ sym parted

    -- c is there
    pub carry_there : {bits' : List ℕ} (y : ℕ) → y ≡ get_or bits k 0 + 2 ^ p → bits' ≡ set bits k y
        → IsCarried (carry c p (carried_in n carried bits)) carried bits carried bits' n
    carry_there {bits'} y ey eb =
        let are : carried_in n carried bits' ≡ carry c p (carried_in n carried bits) =
        ap (carried_in n carried) eb ∙ joined_are y ey in
        let wide : length bits' ≡ length bits = ap length eb ∙ length-set bits k y in
        record {
          count = sym (length_in n carried bits' (omega arith) (omega (arith, wide))) ∙ ap length are;
          are = are;
          long = refl;
          wide = wide;
        }

  -- or it is put in
  pub carry_new : GoesAt c n carried k → {carried' bits' : List ℕ} (y : ℕ) → y ≡ 2 ^ p
      → carried' ≡ insert_at k n c carried → bits' ≡ insert_at k n y bits
      → IsCarried (carry c p (carried_in n carried bits)) carried bits carried' bits' (n + 1)
  unfolding carried_in pairs
  carry_new s {carried'} {bits'} y ey ec eb =
      let left : take (n + 1) carried' ≡ take k a ++ c ∷ drop k a =
      ap (take (n + 1)) ec
      ∙ take_insert k n c carried le lc
      ∙ ap (λ (l : List ℕ). l ++ c ∷ drop k a) (sym (take-take k n carried le)) in
      let right : take (n + 1) bits' ≡ take k b ++ y ∷ drop k b =
      ap (take (n + 1)) eb
      ∙ take_insert k n y bits le lb
      ∙ ap (λ (l : List ℕ). l ++ y ∷ drop k b) (sym (take-take k n bits le)) in
      let behind : length (drop k a) ≡ length (drop k b) =
      length-drop k a ∙ omega (arith, len_a, len_b, length-drop k b) in
      let first : 0 < length (drop k a) → c < get_or (drop k a) 0 0 = place_first c n carried (omega arith) s in
      let are : carried_in (n + 1) carried' bits' ≡ carry c p (carried_in n carried bits) =
      ap₂ pairs left right
      ∙ pairs_append (take k a) (take k b) fronts (c ∷ drop k a) (y ∷ drop k b)
      ∙ ap (λ (z : ℕ). pairs (take k a) (take k b) ++ pairs (c ∷ drop k a) (z ∷ drop k b)) ey
      ∙ ap (λ (l : List Carried). pairs (take k a) (take k b) ++ l) (sym (carry_front c p (drop k a) (drop k b) behind first))
      ∙ sym parted in
      let long : length carried' ≡ length carried = ap length ec ∙ length_insert k n c carried le lc in
      let wide : length bits' ≡ length bits = ap length eb ∙ length_insert k n y bits le lb in
      record {
        count = sym (length_in (n + 1) carried' bits' (omega (arith, long)) (omega (arith, wide))) ∙ ap length are;
        are = are;
        long = long;
        wide = wide;
      }
