-- Laws of a choice by a test, of the search `first_in` (how it goes on from a number; a number that it finds is not
-- below its start, not past its bound, and passes the test) and of the loop `for_in` (specs/Loop.antt).
use mathlib.Core.Path.{◌≡◌, refl, ap, sym, subst, ◌∙◌}
use Prim.Native.Nat.{ℕ, zero, suc, ◌+◌, ◌-◌, ◌≤◌, ◌<◌}
use native.Mathlib.Omega.{arith}
use native.Mathlib.Decide.{ℕ_discrete}
use mathlib.Core.Bool.{Bool, true, false}
use Rattle.base.specs.Choice.{when}
use Rattle.base.specs.Loop.{turns_f, for_in, first_f, first_in}

-- what holds of both sides of a choice
pub when_both : {A : Type 0} (P : A → Type 0) (t : Bool) (x y : A) → (t ≡ true → P x) → (t ≡ false → P y)
    → P (when t (λ _. x) (λ _. y))
when_both P true x y p q = p refl
when_both P false x y p q = q refl

module _ (p : ℕ → Bool) where
  first_f_from : (n a : ℕ) → a ≤ first_f n p a
  unfolding first_f
  first_f_from zero a = omega arith
  first_f_from (suc n) a =
      when_both (λ (k : ℕ). a ≤ k) (p a) a (first_f n p (a + 1)) (λ _. omega arith)
      (λ _. omega (arith, first_f_from n (a + 1)))

  first_f_true : (n a : ℕ) → first_f n p a < a + n → p (first_f n p a) ≡ true
  unfolding first_f
  first_f_true zero a l = absurd (omega arith)
  first_f_true (suc n) a l =
      when_both (λ (k : ℕ). k < a + suc n → p k ≡ true) (p a) a (first_f n p (a + 1)) (λ e _. e)
      (λ _ u. first_f_true n (a + 1) (omega (arith, u))) l

  first_f_le : (n a : ℕ) → first_f n p a ≤ a + n
  unfolding first_f
  first_f_le zero a = omega arith
  first_f_le (suc n) a =
      when_both (λ (k : ℕ). k ≤ a + suc n) (p a) a (first_f n p (a + 1)) (λ _. omega arith)
      (λ _. omega (arith, first_f_le n (a + 1)))

  pub first_from : (a b : ℕ) → a ≤ first_in p a b
  unfolding first_in
  first_from a b = first_f_from (b - a) a

  pub first_le : (a b : ℕ) → a ≤ b → first_in p a b ≤ b
  unfolding first_in
  first_le a b h = omega (arith, first_f_le (b - a) a)

  pub first_true : (a b : ℕ) → first_in p a b < b → p (first_in p a b) ≡ true
  unfolding first_in
  first_true a b l = first_f_true (b - a) a (omega (arith, first_f_from (b - a) a))

  -- at a number that fails it goes on, at one that passes it ends, and so it does at the bound
  pub first_next : (a b : ℕ) → a < b → p a ≡ false → first_in p a b ≡ first_in p (a + 1) b
  unfolding first_f first_in
  first_next a b l e = let m : b - a ≡ suc (b - (a + 1)) = omega arith in rw m (simp e)

  pub first_here : (a b : ℕ) → a < b → p a ≡ true → first_in p a b ≡ a
  unfolding first_f first_in
  first_here a b l e = let m : b - a ≡ suc (b - (a + 1)) = omega arith in rw m (simp e)

  pub first_end : (a b : ℕ) → b ≤ a → first_in p a b ≡ a
  unfolding first_f first_in
  first_end a b l = let m : b - a ≡ 0 = omega arith in rw m refl

-- ---- loops

module _ {S : Type 0} (f : ℕ → S → S) where
  pub for_none : (a b : ℕ) (s : S) → b ≤ a → for_in f a b s ≡ s
  unfolding for_in turns_f
  for_none a b s h = let e : b - a ≡ 0 = omega arith in rw e refl

  pub for_more : (a i : ℕ) (s : S) → a ≤ i → for_in f a (i + 1) s ≡ f i (for_in f a i s)
  unfolding for_in turns_f
  for_more a i s h =
      let e : i + 1 - a ≡ suc (i - a) = omega arith in
      let q : a + (i - a) ≡ i = omega arith in
      ap (λ (n : ℕ). turns_f n f a s) e ∙ ap (λ (k : ℕ). f k (turns_f (i - a) f a s)) q

  -- a turn of code, and its end
  pub for_turn : (i : ℕ) (s : S) {t u : S} → t ≡ for_in f 0 i s → u ≡ f i t → u ≡ for_in f 0 (i + 1) s
  for_turn i s e d = d ∙ ap (f i) e ∙ sym (for_more 0 i s (omega arith))

  pub for_done : (s : S) {i n : ℕ} {t : S} → i ≤ n → n ≤ i → t ≡ for_in f 0 i s → t ≡ for_in f 0 n s
  for_done s {i} {n} a b e = let q : i ≡ n = omega arith in e ∙ ap (λ (m : ℕ). for_in f 0 m s) q

-- a loop in two parts
pub for_split : {S : Type 0} (f : ℕ → S → S) (i n : ℕ) (s : S) → for_in f 0 (i + n) s ≡ for_in f i (i + n) (for_in f 0 i s)
for_split {S} f i zero s =
    let e : i + 0 ≡ i = omega arith in
    rw e (sym (for_none f i i (for_in f 0 i s) (omega arith)))
for_split f i (suc n) s =
    let e : i + suc n ≡ i + n + 1 = omega arith in
    rw e
    (for_more f 0 (i + n) s (omega arith) ∙ ap (f (i + n)) (for_split f i n s)
    ∙ sym (for_more f i (i + n) (for_in f 0 i s) (omega arith)))

-- turns that are the same
pub for_as : {S : Type 0} (f h : ℕ → S → S) (a b : ℕ) (s : S) → ((i : ℕ) (t : S) → f i t ≡ h i t)
    → for_in f a b s ≡ for_in h a b s
unfolding for_in turns_f
for_as {S} f h a b s e = go (b - a)
  where
    go : (n : ℕ) → turns_f n f a s ≡ turns_f n h a s
    go zero = refl
    go (suc n) = e (a + n) (turns_f n f a s) ∙ ap (h (a + n)) (go n)

-- turns that change nothing
pub for_same : {S : Type 0} (f : ℕ → S → S) (a b : ℕ) (s : S) → ((i : ℕ) → a ≤ i → i < b → f i s ≡ s)
    → for_in f a b s ≡ s
unfolding for_in turns_f
for_same {S} f a b s h = go (b - a) (λ i l u. h i l (omega arith))
  where
    go : (n : ℕ) → ((i : ℕ) → a ≤ i → i < a + n → f i s ≡ s) → turns_f n f a s ≡ s
    go zero k = refl
    go (suc n) k =
        ap (f (a + n)) (go n (λ i l u. k i l (omega arith))) ∙ k (a + n) (omega arith) (omega arith)

-- what every turn keeps, given how far the loop has come, holds in the end
module _ {S : Type 0} (P : ℕ → S → Type 0) (f : ℕ → S → S) (a : ℕ) (s : S) where
  turns_ind : (n : ℕ) → ((i : ℕ) (t : S) → a ≤ i → i < a + n → P i t → P (i + 1) (f i t)) → P a s
      → P (a + n) (turns_f n f a s)
  unfolding turns_f
  turns_ind zero step start = rw (let z : a + 0 ≡ a = omega arith in z) start
  turns_ind (suc n) step start =
      rw (let z : a + suc n ≡ a + n + 1 = omega arith in z)
      (step (a + n) (turns_f n f a s) (omega arith) (omega arith)
      (turns_ind n (λ i t l u p. step i t l (omega arith) p) start))

  pub for_ind : (b : ℕ) → a ≤ b → ((i : ℕ) (t : S) → a ≤ i → i < b → P i t → P (i + 1) (f i t)) → P a s
      → P b (for_in f a b s)
  unfolding for_in
  for_ind b le step start =
      let e : a + (b - a) ≡ b = omega arith in
      subst (λ (n : ℕ). P n (turns_f (b - a) f a s)) e
      (turns_ind (b - a) (λ i t l u p. step i t l (omega arith) p) start)

-- what every turn keeps holds in the end
pub for_keeps : {S : Type 0} (P : S → Type 0) (f : ℕ → S → S) (a b : ℕ) (s : S)
    → ((i : ℕ) (t : S) → a ≤ i → i < b → P t → P (f i t)) → P s → P (for_in f a b s)
unfolding for_in turns_f
for_keeps {S} P f a b s step start = go (b - a) (λ i t l u p. step i t l (omega arith) p)
  where
    go : (n : ℕ) → ((i : ℕ) (t : S) → a ≤ i → i < a + n → P t → P (f i t)) → P (turns_f n f a s)
    go zero step = start
    go (suc n) step =
        step (a + n) (turns_f n f a s) (omega arith) (omega arith) (go n (λ i t l u p. step i t l (omega arith) p))

-- ---- what a search has passed

-- what holds between i and j, and of j, holds up to j + 1
pub upto_more : (P : ℕ → Type 0) (i j : ℕ) → ((k : ℕ) → i < k → k < j → P k) → P j → (k : ℕ) → i < k → k < j + 1 → P k
upto_more P i j h p k l u = go (ℕ_discrete k j)
  where
    go : Dec (k ≡ j) → P k
    go (yes e) = subst P (sym e) p
    go (no e) = h k l (omega arith)

-- what holds of every pair from a number below i, and from i, holds of every pair from below i + 1
pub rows_more : (P : ℕ → ℕ → Type 0) (i n : ℕ) → ((h k : ℕ) → h < i → h < k → k < n → P h k)
    → ((k : ℕ) → i < k → k < n → P i k) → (h k : ℕ) → h < i + 1 → h < k → k < n → P h k
rows_more P i n f g h k l u v = go (ℕ_discrete h i)
  where
    go : Dec (h ≡ i) → P h k
    go (yes e) = subst (λ (x : ℕ). P x k) (sym e) (g k (omega arith) v)
    go (no e) = f h k (omega arith) u v
