-- The coefficients with the bits that carry them (specs/Carried.antt): beside a basis of value x they come to
-- what the group comes to, modulo 2 ^ w.
use mathlib.Core.Path.{◌≡◌, refl, sym, ap, ◌∙◌, subst}
use Prim.Native.Nat.{ℕ, suc, ◌+◌, ◌*◌, ◌^◌, ◌≤◌, ◌<◌}
use native.Mathlib.Omega.{arith}
use mathlib.Core.List.{List, [], ◌∷◌}
use mathlib.Core.Bool.{Bool, true, false, not, ◌&&◌}
use lib.Bits.{bit_and}
use lib.Dec.{eqb, ltb}
use lib.Pow.{pow_pos}
use borrow.Author.Tests.{eqb-true, ltb-true, lt-ltb}
use Rattle.arith.specs.Congruence.{Eqm}
use Rattle.arith.proofs.CongruenceLaws.{eqm_of_eq, eqm_trans, eqm_add, eqm_mul_r}
use Rattle.base.specs.Choice.{when}
use Rattle.base.specs.Loop.{for_in}
use Rattle.base.proofs.BoolLaws.{and_true}
use Rattle.base.proofs.LoopLaws.{for_ind, for_keeps}
use Rattle.group.specs.declared.Group.{Group}
use Rattle.group.specs.Group.{Entry, used, at, is_live}
use Rattle.group.proofs.TotalLaws.{total}
use Rattle.structure_laws.specs.Carried.{Carried, bit_coeff, carry, carry_at, carried_of}
use Rattle.structure_laws.proofs.BitSumLaws.{and_above, low_total, low_total_none, low_total_next}
use Rattle.structure_laws.proofs.BitSumLaws.{low_total_all, bit_coeff_lem, bit_coeff_lt}

-- what the bits come to beside a basis of value x
unfoldable pub carried_sum : ℕ → List Carried → ℕ
carried_sum x [] = 0
carried_sum x (y ∷ l) = y.coeff * bit_and x y.mask + carried_sum x l

-- no bits from n on
unfoldable pub bits_below : ℕ → List Carried → Bool
bits_below n [] = true
bits_below n (y ∷ l) = ltb y.mask n && bits_below n l

pub below_cons : (n : ℕ) (y : Carried) (l : List Carried) → bits_below n (y ∷ l) ≡ true
    → (y.mask < n) × (bits_below n l ≡ true)
unfolding bits_below
below_cons n y l e = let p = and_true (ltb y.mask n) (bits_below n l) e in (ltb-true _ _ p.0, p.1)

cons_below : (n : ℕ) (y : Carried) (l : List Carried) → y.mask < n → bits_below n l ≡ true → bits_below n (y ∷ l) ≡ true
unfolding bits_below
cons_below n y l h e = simp (lt-ltb y.mask n h, e)

below_mono : (n m : ℕ) → n ≤ m → (l : List Carried) → bits_below n l ≡ true → bits_below m l ≡ true
unfolding bits_below
below_mono n m h [] e = refl
below_mono n m h (y ∷ l) e =
    let p = below_cons n y l e in
    cons_below m y l (omega (arith, p.0)) (below_mono n m h l p.1)

-- ---- one bit carried

abbrev pub carried : ℕ → ℕ → Carried
carried c m = record { coeff = c; mask = m }

module _ (c p : ℕ) (y : Carried) (l : List Carried) where
  pub carry_joined : eqb y.coeff c ≡ true → carry c p (y ∷ l) ≡ carried c (y.mask + 2 ^ p) ∷ l
  unfolding carry
  carry_joined e = simp e

  pub carry_here : eqb y.coeff c ≡ false → ltb c y.coeff ≡ true → carry c p (y ∷ l) ≡ carried c (2 ^ p) ∷ y ∷ l
  unfolding carry
  carry_here e h = simp (e, h)

  pub carry_later : eqb y.coeff c ≡ false → ltb c y.coeff ≡ false → carry c p (y ∷ l) ≡ y ∷ carry c p l
  unfolding carry
  carry_later e h = simp (e, h)

-- the bit p, above all others, comes in with its coefficient
record Joined (x c p : ℕ) (l m : List Carried) : Type 0 where
  sum : carried_sum x m ≡ c * bit_and x (2 ^ p) + carried_sum x l
  below : bits_below (2 ^ (p + 1)) m ≡ true

module _ (x c p : ℕ) where
  twice : 2 ^ (p + 1) ≡ 2 ^ p + 2 ^ p
  twice = ap (λ (n : ℕ). 2 ^ n) (let e : p + 1 ≡ suc p = omega arith in e) ∙ omega arith

  pow_next : 2 ^ p < 2 ^ (p + 1)
  pow_next = omega (arith, twice, pow_pos p)

  carry_joins : (l : List Carried) → bits_below (2 ^ p) l ≡ true → Joined x c p l (carry c p l)
  unfolding carried_sum carry bits_below
  carry_joins [] ok =
      record { sum = omega arith; below = cons_below (2 ^ (p + 1)) (carried c (2 ^ p)) [] pow_next refl }
  carry_joins (y ∷ l) ok =
      let q = below_cons (2 ^ p) y l ok in
      go q.0 (below_mono (2 ^ p) (2 ^ (p + 1)) (omega (arith, pow_next)) l q.1) (carry_joins l q.1)
      (eqb y.coeff c) (ltb c y.coeff) refl refl
    where
      go : y.mask < 2 ^ p → bits_below (2 ^ (p + 1)) l ≡ true → Joined x c p l (carry c p l)
          → (s t : Bool) → eqb y.coeff c ≡ s → ltb c y.coeff ≡ t → Joined x c p (y ∷ l) (carry c p (y ∷ l))
      go small ok below true t e h =
          let both = ap (λ (n : ℕ). c * n) (and_above x y.mask p small) in
          let same = ap (λ (n : ℕ). n * bit_and x y.mask) (eqb-true y.coeff c e) in
          subst (Joined x c p (y ∷ l)) (sym (carry_joined c p y l e))
          (record {
            sum = omega (arith, both, same);
            below =
                cons_below (2 ^ (p + 1)) (carried c (y.mask + 2 ^ p)) l (omega (arith, small, twice)) ok;
          })
      go small ok below false true e h =
          subst (Joined x c p (y ∷ l)) (sym (carry_here c p y l e h))
          (record {
            sum = omega arith;
            below =
                cons_below (2 ^ (p + 1)) (carried c (2 ^ p)) (y ∷ l) pow_next
                (cons_below (2 ^ (p + 1)) y l (omega (arith, small, pow_next)) ok);
          })
      go small ok below false false e h =
          subst (Joined x c p (y ∷ l)) (sym (carry_later c p y l e h))
          (record {
            sum = omega (arith, below.sum);
            below = cons_below (2 ^ (p + 1)) y (carry c p l) (omega (arith, small, pow_next)) below.below;
          })

-- ---- all bits

module _ (w : ℕ) (hw : w ≤ 64) (x : ℕ) (es : List Entry) where
  -- after the bits below p
  record CarriedTo (p : ℕ) (l : List Carried) : Type 0 where
    sum : Eqm (2 ^ w) (carried_sum x l) (low_total x es p)
    below : bits_below (2 ^ p) l ≡ true

  carry_turn : (p : ℕ) (l : List Carried) → CarriedTo p l → CarriedTo (p + 1) (carry_at w es p l)
  unfolding carry_at
  carry_turn p l h = go (eqb (bit_coeff w es p) 0) refl
    where
      v : ℕ
      v = bit_and x (2 ^ p)

      next : Eqm (2 ^ w) (bit_coeff w es p * v + carried_sum x l) (low_total x es (p + 1))
      next =
          eqm_trans (eqm_add (eqm_mul_r v (bit_coeff_lem w hw es p)) h.sum)
          (eqm_of_eq (omega (arith, low_total_next x es p)))

      go : (b : Bool) → eqb (bit_coeff w es p) 0 ≡ b
          → CarriedTo (p + 1) (when b (λ _. l) (λ _. carry (bit_coeff w es p) p l))
      go true e =
          let none = ap (λ (n : ℕ). n * v) (eqb-true (bit_coeff w es p) 0 e) in
          record {
            sum = eqm_trans (eqm_of_eq (omega (arith, none))) next;
            below =
                below_mono (2 ^ p) (2 ^ (p + 1)) (omega (arith, pow_next x 0 p)) l h.below;
          }
      go false e =
          let j = carry_joins x (bit_coeff w es p) p l h.below in
          record { sum = eqm_trans (eqm_of_eq j.sum) next; below = j.below }

  carry_start : CarriedTo 0 []
  unfolding carried_sum bits_below
  carry_start = record { sum = eqm_of_eq (sym (low_total_none x es)); below = refl }

  carried_to_lem : (p : ℕ) → CarriedTo p (for_in (carry_at w es) 0 p [])
  carried_to_lem p =
      for_ind CarriedTo (carry_at w es) 0 [] p (omega arith) (λ k l a u h. carry_turn k l h) carry_start

  pub below_to : (p : ℕ) → bits_below (2 ^ p) (for_in (carry_at w es) 0 p []) ≡ true
  below_to p = (carried_to_lem p).below

  carried_all : CarriedTo w (carried_of w es)
  unfolding carried_of
  carried_all = carried_to_lem w

  pub carried_below : bits_below (2 ^ w) (carried_of w es) ≡ true
  carried_below = carried_all.below

-- the bits come to what a group of live entries comes to
pub carried_sum_lem : (w : ℕ) → w ≤ 64 → (x : ℕ) (g : Group) → ((k : ℕ) → k < g.len → is_live (at g k) ≡ true)
    → ((k : ℕ) → k < g.len → (at g k).mask < 2 ^ w)
    → Eqm (2 ^ w) (carried_sum x (carried_of w (used g))) (total x g)
carried_sum_lem w hw x g live small =
    eqm_trans (carried_all w hw x (used g)).sum (eqm_of_eq (low_total_all x g w live small))

-- ---- the coefficients

-- none is 0, and all are below n
unfoldable pub coeffs_fit : ℕ → List Carried → Bool
coeffs_fit n [] = true
coeffs_fit n (y ∷ l) = (not (eqb y.coeff 0) && ltb y.coeff n) && coeffs_fit n l

module _ (n c p : ℕ) (ne : eqb c 0 ≡ false) (lt : c < n) where
  fit_cons : (m : ℕ) (l : List Carried) → coeffs_fit n l ≡ true → coeffs_fit n (carried c m ∷ l) ≡ true
  unfolding coeffs_fit
  fit_cons m l e = simp (ne, lt-ltb c n lt, e)

  carry_fits : (l : List Carried) → coeffs_fit n l ≡ true → coeffs_fit n (carry c p l) ≡ true
  unfolding coeffs_fit carry
  carry_fits [] e = fit_cons (2 ^ p) [] e
  carry_fits (y ∷ l) e =
      let q = and_true (not (eqb y.coeff 0) && ltb y.coeff n) (coeffs_fit n l) e in
      go q.0 q.1 (carry_fits l q.1) (eqb y.coeff c) (ltb c y.coeff)
    where
      go : not (eqb y.coeff 0) && ltb y.coeff n ≡ true → coeffs_fit n l ≡ true → coeffs_fit n (carry c p l) ≡ true
          → (s t : Bool)
          → coeffs_fit n
          (when s (λ _. carried c (y.mask + 2 ^ p) ∷ l)
          (λ _. when t (λ _. carried c (2 ^ p) ∷ y ∷ l) (λ _. y ∷ carry c p l)))
          ≡ true
      go one ok below true t = fit_cons (y.mask + 2 ^ p) l ok
      go one ok below false true = fit_cons (2 ^ p) (y ∷ l) e
      go one ok below false false = simp (one, below)

-- each coefficient is one that a term may have
pub carried_fits : (w : ℕ) → w ≤ 64 → (es : List Entry)
    → coeffs_fit (2 ^ w) (carried_of w es) ≡ true
unfolding carried_of carry_at coeffs_fit
carried_fits w hw es =
    for_keeps (λ l. coeffs_fit (2 ^ w) l ≡ true) (carry_at w es) 0 w []
    (λ p l a u h. turn p l h (eqb (bit_coeff w es p) 0) refl) refl
  where
    turn : (p : ℕ) (l : List Carried) → coeffs_fit (2 ^ w) l ≡ true → (b : Bool)
        → eqb (bit_coeff w es p) 0 ≡ b
        → coeffs_fit (2 ^ w) (when b (λ _. l) (λ _. carry (bit_coeff w es p) p l)) ≡ true
    turn p l h true e = h
    turn p l h false e =
        carry_fits (2 ^ w) (bit_coeff w es p) p e (bit_coeff_lt w hw es p) l h
