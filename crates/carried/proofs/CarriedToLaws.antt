-- Laws of the bits of a group (specs/Coalescing.antt): the coefficient of a bit as the code sums it up, and the bits in turn,
-- of which there are at most w.
use Rattle.std.proofs.Common.{◌≡◌, ℕ, suc, ◌+◌, ◌/◌, ◌%◌, ◌^◌, ◌<◌, ◌≤◌, true, false, eqb, ltb, List, [], ◌∷◌, length, get_or, sym, refl, ap, ◌∙◌, subst, arith, eq-eqb, ne_eqb}
use native.Mathlib.Nat.{zero-mod}
use lib.Bits.{bit_and}
use Rattle.arith.specs.Bit.{bit_at}
use Rattle.arith.specs.Width.{bitmask, mod_add}
use Rattle.arith.proofs.BitLaws.{shr_and_one}
use Rattle.arith.proofs.CongruenceLaws.{eqm_mod, eqm_sym, eqm_refl, eqm_add, mod_shorter}
use Rattle.arith.proofs.WidthLaws.{mod_add_lem, and_bitmask}
use Rattle.base.specs.Choice.{when}
use Rattle.base.specs.Loop.{for_in}
use Rattle.base.proofs.LoopLaws.{when_both, for_ind, for_none, for_turn, for_done}
use Rattle.entries.specs.Marks.{blank}
use Rattle.group.specs.Group.{Entry}
use Rattle.structure_laws.specs.Carried.{Carried, bit_coeff_at, bit_coeff, carry, carry_at, carried_of}
use Rattle.carried.specs.Coalescing.{pairs, carried_in, IsCarried}
use Rattle.structure_laws.proofs.CarriedLaws.{carried, bits_below, below_to}
use Rattle.carried.proofs.CarriedInLaws.{length_in, below_in}

-- ---- the coefficient of a bit

module _ (w : ℕ) (hw : w ≤ 64) (es : List Entry) (p : ℕ) where
  pub bit_start : 0 % 2 ^ w ≡ for_in (bit_coeff_at w es p) 0 0 0
  bit_start = zero-mod (2 ^ w) ∙ sym (for_none (bit_coeff_at w es p) 0 0 0 (omega arith))

  -- a sum that is not cut yet, with one entry more
  module _ (i sum : ℕ) (e : sum % 2 ^ w ≡ for_in (bit_coeff_at w es p) 0 i 0) where
    pub bit_one : bit_and ((get_or es i blank).mask / 2 ^ p) 1 ≡ 1 → (next : ℕ) → next ≡ (sum + (get_or es i blank).coeff) % 2 ^ 64
        → next % 2 ^ w ≡ for_in (bit_coeff_at w es p) 0 (i + 1) 0
    unfolding bit_coeff_at
    bit_one b next d =
        let c : ℕ = (get_or es i blank).coeff in
        let s : ℕ = for_in (bit_coeff_at w es p) 0 i 0 in
        let one : eqb (bit_at (get_or es i blank).mask p) 1 ≡ true = eq-eqb _ _ (sym (shr_and_one (get_or es i blank).mask p) ∙ b) in
        let turn : bit_coeff_at w es p i s ≡ mod_add s c w = simp one in
        for_turn (bit_coeff_at w es p) i 0 refl
        (ap (λ (x : ℕ). x % 2 ^ w) d
        ∙ mod_shorter (sum + c) 64 w hw
        ∙ (eqm_add (eqm_sym (eqm_mod (2 ^ w) sum)) (eqm_refl c)).eqm
        ∙ ap (λ (x : ℕ). (x + c) % 2 ^ w) e
        ∙ sym (mod_add_lem s c w hw)
        ∙ sym turn)

    pub bit_none : (bit_and ((get_or es i blank).mask / 2 ^ p) 1 ≡ 1 → ⊥) → (next : ℕ) → next ≡ sum
        → next % 2 ^ w ≡ for_in (bit_coeff_at w es p) 0 (i + 1) 0
    unfolding bit_coeff_at
    bit_none b next d =
        let s : ℕ = for_in (bit_coeff_at w es p) 0 i 0 in
        let none : eqb (bit_at (get_or es i blank).mask p) 1 ≡ false = ne_eqb _ _ (λ q. b (shr_and_one (get_or es i blank).mask p ∙ q)) in
        let turn : bit_coeff_at w es p i s ≡ s = simp none in
        for_turn (bit_coeff_at w es p) i 0 refl (ap (λ (x : ℕ). x % 2 ^ w) d ∙ e ∙ sym turn)

  pub bit_end : (i sum m : ℕ) → i ≤ length es → length es ≤ i → sum % 2 ^ w ≡ for_in (bit_coeff_at w es p) 0 i 0
      → m ≡ bitmask w → bit_and sum m ≡ bit_coeff w es p
  unfolding bit_coeff
  bit_end i sum m a b e em =
      ap (bit_and sum) em ∙ and_bitmask sum w hw ∙ for_done (bit_coeff_at w es p) 0 a b e

-- ---- all bits

carry_length : (c p : ℕ) (l : List Carried) → length (carry c p l) ≤ length l + 1
unfolding carry
carry_length c p [] = omega arith
carry_length c p (y ∷ l) =
    let few : List Carried → Type 0 = (λ (t : List Carried). length t ≤ suc (length l) + 1) in
    when_both few (eqb y.coeff c) (carried c (y.mask + 2 ^ p) ∷ l)
    (when (ltb c y.coeff) (λ _. carried c (2 ^ p) ∷ y ∷ l) (λ _. y ∷ carry c p l)) (λ _. omega arith)
    (λ _. when_both few (ltb c y.coeff) (carried c (2 ^ p) ∷ y ∷ l) (y ∷ carry c p l) (λ _. omega arith)
    (λ _. omega (arith, carry_length c p l)))

module _ (w : ℕ) (es : List Entry) where
  -- the bits below p
  abbrev pub carried_to : ℕ → List Carried
  carried_to p = for_in (carry_at w es) 0 p []

  turn_few : (p : ℕ) (l : List Carried) → length l ≤ p → length (carry_at w es p l) ≤ p + 1
  unfolding carry_at
  turn_few p l h =
      when_both (λ (t : List Carried). length t ≤ p + 1) (eqb (bit_coeff w es p) 0) l
      (carry (bit_coeff w es p) p l)
      (λ _. omega arith) (λ _. omega (arith, carry_length (bit_coeff w es p) p l))

  -- at most one entry for each bit
  pub carried_few : (p : ℕ) → length (carried_to p) ≤ p
  carried_few p =
      for_ind (λ (k : ℕ) (l : List Carried). length l ≤ k) (carry_at w es) 0 [] p (omega arith)
      (λ k l a u h. turn_few k l h) (omega arith)

  -- one bit, of a coefficient that is 0 and of another
  module _ (p c n : ℕ) (carried bits : List ℕ) (e : c ≡ bit_coeff w es p) where
    pub at_none : n ≤ length carried → n ≤ length bits → c ≡ 0
        → IsCarried (carry_at w es p (carried_in n carried bits)) carried bits carried bits n
    unfolding carry_at
    at_none lc lb z =
        let none : eqb (bit_coeff w es p) 0 ≡ true =
        eq-eqb (bit_coeff w es p) 0 (sym e ∙ z) in
        let same : carry_at w es p (carried_in n carried bits) ≡ carried_in n carried bits = simp none in
        rw same (record { count = sym (length_in n carried bits lc lb); are = refl; long = refl; wide = refl })

    pub at_some : (c ≡ 0 → ⊥) → {carried' bits' : List ℕ} {r : ℕ}
        → IsCarried (carry c p (carried_in n carried bits)) carried bits carried' bits' r
        → IsCarried (carry_at w es p (carried_in n carried bits)) carried bits carried' bits' r
    unfolding carry_at
    at_some ne h =
        let some : eqb (bit_coeff w es p) 0 ≡ false =
        ne_eqb (bit_coeff w es p) 0 (λ z. ne (e ∙ z)) in
        let same : carry_at w es p (carried_in n carried bits)
        ≡ carry (bit_coeff w es p) p (carried_in n carried bits) = simp some in
        rw (same, ← e) h

  pub carried_start : (carried bits : List ℕ) → IsCarried (carried_to 0) carried bits carried bits 0
  unfolding carried_in pairs
  carried_start carried bits =
      let none : carried_to 0 ≡ [] = for_none (carry_at w es) 0 0 [] (omega arith) in
      rw none (record { count = refl; are = refl; long = refl; wide = refl })

  module _ (hw : w ≤ 64) (p count : ℕ) {carried₀ bits₀ carried bits : List ℕ}
      (h : IsCarried (carried_to p) carried₀ bits₀ carried bits count) where
    pub to_few : count ≤ p
    to_few = omega (arith, h.count, carried_few p)

    pub to_below : count ≤ length carried → count ≤ length bits → (k : ℕ) → k < count → get_or bits k 0 < 2 ^ p
    to_below lc lb =
        below_in count carried bits lc lb (2 ^ p) (ap (bits_below (2 ^ p)) h.are ∙ below_to w hw 0 es p)

    pub carried_turn : {carried' bits' : List ℕ} {r : ℕ}
        → IsCarried (carry_at w es p (carried_in count carried bits)) carried bits carried' bits' r
        → IsCarried (carried_to (p + 1)) carried₀ bits₀ carried' bits' r
    carried_turn t =
        let e : carry_at w es p (carried_in count carried bits) ≡ carried_to (p + 1) =
        for_turn (carry_at w es) p [] h.are refl in
        record {
          count = t.count ∙ ap length e;
          are = t.are ∙ e;
          long = t.long ∙ h.long;
          wide = t.wide ∙ h.wide;
        }

    pub carried_done : p ≤ w → w ≤ p → IsCarried (carried_of w es) carried₀ bits₀ carried bits count
    unfolding carried_of
    carried_done a b =
        let q : p ≡ w = omega arith in
        subst (λ (k : ℕ). IsCarried (carried_to k) carried₀ bits₀ carried bits count) q h
