-- The coefficient of each bit (specs/Carried.antt): a group of live entries comes, modulo 2 ^ w, to the sum over
-- the bits of the basis of value x, each times the sum of the coefficients whose masks have it. First the
-- masks cut to p bits: none, one more, all w of them.
use mathlib.Core.Path.{◌≡◌, refl, sym, ap, ◌∙◌}
use Prim.Native.Nat.{ℕ, zero, suc, ◌+◌, ◌*◌, ◌%◌, ◌^◌, ◌≤◌, ◌<◌}
use native.Mathlib.Omega.{arith}
use native.Mathlib.Nat.{mod-eq_of_lt, mod-lt, mod-one}
use mathlib.Core.List.{List}
use mathlib.Core.Bool.{Bool, true, false}
use lib.ListN.{length, get_or}
use lib.Arith.{mod-mul}
use lib.Bits.{bit_and, and_comm, and_zero_r, or_disjoint}
use lib.Dec.{eqb}
use lib.Pow.{pow_pos}
use Rattle.arith.specs.Bit.{bit_at}
use Rattle.arith.specs.Congruence.{Eqm}
use Rattle.arith.specs.Width.{mod_add}
use Rattle.arith.proofs.BitLaws.{bit_lt, bit_past, and_pow, bit_cases}
use Rattle.arith.proofs.MaskLaws.{and_split}
use Rattle.arith.proofs.CongruenceLaws.{eqm_of_eq, eqm_refl, eqm_sym, eqm_trans, eqm_add, eqm_mul_r}
use Rattle.arith.proofs.WidthLaws.{mod_add_eqm, mod_add_lt}
use Rattle.base.specs.Choice.{when}
use Rattle.base.proofs.LoopLaws.{for_ind, for_keeps}
use Rattle.group.specs.declared.Group.{Group}
use Rattle.entries.specs.Marks.{blank}
use Rattle.group.specs.Group.{Entry, used, at, is_live}
use Rattle.group.proofs.EntryLaws.{used_at, length_used}
use Rattle.group.proofs.TotalLaws.{sum_to, sum_ext, worth, worth_live, total}
use Rattle.group.proofs.SettleLaws.{sum_next}
use Rattle.structure_laws.specs.Carried.{bit_coeff_at, bit_coeff}

-- ---- one bit more

-- the bit p beside lower bits
pub and_above : (x m p : ℕ) → m < 2 ^ p → bit_and x (m + 2 ^ p) ≡ bit_and x m + bit_and x (2 ^ p)
and_above x m p h =
    let apart : bit_and m (2 ^ p) ≡ 0 =
    and_comm m (2 ^ p) ∙ and_pow p m ∙ ap (λ (n : ℕ). n * 2 ^ p) (bit_past m p p h (omega arith)) ∙ omega arith in
    ap (bit_and x) (sym (or_disjoint m (2 ^ p) apart)) ∙ and_split x m (2 ^ p) apart

-- p + 1 bits are p bits and the bit p
mod_next : (m p : ℕ) → m % 2 ^ (p + 1) ≡ m % 2 ^ p + bit_at m p * 2 ^ p
unfolding bit_at
mod_next m p =
    let e : p + 1 ≡ suc p = omega arith in
    let two : 0 < 2 = omega arith in
    let d : 2 ^ suc p ≡ 2 * 2 ^ p = omega arith in
    ap (λ (n : ℕ). m % 2 ^ n) e ∙ ap (λ (n : ℕ). m % n) d ∙ mod-mul m two (pow_pos p) ∙ omega arith

and_next : (x m p : ℕ) → bit_and x (m % 2 ^ (p + 1)) ≡ bit_and x (m % 2 ^ p) + bit_at m p * bit_and x (2 ^ p)
and_next x m p =
    ap (bit_and x) (mod_next m p)
    ∙ bit_cases (λ (d : ℕ). bit_and x (m % 2 ^ p + d * 2 ^ p) ≡ bit_and x (m % 2 ^ p) + d * bit_and x (2 ^ p))
    (ap (bit_and x) (let z : m % 2 ^ p + 0 * 2 ^ p ≡ m % 2 ^ p = omega arith in z) ∙ omega arith)
    (ap (bit_and x) (let z : m % 2 ^ p + 1 * 2 ^ p ≡ m % 2 ^ p + 2 ^ p = omega arith in z)
    ∙ and_above x (m % 2 ^ p) p (mod-lt m (pow_pos p))
    ∙ omega arith)
    (bit_at m p) (bit_lt m p)

-- ---- sums

sum_scaled : (t f h : ℕ → ℕ) (c n : ℕ) → ((k : ℕ) → t k ≡ f k + h k * c) → sum_to t n ≡ sum_to f n + sum_to h n * c
unfolding sum_to
sum_scaled t f h c zero e = omega arith
sum_scaled t f h c (suc n) e = omega (arith, sum_scaled t f h c n e, e n)

sum_zero : (t : ℕ → ℕ) (n : ℕ) → ((k : ℕ) → t k ≡ 0) → sum_to t n ≡ 0
unfolding sum_to
sum_zero t zero e = refl
sum_zero t (suc n) e = omega (arith, sum_zero t n e, e n)

-- what the entries come to by the low p bits of their masks
unfoldable pub low_total : ℕ → List Entry → ℕ → ℕ
low_total x es p = sum_to (λ k. (get_or es k blank).coeff * bit_and x ((get_or es k blank).mask % 2 ^ p)) (length es)

-- the coefficients of the first n entries whose masks have the bit p
unfoldable pub bit_sum : List Entry → ℕ → ℕ → ℕ
bit_sum es p n = sum_to (λ k. bit_at (get_or es k blank).mask p * (get_or es k blank).coeff) n

module _ (x : ℕ) (es : List Entry) where
  pub low_total_next : (p : ℕ)
      → low_total x es (p + 1)
      ≡ low_total x es p + bit_sum es p (length es) * bit_and x (2 ^ p)
  unfolding low_total bit_sum
  low_total_next p =
      sum_scaled
      (λ k. (get_or es k blank).coeff * bit_and x ((get_or es k blank).mask % 2 ^ (p + 1)))
      (λ k. (get_or es k blank).coeff * bit_and x ((get_or es k blank).mask % 2 ^ p))
      (λ k. bit_at (get_or es k blank).mask p * (get_or es k blank).coeff)
      (bit_and x (2 ^ p)) (length es)
      (λ k. ap (λ (n : ℕ). (get_or es k blank).coeff * n) (and_next x (get_or es k blank).mask p) ∙ omega arith)

  pub low_total_none : low_total x es 0 ≡ 0
  unfolding low_total
  low_total_none =
      sum_zero (λ k. (get_or es k blank).coeff * bit_and x ((get_or es k blank).mask % 2 ^ 0)) (length es)
      (λ k.
      ap (λ (m : ℕ). (get_or es k blank).coeff * bit_and x m) (mod-one (get_or es k blank).mask)
      ∙ ap (λ (n : ℕ). (get_or es k blank).coeff * n) (and_zero_r x)
      ∙ omega arith)

-- all bits of a group of live entries
module _ (x : ℕ) (g : Group) where
  pub low_total_all : (w : ℕ) → ((k : ℕ) → k < g.len → is_live (at g k) ≡ true)
      → ((k : ℕ) → k < g.len → (at g k).mask < 2 ^ w) → low_total x (used g) w ≡ total x g
  unfolding low_total total
  low_total_all w live small =
      let low : Entry → ℕ = λ e. e.coeff * bit_and x (e.mask % 2 ^ w) in
      ap (sum_to (λ k. low (get_or (used g) k blank))) (length_used g)
      ∙ sum_ext (λ k. low (get_or (used g) k blank)) (λ k. worth x (at g k)) g.len
      (λ k l.
      ap low (used_at g k l)
      ∙ ap (λ (m : ℕ). (at g k).coeff * bit_and x m) (mod-eq_of_lt (small k l))
      ∙ sym (worth_live x (at g k) (live k l)))

-- the coefficient of a bit, modulo 2 ^ w
module _ (w : ℕ) (hw : w ≤ 64) (es : List Entry) (p : ℕ) where
  bit_turn : (i s : ℕ) → Eqm (2 ^ w) s (bit_sum es p i)
      → Eqm (2 ^ w) (bit_coeff_at w es p i s) (bit_sum es p (i + 1))
  unfolding bit_coeff_at bit_sum
  bit_turn i s h = go (bit_at (get_or es i blank).mask p) refl (bit_lt (get_or es i blank).mask p)
    where
      f : ℕ → ℕ
      f k = bit_at (get_or es k blank).mask p * (get_or es k blank).coeff

      go : (d : ℕ) → bit_at (get_or es i blank).mask p ≡ d → d < 2
          → Eqm (2 ^ w) (when (eqb (bit_at (get_or es i blank).mask p) 1) (λ _. mod_add s (get_or es i blank).coeff w) (λ _. s))
          (sum_to f (i + 1))
      go zero e l =
          simp e
          (eqm_trans h (eqm_of_eq (omega (arith, sum_next f i, ap (λ (n : ℕ). n * (get_or es i blank).coeff) e))))
      go (suc zero) e l =
          simp e
          (eqm_trans (mod_add_eqm s (get_or es i blank).coeff w hw)
          (eqm_trans (eqm_add h (eqm_refl (get_or es i blank).coeff))
          (eqm_of_eq (omega (arith, sum_next f i, ap (λ (n : ℕ). n * (get_or es i blank).coeff) e)))))
      go (suc (suc d)) e l = absurd (omega arith)

  bit_start : Eqm (2 ^ w) 0 (bit_sum es p 0)
  unfolding bit_sum sum_to
  bit_start = eqm_refl 0

  pub bit_coeff_lem : Eqm (2 ^ w) (bit_coeff w es p) (bit_sum es p (length es))
  unfolding bit_coeff
  bit_coeff_lem =
      for_ind (λ i s. Eqm (2 ^ w) s (bit_sum es p i)) (bit_coeff_at w es p) 0 0 (length es) (omega arith)
      (λ i s l u h. bit_turn i s h) bit_start

-- ---- as sums over the bits

pub and_one : (x p : ℕ) → bit_and x (2 ^ p) ≡ bit_at x p * 2 ^ p
and_one x p = and_comm x (2 ^ p) ∙ and_pow p x

low_bits : (x m p : ℕ) → bit_and x (m % 2 ^ p) ≡ sum_to (λ k. bit_at m k * (bit_at x k * 2 ^ k)) p
unfolding sum_to
low_bits x m zero = ap (bit_and x) (mod-one m) ∙ and_zero_r x
low_bits x m (suc p) =
    ap (λ (n : ℕ). bit_and x (m % 2 ^ n)) (let e : suc p ≡ p + 1 = omega arith in e)
    ∙ and_next x m p
    ∙ omega (arith, low_bits x m p, ap (λ (n : ℕ). bit_at m p * n) (and_one x p))

-- what a mask of w bits keeps, bit by bit
pub and_bits : (w x m : ℕ) → m < 2 ^ w → bit_and x m ≡ sum_to (λ k. bit_at m k * (bit_at x k * 2 ^ k)) w
and_bits w x m h = ap (bit_and x) (sym (mod-eq_of_lt h)) ∙ low_bits x m w

module _ (w : ℕ) (hw : w ≤ 64) (x : ℕ) (es : List Entry) where
  low_total_bits : (p : ℕ)
      → Eqm (2 ^ w) (low_total x es p)
      (sum_to (λ k. bit_coeff w es k * (bit_at x k * 2 ^ k)) p)
  unfolding sum_to
  low_total_bits zero = eqm_of_eq (low_total_none x es)
  low_total_bits (suc p) =
      eqm_trans
      (eqm_of_eq
      (ap (low_total x es) (let e : suc p ≡ p + 1 = omega arith in e)
      ∙ low_total_next x es p))
      (eqm_add (low_total_bits p)
      (eqm_trans (eqm_mul_r (bit_and x (2 ^ p)) (eqm_sym (bit_coeff_lem w hw es p)))
      (eqm_of_eq (ap (λ (n : ℕ). bit_coeff w es p * n) (and_one x p)))))

-- what a group of live entries comes to, bit by bit
pub total_bits : (w : ℕ) → w ≤ 64 → (x : ℕ) (g : Group) → ((k : ℕ) → k < g.len → is_live (at g k) ≡ true)
    → ((k : ℕ) → k < g.len → (at g k).mask < 2 ^ w)
    → Eqm (2 ^ w) (total x g) (sum_to (λ k. bit_coeff w (used g) k * (bit_at x k * 2 ^ k)) w)
total_bits w hw x g live small =
    eqm_trans (eqm_of_eq (sym (low_total_all x g w live small)))
    (low_total_bits w hw x (used g) w)

-- the coefficient of a bit fits
pub bit_coeff_lt : (w : ℕ) → w ≤ 64 → (es : List Entry) (p : ℕ) → bit_coeff w es p < 2 ^ w
unfolding bit_coeff bit_coeff_at
bit_coeff_lt w hw es p =
    for_keeps (λ s. s < 2 ^ w) (bit_coeff_at w es p) 0 (length es) 0
    (λ i s l u h. turn (get_or es i blank).coeff s (eqb (bit_at (get_or es i blank).mask p) 1) h) (pow_pos w)
  where
    turn : (c s : ℕ) (b : Bool) → s < 2 ^ w → when b (λ _. mod_add s c w) (λ _. s) < 2 ^ w
    turn c s true h = mod_add_lt s c w hw
    turn c s false h = h
