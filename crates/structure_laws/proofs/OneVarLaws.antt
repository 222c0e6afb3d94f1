-- Atoms of one variable and without a Shr: each bit of the value is that at 0 or that at all ones, as the variable's
-- bit says. So the value is that at 0, with the bits passed added and the bits inverted taken away.
use mathlib.Core.Path.{◌≡◌, refl, ap, ap₂, sym, ◌∙◌}
use Prim.Native.Nat.{ℕ, zero, suc, ◌+◌, ◌-◌, ◌^◌, ◌<◌, min, max}
use native.Mathlib.Omega.{arith}
use native.Mathlib.Nat.{lt_of_le_of_lt}
use native.Mathlib.Decide.{dec_lt}
use mathlib.Core.List.{List, [], ◌∷◌, ◌++◌}
use mathlib.Core.Bool.{true, false, ◌||◌}
use lib.ListN.{length, get_or, replicate}
use lib.Bits.{bit_and, bit_or, and_le_l, or_lt, or_disjoint}
use lib.Dec.{T, eqb}
use lib.Pow.{pow_pos}
use borrow.Author.Tests.{eqb-true}
use Rattle.arith.specs.Bit.{bit_at}
use Rattle.arith.proofs.BitLaws.{bit_lt, bit_of_zero, bits_below_lem, bit_and_lem, bit_or_lem, bit_not, bit_ones, bit_mod}
use Rattle.arith.proofs.BitLaws.{same3, law3}
use Rattle.arith.proofs.MaskLaws.{and_below}
use Rattle.base.specs.Choice.{when}
use Rattle.base.specs.Lists.{elem}
use Rattle.record.specs.Tree.{Tree}
use Rattle.record.specs.Tree.Tree.{Variable}
use Rattle.base.proofs.BoolLaws.{false_true, or_cases}
use Rattle.expr_refusal.specs.Refusal.{is_expr}
use Rattle.expr_utils.specs.Utils.{has_shr}
use Rattle.expr.specs.Value.{value}
use Rattle.expr.specs.Vars.{occurs, no_var, next_var, support}
use Rattle.expr.proofs.ValueLaws.{value_lt}
use Rattle.expr.proofs.VarsLaws.{next_var_le, support_from, support_from_zero, support_from_next, support_from_end}
use Rattle.expr.proofs.SupportLaws.{next_var_occurs}
use Rattle.truth.proofs.BitwiseLaws.{Bitwise, bitwise_of_no_shift}
use Rattle.truth.proofs.BitOfLaws.{bit_value, bit_of_agree}
use Rattle.truth.proofs.TruthLaws.{occurs_support, no_shift}
use Rattle.semilinear.specs.Form.{is_atom_tree}
use Rattle.semilinear.proofs.AtomLaws.{tree_atom}
use Rattle.structure_laws.specs.FlattenComplexAtoms.{at_zero, at_ones}

-- ---- the variable

module _ (t : Tree) (one : length (support t) ≡ 1) where
  pub one_var_found : next_var 0 t < no_var
  one_var_found = go (dec_lt (next_var 0 t) no_var)
    where
      go : Dec (next_var 0 t < no_var) → next_var 0 t < no_var
      go (yes h) = h
      go (no h) =
          let none : support t ≡ [] =
          support_from_zero t ∙ support_from_end 0 t (omega (arith, next_var_le 0 t)) in
          absurd (omega (arith, ap length none, one))

  pub one_var_occurs : occurs (next_var 0 t) t ≡ true
  one_var_occurs = next_var_occurs 0 t refl one_var_found

  one_var_support : support t ≡ next_var 0 t ∷ []
  one_var_support = all ∙ ap (λ (l : List ℕ). next_var 0 t ∷ l) (none (support_from (next_var 0 t + 1) t) counted)
    where
      all : support t ≡ next_var 0 t ∷ support_from (next_var 0 t + 1) t
      all = support_from_zero t ∙ support_from_next 0 t one_var_found

      counted : length (next_var 0 t ∷ support_from (next_var 0 t + 1) t) ≡ 1
      counted = ap length (sym all) ∙ one

      none : (l : List ℕ) → length (next_var 0 t ∷ l) ≡ 1 → l ≡ []
      none [] e = refl
      none (x ∷ l) e = absurd (omega arith)

  -- no other occurs
  pub one_var_only : is_expr t ≡ true → (i : ℕ) → occurs i t ≡ true → i ≡ next_var 0 t
  unfolding elem
  one_var_only e i o =
      let there : eqb (next_var 0 t) i || false ≡ true =
      ap (elem i) (sym one_var_support) ∙ occurs_support t e i o in
      or_cases (eqb (next_var 0 t) i) false there (λ p. sym (eqb-true (next_var 0 t) i p)) false_true

-- ---- numbers by a choice of bits

-- the bit z where x is 0, else r
abbrev pub pick : ℕ → ℕ → ℕ → ℕ
pick x z r = when (eqb x 0) (λ _. z) (λ _. r)

module _ (w u x z r : ℕ) (hu : u < 2 ^ w) (hx : x < 2 ^ w) (hz : z < 2 ^ w) (hr : r < 2 ^ w)
    (picked : (p : ℕ) → p < w → bit_at u p ≡ pick (bit_at x p) (bit_at z p) (bit_at r p)) where
  -- the bits that x passes, and those that it inverts
  abbrev passed : ℕ
  passed = bit_and x (bit_and r (2 ^ w - 1 - z))

  abbrev inverted : ℕ
  inverted = bit_and x (bit_and z (2 ^ w - 1 - r))

  module _ (p : ℕ) (hp : p < w) where
    by_table : (f g : ℕ → ℕ → ℕ → ℕ) → T (same3 f g)
        → f (bit_at x p) (bit_at z p) (bit_at r p) ≡ g (bit_at x p) (bit_at z p) (bit_at r p)
    by_table f g t = law3 f g t (bit_at x p) (bit_at z p) (bit_at r p) (bit_lt x p) (bit_lt z p) (bit_lt r p)

    -- of a bit that x lets through where a is set and b is not
    bit_let : (a b : ℕ) → b < 2 ^ w
        → bit_at (bit_and x (bit_and a (2 ^ w - 1 - b))) p ≡ min (bit_at x p) (min (bit_at a p) (1 - bit_at b p))
    bit_let a b hb =
        bit_and_lem x (bit_and a (2 ^ w - 1 - b)) p
        ∙ ap (min (bit_at x p)) (bit_and_lem a (2 ^ w - 1 - b) p ∙ ap (min (bit_at a p)) (bit_not w b p hb hp))

    bit_union : bit_at (bit_or u inverted) p ≡ bit_at (bit_or z passed) p
    bit_union =
        bit_or_lem u inverted p
        ∙ ap₂ max (picked p hp) (bit_let z r hr)
        ∙ by_table (λ x z r. max (pick x z r) (min x (min z (1 - r)))) (λ x z r. max z (min x (min r (1 - z)))) tt
        ∙ ap (max (bit_at z p)) (sym (bit_let r z hz))
        ∙ sym (bit_or_lem z passed p)

    bit_apart_l : bit_at (bit_and u inverted) p ≡ bit_at 0 p
    bit_apart_l =
        bit_and_lem u inverted p
        ∙ ap₂ min (picked p hp) (bit_let z r hr)
        ∙ by_table (λ x z r. min (pick x z r) (min x (min z (1 - r)))) (λ x z r. 0) tt
        ∙ sym (bit_of_zero p)

    bit_apart_r : bit_at (bit_and z passed) p ≡ bit_at 0 p
    bit_apart_r =
        bit_and_lem z passed p
        ∙ ap (min (bit_at z p)) (bit_let r z hz)
        ∙ by_table (λ x z r. min z (min x (min r (1 - z)))) (λ x z r. 0) tt
        ∙ sym (bit_of_zero p)

  -- u and the bits inverted make z and the bits passed
  pub pick_sum : u + bit_and x (bit_and z (2 ^ w - 1 - r)) ≡ z + bit_and x (bit_and r (2 ^ w - 1 - z))
  pick_sum =
      let hp : passed < 2 ^ w = lt_of_le_of_lt (and_le_l x (bit_and r (2 ^ w - 1 - z))) hx in
      let hi : inverted < 2 ^ w = lt_of_le_of_lt (and_le_l x (bit_and z (2 ^ w - 1 - r))) hx in
      let apart-l : bit_and u inverted ≡ 0 =
      bits_below_lem w _ _ (and_below w u inverted hi) (pow_pos w) bit_apart_l in
      let apart-r : bit_and z passed ≡ 0 =
      bits_below_lem w _ _ (and_below w z passed hp) (pow_pos w) bit_apart_r in
      sym (or_disjoint u inverted apart-l)
      ∙ bits_below_lem w _ _ (or_lt w u inverted hu hi) (or_lt w z passed hz hp) bit_union
      ∙ or_disjoint z passed apart-r

-- ---- the value

pub at_zero_lt : (w : ℕ) (t : Tree) → at_zero w t < 2 ^ w
unfolding at_zero
at_zero_lt w t = value_lt w [] t

pub at_ones_lt : (w v : ℕ) (t : Tree) → at_ones w v t < 2 ^ w
unfolding at_ones
at_ones_lt w v t = value_lt w (replicate v 0 ++ ((2 ^ w - 1) ∷ [])) t

get_or_ones : (v m : ℕ) → get_or (replicate v 0 ++ (m ∷ [])) v 0 ≡ m
get_or_ones zero m = refl
get_or_ones (suc v) m = get_or_ones v m

module _ (w : ℕ) (vars : List ℕ) (t : Tree) (atom : is_atom_tree t ≡ true) (one : length (support t) ≡ 1)
    (shr : has_shr t ≡ false) where
  bitwise : Bitwise t
  bitwise =
      let a = tree_atom t atom in
      bitwise_of_no_shift t a.expr a.plain (no_shift t shr)

  -- assignments that agree on the variable's bit at a place give the same bit there
  bit_agree : (a b : List ℕ) (p : ℕ) → p < w → bit_at (get_or a (next_var 0 t) 0) p ≡ bit_at (get_or b (next_var 0 t) 0) p
      → bit_at (value w a t) p ≡ bit_at (value w b t) p
  bit_agree a b p hp e =
      bit_value w p hp a t bitwise
      ∙ bit_of_agree w p (λ i. bit_at (get_or a i 0) p) (λ i. bit_at (get_or b i 0) p) t same
      ∙ sym (bit_value w p hp b t bitwise)
    where
      same : (i : ℕ) → occurs i t ≡ true → bit_at (get_or a i 0) p ≡ bit_at (get_or b i 0) p
      same i o = rw (one_var_only t one bitwise.expr i o) e

  -- each bit of the value is that at 0 or that at all ones
  pub flatten_bit : (p : ℕ) → p < w
      → bit_at (value w vars t) p
      ≡ pick (bit_at (value w vars (Variable (next_var 0 t))) p) (bit_at (at_zero w t) p)
      (bit_at (at_ones w (next_var 0 t) t) p)
  unfolding value at_zero at_ones
  flatten_bit p hp = go (bit_at n p) (bit_lt n p) refl ∙ ap there (sym (bit_mod n w p hp))
    where
      n : ℕ
      n = get_or vars (next_var 0 t) 0

      raised : List ℕ
      raised = replicate (next_var 0 t) 0 ++ ((2 ^ w - 1) ∷ [])

      there : ℕ → ℕ
      there b = pick b (bit_at (value w [] t) p) (bit_at (value w raised t) p)

      go : (b : ℕ) → b < 2 → bit_at n p ≡ b → bit_at (value w vars t) p ≡ there b
      go zero h e = bit_agree vars [] p hp (e ∙ sym (bit_of_zero p))
      go (suc zero) h e =
          bit_agree vars raised p hp
          (e ∙ sym (ap (λ (m : ℕ). bit_at m p) (get_or_ones (next_var 0 t) (2 ^ w - 1)) ∙ bit_ones w p hp))
      go (suc (suc b)) h e = absurd (omega arith)

  -- the value and the bits that the variable inverts make the value at 0 and the bits that it passes
  pub flatten_atom : value w vars t
      + bit_and (value w vars (Variable (next_var 0 t)))
      (bit_and (at_zero w t) (2 ^ w - 1 - at_ones w (next_var 0 t) t))
      ≡ at_zero w t
      + bit_and (value w vars (Variable (next_var 0 t)))
      (bit_and (at_ones w (next_var 0 t) t) (2 ^ w - 1 - at_zero w t))
  flatten_atom =
      pick_sum w (value w vars t) (value w vars (Variable (next_var 0 t))) (at_zero w t) (at_ones w (next_var 0 t) t)
      (value_lt w vars t) (value_lt w vars (Variable (next_var 0 t))) (at_zero_lt w t) (at_ones_lt w (next_var 0 t) t)
      flatten_bit
