-- The value of a form under the assignment of a place and an index, by the sums of the place (specs/PlaceSum.antt), and
-- the test by which two forms that agree at all zeros are told apart.
use mathlib.Core.Path.{◌≡◌, refl, ap, sym, ◌∙◌}
use Prim.Native.Nat.{ℕ, zero, suc, ◌+◌, ◌*◌, ◌^◌, ◌≤◌, ◌<◌}
use native.Mathlib.Decide.{ℕ_discrete}
use native.Mathlib.Omega.{arith}
use mathlib.Core.List.{List, [], ◌∷◌}
use mathlib.Core.Bool.{Bool, true, false}
use lib.ListN.{get_or}
use lib.Dec.{eqb}
use lib.Pow.{pow_mono, pow_pos}
use Rattle.arith.specs.Bit.{bit_at}
use Rattle.arith.specs.Congruence.{Eqm}
use Rattle.arith.proofs.BitLaws.{bit_of_zero}
use Rattle.arith.proofs.CongruenceLaws.{eqm_of_eq, eqm_sym, eqm_trans, eqm_add, eqm_mod, eqm_cancel, eqm_small}
use Rattle.arith.proofs.CongruenceLaws.{eqm_refl}
use Rattle.base.specs.Choice.{when}
use Rattle.record.specs.Tree.{Tree}
use Rattle.expr.specs.Value.{value}
use Rattle.expr.proofs.ValueLaws.{value_lt}
use Rattle.truth.specs.Truth.{bit_of, row_bits}
use Rattle.truth.proofs.BitwiseLaws.{Bitwise}
use Rattle.truth.proofs.BitOfLaws.{bit_value, bit_of_agree, bit_of_lt}
use Rattle.truth.proofs.TruthLaws.{row_bits_lt}
use Rattle.semilinear.specs.Form.{Row, Form, sum_rows, form_value, rows_ok}
use Rattle.semilinear.proofs.AtomLaws.{tree_atom}
use Rattle.semilinear.proofs.FormLaws.{rows_cons}
use Rattle.judge_laws.specs.Judge.{single}
use Rattle.judge_laws.specs.PlaceSum.{place_sum, RowsUnshifted}
use Rattle.judge_laws.proofs.SwapLaws.{bits_sum}
use Rattle.judge_laws.proofs.PlacesLaws.{bit_there, bit_elsewhere}
use Rattle.judge_laws.proofs.SingleLaws.{single_word}

-- index 0 gives every variable 0
pub row_zero : (place : ℕ) (vs : List ℕ) (v : ℕ) → row_bits place vs 0 v ≡ 0
unfolding row_bits
row_zero place [] v = refl
row_zero place (x ∷ vs) v = go (eqb x v) (row_zero (place + 1) vs v)
  where
    go : (b : Bool) → row_bits (place + 1) vs 0 v ≡ 0
        → when b (λ _. bit_at 0 place) (λ _. row_bits (place + 1) vs 0 v) ≡ 0
    go true h = bit_of_zero place
    go false h = h

-- a bit of w bits, at place p below w
scaled_lt : (w p d : ℕ) → p < w → d < 2 → d * 2 ^ p < 2 ^ w
scaled_lt w p d hp hd =
    let h : 2 ^ suc p ≤ 2 ^ w = pow_mono hp in
    go d hd (omega (arith, h))
  where
    go : (d : ℕ) → d < 2 → 2 * 2 ^ p ≤ 2 ^ w → d * 2 ^ p < 2 ^ w
    go zero l h = omega (arith, pow_pos p)
    go (suc zero) l h = omega (arith, pow_pos p)
    go (suc (suc d)) l h = absurd (omega arith)

-- ---- one atom

module _ (w p : ℕ) (hp : p < w) (vs : List ℕ) (i : ℕ) (t : Tree) (b : Bitwise t) where
  -- its bit at the place, under index k
  abbrev bit : ℕ → ℕ
  bit k = bit_of w p (row_bits 0 vs k) t

  bit_small : (k : ℕ) → bit k < 2
  bit_small k = bit_of_lt w p (row_bits 0 vs k) t (row_bits_lt 0 vs k)

  -- at the place it is that of the index; with all zeros that of index 0
  here : bit_at (value w (single vs p i) t) p ≡ bit i
  here =
      bit_value w p hp (single vs p i) t b
      ∙ bit_of_agree w p (λ v. bit_at (get_or (single vs p i) v 0) p) (row_bits 0 vs i) t
      (λ v _. ap (λ (n : ℕ). bit_at n p) (single_word vs p i v) ∙ bit_there p (row_bits 0 vs i v) (row_bits_lt 0 vs i v))

  none_here : bit_at (value w [] t) p ≡ bit 0
  none_here =
      bit_value w p hp [] t b
      ∙ bit_of_agree w p (λ v. bit_at 0 p) (row_bits 0 vs 0) t (λ v _. bit_of_zero p ∙ sym (row_zero 0 vs v))

  -- elsewhere the index does not count
  elsewhere : (q : ℕ) → q < w → (q ≡ p → ⊥) → bit_at (value w (single vs p i) t) q ≡ bit_at (value w [] t) q
  elsewhere q hq n =
      bit_value w q hq (single vs p i) t b
      ∙ bit_of_agree w q (λ v. bit_at (get_or (single vs p i) v 0) q) (λ v. bit_at 0 q) t
      (λ v _. ap (λ (m : ℕ). bit_at m q) (single_word vs p i v)
      ∙ bit_elsewhere p q (row_bits 0 vs i v) n (row_bits_lt 0 vs i v)
      ∙ sym (bit_of_zero q))
      ∙ sym (bit_value w q hq [] t b)

  atom_single : value w (single vs p i) t + bit 0 * 2 ^ p ≡ value w [] t + bit i * 2 ^ p
  atom_single =
      bits_sum w (value w (single vs p i) t) (bit 0 * 2 ^ p) (value w [] t) (bit i * 2 ^ p)
      (value_lt w (single vs p i) t) (scaled_lt w p (bit 0) hp (bit_small 0)) (value_lt w [] t)
      (scaled_lt w p (bit i) hp (bit_small i)) (λ q hq. at_place q hq (ℕ_discrete q p))
    where
      at_place : (q : ℕ) → q < w → Dec (q ≡ p)
          → bit_at (value w (single vs p i) t) q + bit_at (bit 0 * 2 ^ p) q
          ≡ bit_at (value w [] t) q + bit_at (bit i * 2 ^ p) q
      at_place q hq (yes e) =
          rw e
          (omega (arith, here, none_here, bit_there p (bit 0) (bit_small 0), bit_there p (bit i) (bit_small i)))
      at_place q hq (no n) =
          omega (
            arith,
            elsewhere q hq n,
            bit_elsewhere p q (bit 0) n (bit_small 0),
            bit_elsewhere p q (bit i) n (bit_small i),
          )

-- ---- a form

module _ (w p : ℕ) (hp : p < w) (vs : List ℕ) (i : ℕ) where
  rows_single : (l : List Row) → rows_ok w l ≡ true → RowsUnshifted l
      → sum_rows w (single vs p i) l + place_sum w p vs 0 l * 2 ^ p ≡ sum_rows w [] l + place_sum w p vs i l * 2 ^ p
  unfolding sum_rows place_sum RowsUnshifted
  rows_single [] ok u = refl
  rows_single (x ∷ l) ok u =
      let c = rows_cons w x l ok in
      let a = tree_atom x.tree c.0.atom in
      let one =
      atom_single w p hp vs i x.tree (record { expr = a.expr; no_arith = a.plain; no_shift = u.0 }) in
      omega (arith, ap (λ (n : ℕ). x.coeff * n) one, rows_single l c.1 u.1)

-- a form whose rows have no non-zero shift over a variable
pub record Places (f : Form) : Type 0 where
  pub ok : rows_ok f.bitwidth f.rows ≡ true
  pub unshifted : RowsUnshifted f.rows

pub form_single : (f : Form) → Places f → (vs : List ℕ) (p i : ℕ) → p < f.bitwidth
    → Eqm (2 ^ f.bitwidth)
    (form_value (single vs p i) f + place_sum f.bitwidth p vs 0 f.rows * 2 ^ p)
    (form_value [] f + place_sum f.bitwidth p vs i f.rows * 2 ^ p)
unfolding form_value
form_single f h vs p i hp =
    let w : ℕ = f.bitwidth in
    let c : ℕ = f.constant in
    let rows = rows_single w p hp vs i f.rows h.ok h.unshifted in
    let s : ℕ = place_sum w p vs 0 f.rows * 2 ^ p in
    let r : ℕ = place_sum w p vs i f.rows * 2 ^ p in
    eqm_trans (eqm_add (eqm_mod (2 ^ w) (c + sum_rows w (single vs p i) f.rows)) (eqm_refl s))
    (eqm_trans (eqm_of_eq (omega (arith, rows)))
    (eqm_sym (eqm_add (eqm_mod (2 ^ w) (c + sum_rows w [] f.rows)) (eqm_refl r))))

-- ---- two forms

-- numbers v and u that, with multiples of q, come to the same number z: they are equal exactly when the multiples are,
-- crossed
module _ {M : ℕ} (v u z a₀ a b₀ b q : ℕ) (hv : Eqm M (v + a₀ * q) (z + a * q))
    (hu : Eqm M (u + b₀ * q) (z + b * q)) where
  pub crossed_of_same : v ≡ u → Eqm M ((a + b₀) * q) ((b + a₀) * q)
  crossed_of_same e =
      eqm_cancel (z + u)
      (eqm_trans (eqm_of_eq (omega arith))
      (eqm_trans (eqm_add (eqm_sym hv) hu) (eqm_of_eq (omega arith))))

  pub same_of_crossed : v < M → u < M → Eqm M ((a + b₀) * q) ((b + a₀) * q) → v ≡ u
  same_of_crossed lv lu e =
      eqm_small lv lu
      (eqm_cancel (a₀ * q + b₀ * q)
      (eqm_trans (eqm_of_eq (omega arith))
      (eqm_trans (eqm_add hv (eqm_refl (b₀ * q)))
      (eqm_trans (eqm_of_eq (omega arith))
      (eqm_trans (eqm_add (eqm_refl z) e)
      (eqm_trans (eqm_of_eq (omega arith))
      (eqm_trans (eqm_add (eqm_sym hu) (eqm_refl (a₀ * q))) (eqm_of_eq (omega arith)))))))))
