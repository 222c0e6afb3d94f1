-- Two forms whose atoms shift no variable, compared by the sums of their places (specs/Forms.antt): the search by sums
-- finds what the definition says.
use mathlib.Core.Path.{◌≡◌, refl, ap, ap₂, sym, subst, ◌∙◌}
use Prim.Native.Nat.{ℕ, ◌+◌, ◌*◌, ◌%◌, ◌^◌, ◌≤◌, ◌<◌}
use native.Mathlib.Nat.{zero-mul, one-mul}
use native.Mathlib.Decide.{ℕ_discrete}
use native.Mathlib.Omega.{arith}
use mathlib.Core.List.{List, []}
use mathlib.Core.Bool.{true, not}
use lib.ListN.{length, take, replicate, length-take}
use lib.Dec.{eqb, lit<}
use lib.Pow.{pow_pos, pow_mono, shl_exact}
use borrow.Author.Tests.{eq-eqb, ne_eqb}
use Rattle.arith.specs.Congruence.{Eqm}
use Rattle.arith.proofs.CongruenceLaws.{eqm_of_eq, eqm_trans}
use Rattle.record.specs.Fields.{width, literal}
use Rattle.record.specs.Span.{body}
use Rattle.record.specs.Tree.{IsBytes}
use Rattle.semilinear.specs.Form.{Row, Form, form_value}
use Rattle.semilinear.specs.Valid.{atoms_ok, semilinear_refusal}
use Rattle.semilinear.specs.DecodeForm.{decode_form}
use Rattle.semilinear.proofs.AcceptLaws.{accepted_semilinear, no_refusal}
use Rattle.semilinear.proofs.EncodeFormLaws.{form_decode, bytes_form}
use Rattle.semilinear.proofs.FormLaws.{Valid, form_parts}
use Rattle.semilinear.proofs.ValidLaws.{SumParts, semilinear_parts}
use Rattle.semilinear_value.specs.Value.{semilinear_value}
use Rattle.semilinear_value.proofs.ValueLaws.{encoded_value}
use Rattle.judge_laws.specs.declared.Verdict.{Verdict}
use Rattle.judge_laws.specs.Judge.{form_side, single, differs, verdict, compared}
use Rattle.judge_laws.specs.PlaceSum.{place_sum}
use Rattle.judge_laws.proofs.CompareLaws.{compared_nowhere, compared_first}
use Rattle.judge_laws.proofs.SingleLaws.{single_word}
use Rattle.judge_laws.proofs.SoundLaws.{Sound, form_sound}
use Rattle.judge_laws.proofs.PlaceSumLaws.{Places, row_zero, form_single, crossed_of_same, same_of_crossed}
use Rattle.judge.specs.Sums.{form_rows}
use Rattle.judge.specs.Forms.{Unshifted, Comparable}
use Rattle.judge.specs.Found.{unlike_rows, Found, nowhere, first_at}

-- ---- one form

module _ (w : ℕ) (f : List ℕ) (h : Unshifted w f) where
  pub accepted_form : semilinear_refusal f ≡ 0
  accepted_form =
      ap semilinear_refusal h.encoded
      ∙ (no_refusal _ (bytes_form h.form h.valid)).1 (h.form, h.valid, refl)

  valid_form_lem : Valid h.form
  valid_form_lem = form_parts h.form h.valid

  form_is : decode_form f ≡ h.form
  form_is = ap decode_form h.encoded ∙ form_decode h.form h.valid

  pub form_width : w ≡ width f
  unfolding decode_form
  form_width = sym (ap (λ (x : Form). x.bitwidth) form_is ∙ h.wide)

  pub form_wide : w ≤ 64
  form_wide = omega (arith, h.wide, valid_form_lem.width_le)

  pub form_pos : 1 ≤ w
  form_pos = omega (arith, h.wide, valid_form_lem.width_pos)

  rows_are : form_rows (body f) ≡ h.form.rows
  unfolding decode_form
  rows_are = ap (λ (x : Form). x.rows) form_is

  parts : SumParts f
  parts = (semilinear_parts f (accepted_semilinear f accepted_form)).0

  pub form_big : 16 ≤ length f
  form_big = parts.big

  pub form_fits : literal f < 2 ^ w
  form_fits = rw form_width parts.fits

  pub form_atoms : atoms_ok w (body f) ≡ true
  form_atoms = rw form_width (semilinear_parts f (accepted_semilinear f accepted_form)).1.atoms

  pub value_is : (vars : List ℕ) → semilinear_value f vars ≡ form_value vars h.form
  value_is vars =
      ap (λ (s : List ℕ). semilinear_value s vars) h.encoded ∙ encoded_value h.form h.valid vars

  sound : Sound (form_side f)
  sound = form_sound f (subst IsBytes (sym h.encoded) (bytes_form h.form h.valid)) accepted_form

  value_lt : (vars : List ℕ) → semilinear_value f vars < 2 ^ w
  value_lt vars = rw form_width (sound.small vars)

  -- all zeros is the assignment of place 0 and index 0
  zeros : (vs : List ℕ) → semilinear_value f (single vs 0 0) ≡ semilinear_value f []
  zeros vs =
      sound.depends (single vs 0 0) []
      (λ v _. ap (λ (n : ℕ). n % 2 ^ width f)
      (single_word vs 0 0 v ∙ ap (λ (d : ℕ). d * 2 ^ 0) (row_zero 0 vs v) ∙ zero-mul (2 ^ 0)))

  -- its value under the assignment of a place and an index, by the sums of the place
  value_single : (vs : List ℕ) (p i : ℕ) → p < w
      → Eqm (2 ^ w) (semilinear_value f (single vs p i) + place_sum w p vs 0 (form_rows (body f)) * 2 ^ p)
      (semilinear_value f [] + place_sum w p vs i (form_rows (body f)) * 2 ^ p)
  value_single vs p i hp =
      let form : Form = h.form in
      let places : Places form = record { ok = valid_form_lem.rows_ok_lem; unshifted = h.unshifted } in
      let there : Eqm (2 ^ w) (form_value (single vs p i) form + place_sum w p vs 0 form.rows * 2 ^ p)
      (form_value [] form + place_sum w p vs i form.rows * 2 ^ p) =
      subst (λ (k : ℕ). Eqm (2 ^ k) (form_value (single vs p i) form + place_sum k p vs 0 form.rows * 2 ^ p)
      (form_value [] form + place_sum k p vs i form.rows * 2 ^ p)) h.wide
      (form_single form places vs p i (omega (arith, h.wide))) in
      eqm_trans
      (eqm_of_eq
      (ap₂ (λ (v : ℕ) (l : List Row). v + place_sum w p vs 0 l * 2 ^ p) (value_is (single vs p i)) rows_are))
      (eqm_trans there
      (eqm_of_eq
      (ap₂ (λ (v : ℕ) (l : List Row). v + place_sum w p vs i l * 2 ^ p) (sym (value_is [])) (sym rows_are))))

-- a part of a slice has the length that is asked for
pub room_take : (n : ℕ) (l : List ℕ) → n ≤ length l → n ≡ length (take n l)
room_take n l h = omega (arith, length-take n l)

-- ---- two forms

module _ (w : ℕ) (f g vs : List ℕ) (h : Comparable w f g vs) where
  -- the count of indices, as a shift gives it, and room for so many
  pub count_shift : 1 * 2 ^ length vs % 2 ^ 64 ≡ 2 ^ length vs
  count_shift =
      shl_exact {a = 1} 1 (length vs) 64 (lit< tt) (omega (arith, h.few)) ∙ one-mul (2 ^ length vs)

  pub count_le : 1 * 2 ^ length vs % 2 ^ 64 ≤ 32
  count_le = let m : 2 ^ length vs ≤ 2 ^ 5 = pow_mono h.few in omega (arith, count_shift)

  pub count_room : 1 * 2 ^ length vs % 2 ^ 64 ≡ length (take (1 * 2 ^ length vs % 2 ^ 64) (replicate {A = ℕ} 32 0))
  count_room = room_take (1 * 2 ^ length vs % 2 ^ 64) (replicate {A = ℕ} 32 0) count_le

  -- they differ at all zeros
  zeros_differ : (semilinear_value f [] ≡ semilinear_value g [] → ⊥)
      → differs (semilinear_value f) (semilinear_value g) vs 0 0 ≡ true
  unfolding differs
  zeros_differ n =
      ap not (ne_eqb _ _ (λ e. n (sym (zeros w f h.left vs) ∙ e ∙ zeros w g h.right vs)))

  pub zeros_compared : (semilinear_value f [] ≡ semilinear_value g [] → ⊥)
      → verdict 0 0 0 0 ≡ compared w vs (semilinear_value f) (semilinear_value g)
  zeros_compared n =
      compared_first w vs (semilinear_value f) (semilinear_value g) 0 0 (omega (arith, form_pos w f h.left))
      (pow_pos (length vs)) (zeros_differ n) (λ q k. absurd (omega arith)) (λ j k. absurd (omega arith))

  -- the test by sums is the definition's, where all zeros agree
  module _ (zero : semilinear_value f [] ≡ semilinear_value g []) where
    rows_l : List Row
    rows_l = form_rows (body f)

    rows_r : List Row
    rows_r = form_rows (body g)

    module _ (p i : ℕ) (hp : p < w) where
      abbrev at : List ℕ
      at = single vs p i

      sum : List Row → ℕ → ℕ
      sum rows k = place_sum w p vs k rows

      left_sum : Eqm (2 ^ w) (semilinear_value f at + sum rows_l 0 * 2 ^ p) (semilinear_value f [] + sum rows_l i * 2 ^ p)
      unfolding sum rows_l
      left_sum = value_single w f h.left vs p i hp

      right_sum : Eqm (2 ^ w) (semilinear_value g at + sum rows_r 0 * 2 ^ p)
          (semilinear_value f [] + sum rows_r i * 2 ^ p)
      unfolding sum rows_r
      right_sum =
          subst (λ (n : ℕ). Eqm (2 ^ w)
          (semilinear_value g at + place_sum w p vs 0 (form_rows (body g)) * 2 ^ p)
          (n + place_sum w p vs i (form_rows (body g)) * 2 ^ p)) (sym zero) (value_single w g h.right vs p i hp)

      test_is : unlike_rows w vs (form_rows (body f)) (form_rows (body g)) p i
          ≡ differs (semilinear_value f) (semilinear_value g) vs p i
      unfolding unlike_rows differs sum rows_l rows_r
      test_is = go (ℕ_discrete (semilinear_value f at) (semilinear_value g at))
        where
          go : Dec (semilinear_value f at ≡ semilinear_value g at)
              → not
              (eqb ((sum rows_l i + sum rows_r 0) * 2 ^ p % 2 ^ w) ((sum rows_r i + sum rows_l 0) * 2 ^ p % 2 ^ w))
              ≡ not (eqb (semilinear_value f at) (semilinear_value g at))
          go (yes e) =
              let c =
              crossed_of_same (semilinear_value f at) (semilinear_value g at) (semilinear_value f []) (sum rows_l 0)
              (sum rows_l i) (sum rows_r 0) (sum rows_r i) (2 ^ p) left_sum right_sum e in
              ap not (eq-eqb _ _ c.eqm ∙ sym (eq-eqb _ _ e))
          go (no n) =
              ap not
              (ne_eqb _ _
              (λ q. n
              (same_of_crossed (semilinear_value f at) (semilinear_value g at) (semilinear_value f []) (sum rows_l 0)
              (sum rows_l i) (sum rows_r 0) (sum rows_r i) (2 ^ p) left_sum right_sum (value_lt w f h.left at)
              (value_lt w g h.right at) (record { eqm = q })))
              ∙ sym (ne_eqb _ _ n))

    -- what is found by sums is the outcome
    pub found_compared : {n : ℕ} {v : Verdict} → n ≡ 2 ^ length vs
        → Found (unlike_rows w vs (form_rows (body f)) (form_rows (body g))) w n v
        → v ≡ compared w vs (semilinear_value f) (semilinear_value g)
    found_compared {n} {v} en x = go x
      where
        go : Found (unlike_rows w vs (form_rows (body f)) (form_rows (body g))) w n v
            → v ≡ compared w vs (semilinear_value f) (semilinear_value g)
        go (nowhere e all) =
            e
            ∙ compared_nowhere w vs (semilinear_value f) (semilinear_value g)
            (λ p hp i hi. sym (test_is p i hp) ∙ all p hp i (omega (arith, en)))
        go (first_at p i e hp hi t places before) =
            e
            ∙ compared_first w vs (semilinear_value f) (semilinear_value g) p i hp (omega (arith, en))
            (sym (test_is p i hp) ∙ t)
            (λ q k j u. sym (test_is q j (omega arith)) ∙ places q k j (omega (arith, en)))
            (λ j k. sym (test_is p j hp) ∙ before j k)
