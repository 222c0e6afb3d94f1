-- Laws of specs/Value.antt: the answer for refused bytes, for accepted ones, and for those of a valid form.
use mathlib.Core.Path.{◌≡◌, refl, sym, ◌∙◌}
use Prim.Native.Nat.{ℕ, ◌+◌, ◌%◌, ◌^◌}
use mathlib.Core.List.{List}
use mathlib.Core.Bool.{true}
use borrow.Author.Tests.{eq-eqb, ne_eqb}
use Rattle.record.specs.Fields.{width, literal}
use Rattle.record.specs.Span.{body}
use Rattle.semilinear.specs.Form.{Form, sum_rows, form_value, encode_form, valid_form}
use Rattle.semilinear.specs.Items.{after_atoms}
use Rattle.semilinear.specs.Valid.{semilinear_refusal}
use Rattle.semilinear.specs.DecodeForm.{rows_of, decode_form}
use Rattle.semilinear_value.specs.Value.{semilinear_value}
use Rattle.semilinear.proofs.AcceptLaws.{no_refusal}
use Rattle.semilinear.proofs.EncodeFormLaws.{form_decode, bytes_form}

pub form_value_refused : (s vars : List ℕ) → (semilinear_refusal s ≡ 0 → ⊥) → semilinear_value s vars ≡ 0
unfolding semilinear_value
form_value_refused s vars h = simp (ne_eqb (semilinear_refusal s) 0 h)

-- a number that is the sum of an accepted form's constant and rows is its value
module _ (s vars : List ℕ) (h : semilinear_refusal s ≡ 0) {w c : ℕ} {f : List ℕ} (ew : w ≡ width s) (ec : c ≡ literal s)
    (ef : f ≡ body s) where
  sum_accepted : semilinear_value s vars ≡ (c + sum_rows w vars (rows_of 0 f (after_atoms f))) % 2 ^ w
  unfolding semilinear_value form_value decode_form
  sum_accepted = rw (ew, ec, ef) (simp (eq-eqb (semilinear_refusal s) 0 h))

  pub form_value_accepted : {v : ℕ} → v ≡ (c + sum_rows w vars (rows_of 0 f (after_atoms f))) % 2 ^ w
      → v ≡ semilinear_value s vars
  form_value_accepted e = e ∙ sym sum_accepted

-- the value that the bytes of a valid form have
pub encoded_value : (f : Form) → valid_form f ≡ true → (vars : List ℕ)
    → semilinear_value (encode_form f) vars ≡ form_value vars f
unfolding semilinear_value
encoded_value f ok vars =
    let z : semilinear_refusal (encode_form f) ≡ 0 = (no_refusal (encode_form f) (bytes_form f ok)).1 (f, ok, refl) in
    simp (eq-eqb (semilinear_refusal (encode_form f)) 0 z, form_decode f ok)
