-- What a pass makes of a valid form (semilinear/specs/PassOutcome.antt): a valid form of the same width and value, with
-- new heads, or a refusal, which is not 0; 9 exactly where the table would pass its limits.
use mathlib.Core.Path.{◌≡◌, refl, ap, sym, ◌∙◌}
use Prim.Native.Nat.{ℕ, ◌<◌}
use native.Mathlib.Omega.{arith}
use native.Mathlib.Decide.{ℕ_discrete}
use mathlib.Core.Logic.{◌↔◌}
use mathlib.Core.List.{List}
use mathlib.Core.Bool.{Bool, true, false}
use Rattle.semilinear.specs.DecodeForm.{retired}
use Rattle.semilinear.specs.Form.{Form, new_rows, form_value, encode_form, fits_table, valid_form}
use Rattle.base.specs.Outcome.{Outcome, refused, refusal_of}
use Rattle.semilinear.specs.Outcome.{form_outcome}
use Rattle.semilinear.specs.PassOutcome.{pass_outcome, limit_outcome}
use Rattle.semilinear.proofs.FormLaws.{form_not_refused}
use Rattle.semilinear.proofs.EncodeFormLaws.{form_accept}
use Rattle.semilinear.proofs.RetiredLaws.{new_retired, value_retired, valid_retired, read_encode}
use Rattle.atom_table.proofs.PassLaws.{pass_slice, pass_accepted}

-- g has the width and the value of f
pub record KeptForm (f g : Form) : Type 0 where
  pub valid : valid_form g ≡ true
  pub wide : g.bitwidth ≡ f.bitwidth
  pub value : (vars : List ℕ) → form_value vars g ≡ form_value vars f

-- with new heads
pub data Made (f : Form) (o : Outcome) : Type 0 where
  made : (g : Form) (flag : Bool) → KeptForm f g → new_rows g.rows ≡ true → o ≡ form_outcome g flag → Made f o
  not_made : (n : ℕ) → 0 < n → o ≡ refused n → Made f o

-- a form that is given only where its table keeps the limits
module _ (f g : Form) (flag : Bool) where
  pub limit_made : (fits_table g.rows ≡ true → KeptForm f g) → new_rows g.rows ≡ true
      → Made f (limit_outcome g flag)
  unfolding limit_outcome
  limit_made k new = go (fits_table g.rows) refl
    where
      go : (b : Bool) → fits_table g.rows ≡ b → Made f (limit_outcome g flag)
      go true e = made g flag (k e) new (simp e)
      go false e = not_made 9 (omega arith) (simp e)

  -- refusal 9 exactly where it does not
  pub limit_nine : limit_outcome g flag ≡ refused 9 ↔ fits_table g.rows ≡ false
  unfolding limit_outcome refusal_of form_outcome
  limit_nine = (λ h. go (fits_table g.rows) refl h, λ e. simp e)
    where
      go : (b : Bool) → fits_table g.rows ≡ b → limit_outcome g flag ≡ refused 9 → b ≡ false
      go false e h = refl
      go true e h =
          let given : limit_outcome g flag ≡ form_outcome g flag = simp e in
          let z : ◌≡◌ {A = ℕ} 0 9 = ap refusal_of (sym given ∙ h) in
          absurd (omega (arith, z))

-- a call on the bytes of a valid form, of a pass that keeps every valid form with new heads
pub pass_made : (pass : Form → Outcome)
    → ((f : Form) → valid_form f ≡ true → new_rows f.rows ≡ true → Made f (pass f))
    → (f : Form) → valid_form f ≡ true → (len : ℕ) → Made f (pass_outcome pass (encode_form f) len)
pass_made pass keeps f ok len = go (ℕ_discrete len 57360)
  where
    same : len ≡ 57360 → pass_outcome pass (encode_form f) len ≡ pass (retired f)
    same e =
        pass_accepted pass (encode_form f) len (form_not_refused f ok) e (form_accept f ok) ∙ ap pass (read_encode f ok)

    go : Dec (len ≡ 57360) → Made f (pass_outcome pass (encode_form f) len)
    go (no n) = not_made 2 (omega arith) (pass_slice pass (encode_form f) len (form_not_refused f ok) n)
    go (yes e) = by_case (keeps (retired f) (valid_retired f ok) (new_retired f.rows))
      where
        by_case : Made (retired f) (pass (retired f)) → Made f (pass_outcome pass (encode_form f) len)
        by_case (made g flag k new q) =
            made g flag
            (record { valid = k.valid; wide = k.wide; value = λ vars. k.value vars ∙ value_retired vars f }) new
            (same e ∙ q)
        by_case (not_made n pos q) = not_made n pos (same e ∙ q)
