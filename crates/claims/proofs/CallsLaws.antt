-- Any list of calls of the five passes keeps the value: from a valid form, and so from any expression that normalising
-- accepts (specs/Calls.antt). By induction on the list; a refused call changes nothing, and no hash is a premise.
use mathlib.Core.Path.{◌≡◌, refl, ap, sym, ◌∙◌}
use Prim.Native.Nat.{ℕ}
use mathlib.Core.List.{List, [], ◌∷◌}
use mathlib.Core.Bool.{true, false}
use Rattle.record.specs.Tree.{IsBytes}
use Rattle.expr.specs.ExprValue.{expr_value}
use Rattle.semilinear.specs.Form.{Form, new_rows, encode_form, valid_form}
use Rattle.base.specs.Outcome.{Outcome, accepted, refused}
use Rattle.semilinear.specs.Outcome.{form_outcome}
use Rattle.semilinear_value.specs.Value.{semilinear_value}
use Rattle.compaction.specs.Compact.{compact_atom_table}
use Rattle.semilinear.specs.PassOutcome.{limit_outcome}
use Rattle.semilinear.proofs.FormLaws.{form_not_refused}
use Rattle.atom_table.proofs.PassLaws.{pass_slice}
use Rattle.semilinear_value.proofs.ValueLaws.{encoded_value}
use Rattle.atom_table.proofs.MadeLaws.{KeptForm, Made, made, not_made, limit_made, pass_made}
use Rattle.compaction.proofs.CompactedLaws.{compact_made}
use Rattle.normalizer_laws.specs.Normalize.{normalize_to_semilinear}
use Rattle.rules_laws.specs.Rules.{normalize_by_rules}
use Rattle.rules_laws.proofs.RulesLaws.{rules_form}
use Rattle.normalizer_laws.proofs.NormalizeLaws.{Normalized, normalize_form}
use Rattle.refiner_laws.specs.RefineTerms.{refine_form, refine_terms}
use Rattle.refiner_laws.proofs.RefineFormLaws.{value_refine, valid_refine, new_refine}
use Rattle.structure_laws.specs.RecoverStructure.{recover_form, recover_structure}
use Rattle.structure_laws.specs.CoalesceTerms.{coalesce_form, coalesce_terms}
use Rattle.structure_laws.specs.FlattenComplexAtoms.{flattened, flatten_form, flatten_complex_atoms}
use Rattle.pairing.proofs.RecoverLaws.{value_recover, valid_recover, new_recover, width_recover}
use Rattle.structure_laws.proofs.CoalesceLaws.{value_coalesce, valid_coalesce, new_coalesce}
use Rattle.structure_laws.proofs.FlattenLaws.{value_flatten, valid_flatten}
use Rattle.structure_laws.proofs.HeadsLaws.{new_flatten}
use Rattle.claims.specs.Calls.{Pass, Call, refine_terms_pass, recover_structure_pass, coalesce_terms_pass}
use Rattle.claims.specs.Calls.{flatten_complex_atoms_pass, compact_atom_table_pass, pass_gives, use_of, after_call, in_use}
use Rattle.claims.specs.Calls.{SameValue}

-- ---- one call

refine_made : (f : Form) → valid_form f ≡ true → (len : ℕ) → Made f (refine_terms (encode_form f) len)
unfolding refine_terms refine_form
refine_made =
    pass_made (λ f. limit_outcome (refine_form f) false)
    (λ f ok new. limit_made f (refine_form f) false
    (λ fits. record { valid = valid_refine f ok fits; wide = refl; value = value_refine f ok })
    (new_refine f ok new))

flatten_made : (f : Form) → valid_form f ≡ true → (len : ℕ) → Made f (flatten_complex_atoms (encode_form f) len)
unfolding flatten_complex_atoms flatten_form
flatten_made =
    pass_made (λ f. limit_outcome (flatten_form f) (flattened f).flag)
    (λ f ok new. limit_made f (flatten_form f) (flattened f).flag
    (λ fits. record { valid = valid_flatten f ok fits; wide = refl; value = λ vars. value_flatten vars f ok })
    (new_flatten f new))

recover_made : (f : Form) → valid_form f ≡ true → (len : ℕ) → Made f (recover_structure (encode_form f) len)
unfolding recover_structure
recover_made =
    pass_made (λ f. limit_outcome (recover_form f) false)
    (λ f ok new. limit_made f (recover_form f) false
    (λ fits. record {
      valid = valid_recover f ok fits;
      wide = width_recover f ok;
      value = λ vars. value_recover vars f ok;
    })
    (new_recover f ok new))

coalesce_made : (f : Form) → valid_form f ≡ true → (len : ℕ) → Made f (coalesce_terms (encode_form f) len)
unfolding coalesce_terms coalesce_form
coalesce_made =
    pass_made (λ f. limit_outcome (coalesce_form f) false)
    (λ f ok new. limit_made f (coalesce_form f) false
    (λ fits. record { valid = valid_coalesce f ok fits; wide = refl; value = λ vars. value_coalesce vars f ok })
    (new_coalesce f ok new))

module _ (f : Form) (ok : valid_form f ≡ true) (len : ℕ) where
  pub pass_keeps : (p : Pass) → Made f (pass_gives p (encode_form f) len)
  unfolding pass_gives
  pass_keeps refine_terms_pass = refine_made f ok len
  pass_keeps recover_structure_pass = recover_made f ok len
  pass_keeps coalesce_terms_pass = coalesce_made f ok len
  pass_keeps flatten_complex_atoms_pass = flatten_made f ok len
  pass_keeps compact_atom_table_pass = compact_made f ok len

  -- a result slice of another length is refused
  pub pass_two : (p : Pass) → (len ≡ 57360 → ⊥) → pass_gives p (encode_form f) len ≡ refused 2
  unfolding pass_gives refine_terms recover_structure coalesce_terms flatten_complex_atoms compact_atom_table
  pass_two refine_terms_pass = pass_slice _ (encode_form f) len (form_not_refused f ok)
  pass_two recover_structure_pass = pass_slice _ (encode_form f) len (form_not_refused f ok)
  pass_two coalesce_terms_pass = pass_slice _ (encode_form f) len (form_not_refused f ok)
  pass_two flatten_complex_atoms_pass = pass_slice _ (encode_form f) len (form_not_refused f ok)
  pass_two compact_atom_table_pass = pass_slice _ (encode_form f) len (form_not_refused f ok)

-- ---- any list of calls

-- the bytes t are those of a valid form with the value of f
pub record InUse (f : Form) (t : List ℕ) : Type 0 where
  pub form : Form
  pub encoded : t ≡ encode_form form
  pub kept : KeptForm f form
  pub new : new_rows f.rows ≡ true → new_rows form.rows ≡ true

pub call_keeps : (f : Form) → valid_form f ≡ true → (c : Call) → InUse f (after_call c (encode_form f))
unfolding after_call use_of form_outcome
call_keeps f ok c = go (pass_gives c.pass (encode_form f) c.len) (pass_keeps f ok c.len c.pass)
  where
    go : (o : Outcome) → Made f o → InUse f (use_of (encode_form f) o)
    go o (made g flag k new e) =
        record { form = g; encoded = ap (use_of (encode_form f)) e; kept = k; new = λ _. new }
    go o (not_made n pos e) =
        record {
          form = f;
          encoded = ap (use_of (encode_form f)) e;
          kept = record { valid = ok; wide = refl; value = λ vars. refl };
          new = λ h. h;
        }

pub list_keeps : (calls : List Call) (f : Form) → valid_form f ≡ true → InUse f (in_use calls (encode_form f))
unfolding in_use
list_keeps [] f ok =
    record {
      form = f;
      encoded = refl;
      kept = record { valid = ok; wide = refl; value = λ vars. refl };
      new = λ h. h;
    }
list_keeps (c ∷ l) f ok =
    let one = call_keeps f ok c in
    let rest = list_keeps l one.form one.kept.valid in
    record {
      form = rest.form;
      encoded = ap (in_use l) one.encoded ∙ rest.encoded;
      kept =
          record {
            valid = rest.kept.valid;
            wide = rest.kept.wide ∙ one.kept.wide;
            value = λ vars. rest.kept.value vars ∙ one.kept.value vars;
          };
      new = λ h. rest.new (one.new h);
    }

-- after any list of calls from the bytes of a valid form
pub any_calls : (calls : List Call) (f : Form) → valid_form f ≡ true
    → SameValue (encode_form f) (in_use calls (encode_form f))
any_calls calls f ok =
    let r = list_keeps calls f ok in
    record {
      form = r.form;
      encoded = r.encoded;
      valid = r.kept.valid;
      value = λ vars.
          ap (λ (t : List ℕ). semilinear_value t vars) r.encoded
          ∙ encoded_value r.form r.kept.valid vars
          ∙ r.kept.value vars
          ∙ sym (encoded_value f ok vars);
    }

-- and so from any expression that normalising accepts: the value is the expression's; by either rules (request #109)
from_normal : {s bytes numbers : List ℕ} → Normalized s bytes numbers → (calls : List Call) (vars : List ℕ)
    → semilinear_value (in_use calls bytes) vars ≡ expr_value s vars
from_normal n calls vars =
    let a = any_calls calls n.form n.valid in
    ap (λ (t : List ℕ). semilinear_value (in_use calls t) vars) n.encoded
    ∙ a.value vars
    ∙ encoded_value n.form n.valid vars
    ∙ n.kept vars

pub any_calls_expr : (s : List ℕ) → IsBytes s → (len : ℕ) (bytes numbers : List ℕ)
    → normalize_to_semilinear s len ≡ accepted bytes numbers → (calls : List Call) (vars : List ℕ)
    → semilinear_value (in_use calls bytes) vars ≡ expr_value s vars
any_calls_expr s h len bytes numbers e = from_normal (normalize_form s h len bytes numbers e)

pub any_calls_rules : (rules : ℕ) (s : List ℕ) → IsBytes s → (len : ℕ) (bytes numbers : List ℕ)
    → normalize_by_rules rules s len ≡ accepted bytes numbers → (calls : List Call) (vars : List ℕ)
    → semilinear_value (in_use calls bytes) vars ≡ expr_value s vars
any_calls_rules rules s h len bytes numbers e = from_normal (rules_form rules s len h bytes numbers e)
