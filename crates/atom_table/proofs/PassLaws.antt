-- Laws of `pass_outcome` (semilinear/specs/PassOutcome.antt): what a pass gives, by the first test that decides; and what
-- the code of passes needs on the way.
use mathlib.Core.Path.{◌≡◌, refl, sym, subst}
use Prim.Native.Nat.{ℕ, ◌%◌, ◌≤◌}
use mathlib.Core.List.{List}
use mathlib.Core.Bool.{Bool, true, false, not}
use lib.ListN.{length}
use lib.Dec.{eqb, ltb}
use borrow.Author.Tests.{eq-eqb, ne_eqb, ltb-false}
use Rattle.base.specs.Choice.{when}
use Rattle.record.specs.Fields.{width}
use Rattle.record.specs.Tree.{record_bytes}
use Rattle.record.specs.Span.{body}
use Rattle.base.proofs.BoolLaws.{and_true, false_true}
use Rattle.semilinear.specs.Form.{Form, sum_bytes}
use Rattle.semilinear.specs.Valid.{length_refused, sum_ok, front_ok, is_semilinear}
use Rattle.semilinear.specs.DecodeForm.{read_form}
use Rattle.base.specs.Outcome.{Outcome, refused}
use Rattle.semilinear.specs.Answers.{InNumbers, GivesNumbers}
use Rattle.semilinear.specs.PassOutcome.{pass_outcome}

-- ---- a pass, by its refusals

module _ (pass : Form → Outcome) (s : List ℕ) (len : ℕ) where
  pub pass_length : length_refused s ≡ true → pass_outcome pass s len ≡ refused 1
  unfolding pass_outcome
  pass_length e = simp e

  pub pass_slice : length_refused s ≡ false → (len ≡ 57360 → ⊥) → pass_outcome pass s len ≡ refused 2
  unfolding pass_outcome
  pass_slice e n = simp (e, ne_eqb len 57360 n)

  pub pass_refused : length_refused s ≡ false → len ≡ 57360 → is_semilinear s ≡ false
      → pass_outcome pass s len ≡ refused 10
  unfolding pass_outcome
  pass_refused e n z = simp (e, eq-eqb len 57360 n, z)

  pub pass_accepted : length_refused s ≡ false → len ≡ 57360 → is_semilinear s ≡ true
      → pass_outcome pass s len ≡ pass (read_form s)
  unfolding pass_outcome
  pass_accepted e n z = simp (e, eq-eqb len 57360 n, z)

pub length_sum : (w c : ℕ) → length (sum_bytes w c) ≡ 16
unfolding sum_bytes record_bytes
length_sum w c = refl

-- ---- what the code needs on the way

pub semilinear_front : (s : List ℕ) → is_semilinear s ≡ true → front_ok (width s) (body s) ≡ true
unfolding is_semilinear
semilinear_front s e = (and_true (sum_ok s) (front_ok (width s) (body s)) e).1

-- an answer to one outcome is one to an equal outcome
pub gives_same : {o p : Outcome} → p ≡ o → (len : ℕ) (r : InNumbers) (out : List ℕ) → GivesNumbers o len r out
    → GivesNumbers p len r out
gives_same e len r out h = subst (λ (x : Outcome). GivesNumbers x len r out) (sym e) h

pub length_le : (s : List ℕ) → length_refused s ≡ false → length s ≤ 57360
unfolding length_refused
length_le s e = go (eqb (length s) 0) (ltb 57360 (length s)) refl e
  where
    go : (a b : Bool) → ltb 57360 (length s) ≡ b
        → when a (λ _. true) (λ _. when b (λ _. true) (λ _. not (eqb (length s % 16) 0))) ≡ false → length s ≤ 57360
    go true b p z = false_true (sym z)
    go false true p z = false_true (sym z)
    go false false p z = ltb-false 57360 (length s) p
