-- Every answer of `normalize_to_semilinear` without a refusal, by its contract alone: the used part of the result slice is
-- a form of the expression. First in numbers, then of what the function returns.
use mathlib.Core.Path.{◌≡◌, refl, ap, sym, ◌∙◌}
use Prim.Native.Nat.{ℕ}
use native.Mathlib.Omega.{arith}
use mathlib.Core.List.{List, [], ◌∷◌}
use lib.ListN.{length, get_or, take}
use Rattle.std.specs.Prelude.{Ok}
use Rattle.record.specs.Tree.{IsBytes}
use Rattle.base.specs.Put.{padded}
use Rattle.base.proofs.PutLaws.{take_padded}
use Rattle.base.specs.Outcome.{Outcome, accepted, refused, numbers_of, written_of}
use Rattle.semilinear.specs.declared.outcome.Answer.{Answer}
use Rattle.semilinear.specs.Answers.{InNumbers, GivesNumbers, GivesForm, in_numbers}
use Rattle.normalizer_laws.specs.Normalize.{normalize_to_semilinear}
use Rattle.normalizer_laws.proofs.NormalizeLaws.{normalize_form, normalize_value}
use Rattle.normalizer_laws.proofs.UsedLaws.{used_normalize}
use Rattle.claims.specs.Normalized.{FormOf}

module _ (s : List ℕ) (h : IsBytes s) (len : ℕ) (r : InNumbers) (out : List ℕ)
    (given : GivesNumbers (normalize_to_semilinear s len) len r out) (zero : r.refusal ≡ 0) where
  -- the numbers beside the refusal, by the outcome
  numbers_of_lem : {o : Outcome} → normalize_to_semilinear s len ≡ o
      → (r.used ≡ get_or (take 3 (numbers_of 3 o)) 0 0) × (r.terms ≡ get_or (take 3 (numbers_of 3 o)) 1 0)
  numbers_of_lem e =
      let all = given.beside ∙ ap (λ (x : Outcome). take 3 (numbers_of 3 x)) e in
      (ap (λ (l : List ℕ). get_or l 0 0) all, ap (λ (l : List ℕ). get_or l 1 0) all)

  pub form_of_numbers : FormOf s (take r.used out) r.terms
  unfolding numbers_of written_of
  form_of_numbers = go (normalize_to_semilinear s len) refl
    where
      go : (o : Outcome) → normalize_to_semilinear s len ≡ o → FormOf s (take r.used out) r.terms
      go (refused n) e =
          let none : r.used ≡ 0 = (numbers_of_lem e).0 in
          absurd (omega (arith, (used_normalize s len r out given).sum_record zero))
      go (accepted b ns) e =
          let n = normalize_form s h len b ns e in
          let numbers = ap (λ (l : List ℕ). take 3 l) n.counted in
          let used : r.used ≡ length b = (numbers_of_lem e).0 ∙ ap (λ (l : List ℕ). get_or l 0 0) numbers in
          let bytes : take r.used out ≡ b =
          ap (λ (k : ℕ). take k out) used
          ∙ ap (take (length b)) (given.written ∙ ap (written_of len) e)
          ∙ take_padded len b in
          record {
            form = n.form;
            encoded = bytes ∙ n.encoded;
            valid = n.valid;
            wide = n.wide;
            counted = (numbers_of_lem e).1 ∙ ap (λ (l : List ℕ). get_or l 1 0) numbers;
            value = λ vars. rw bytes (normalize_value s h len b ns e vars);
          }

pub form_of_answer : (s : List ℕ) → IsBytes s → (len : ℕ) (r : Answer) (out : List ℕ)
    → GivesForm (normalize_to_semilinear s len) len (Ok r) out → FormOf s (take r.used out) r.terms
form_of_answer s h len r out given = form_of_numbers s h len (in_numbers (Ok r)) out given refl
