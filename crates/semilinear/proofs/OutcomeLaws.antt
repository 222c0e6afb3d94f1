-- How a writer shows what it hands over: a refusal by the zeros, a form by its bytes with zeros behind.
use mathlib.Core.Path.{◌≡◌, refl, ap, ◌∙◌}
use Prim.Native.Nat.{ℕ}
use mathlib.Core.List.{List, [], ◌∷◌}
use mathlib.Core.Bool.{Bool}
use lib.ListN.{length, take, replicate}
use lib.Seq.{take-take}
use native.Mathlib.Omega.{arith}
use Rattle.base.specs.Put.{padded}
use Rattle.semilinear.specs.Form.{Form, term_count, encode_form}
use Rattle.base.specs.Outcome.{Outcome, accepted, refused, refusal_of, numbers_of, written_of, Gives}
use Rattle.semilinear.specs.Outcome.{form_outcome}
use Rattle.std.specs.Prelude.{Result}
use Rattle.base.specs.declared.refusal.Refusal.{Refusal}
use Rattle.base.specs.Refusal.{refusal_number}
use Rattle.semilinear.specs.declared.outcome.Answer.{Answer}
use Rattle.semilinear.specs.Answers.{InNumbers, refused_answer, GivesNumbers, GivesForm, IsRefused}

-- the answer of a form that was written
abbrev pub form_answer : Form → Bool → InNumbers
form_answer f flag =
    record { refusal = 0; used = length (encode_form f); terms = term_count f.rows; flag = flag }

pub gives_refused : (n len : ℕ) (r : InNumbers) (out : List ℕ) → r ≡ refused_answer n → out ≡ replicate len 0
    → GivesNumbers (refused n) len r out
unfolding refusal_of numbers_of written_of
gives_refused n len r out e z = rw e (record { number = refl; beside = refl; written = z })

-- of a refusal by its variant
pub refused_gives : {k : Refusal} {len : ℕ} {r : Result Answer Refusal} {out : List ℕ} → IsRefused k len r out
    → GivesForm (refused (refusal_number k)) len r out
refused_gives {k} h = rw h.is (h.zeros (refusal_number k))

pub gives_form : (f : Form) (flag : Bool) (len : ℕ) (r : InNumbers) (out : List ℕ) → r ≡ form_answer f flag
    → out ≡ padded len (encode_form f) → GivesNumbers (form_outcome f flag) len r out
unfolding form_outcome refusal_of numbers_of written_of
gives_form f flag len r out e h = rw e (record { number = refl; beside = refl; written = h })

-- a caller that hands over the first two of the three numbers
first_two : (o : Outcome) → take 2 (numbers_of 3 o) ≡ take 2 (numbers_of 2 o)
unfolding numbers_of
first_two (accepted l ns) = refl
first_two (refused n) = refl

pub gives_two : (o : Outcome) (len refusal used terms flag : ℕ) (out : List ℕ)
    → Gives o len refusal (used ∷ terms ∷ flag ∷ []) out → Gives o len refusal (used ∷ terms ∷ []) out
gives_two o len refusal used terms flag out h =
    record {
      number = h.number;
      beside = ap (take 2) h.beside ∙ take-take 2 3 (numbers_of 3 o) (omega arith) ∙ first_two o;
      written = h.written;
    }
