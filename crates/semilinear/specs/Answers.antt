-- What a writer of a semilinear form hands over: an answer or a refusal, and every byte of the result slice.
use Rattle.std.specs.Prelude.{◌≡◌, ℕ, List, [], ◌∷◌, Bool, false, Result, Ok, Err}
use Rattle.semilinear.specs.declared.outcome.Answer.{Answer}
use Rattle.base.specs.declared.refusal.Refusal.{Refusal}
use Rattle.base.specs.Outcome.{Outcome, refused, flag_number, Gives}
use Rattle.base.specs.Refusal.{refusal_number}

-- the same in numbers, as C is given them: the refusal, 0 where the call is accepted, and those beside it
pub record InNumbers : Type 0 where
  pub refusal : ℕ
  pub used : ℕ
  pub terms : ℕ
  pub flag : Bool

-- the numbers of a refusal
abbrev pub refused_answer : ℕ → InNumbers
refused_answer n = record { refusal = n; used = 0; terms = 0; flag = false }

abbrev pub in_numbers : Result Answer Refusal → InNumbers
in_numbers (Ok a) = record { refusal = 0; used = a.used; terms = a.terms; flag = a.flag }
in_numbers (Err r) = refused_answer (refusal_number r)

-- the numbers beside the refusal
abbrev pub numbers_in : InNumbers → List ℕ
numbers_in r = r.used ∷ r.terms ∷ flag_number r.flag ∷ []

-- the numbers and the result slice, of len bytes, are those of the outcome
abbrev pub GivesNumbers : Outcome → ℕ → InNumbers → List ℕ → Type 0
GivesNumbers o len r out = Gives o len r.refusal (numbers_in r) out

-- so are those of the answer
abbrev pub GivesForm : Outcome → ℕ → Result Answer Refusal → List ℕ → Type 0
GivesForm o len r out = GivesNumbers o len (in_numbers r) out

-- a refusal is handed over, whatever stands for it: with any number for it, all numbers beside it and the result slice
-- are as they must be
pub record IsRefused {R : Type 0} (refusal : R) (len : ℕ) (r : Result Answer R) (out : List ℕ) : Type 0 where
  pub is : r ≡ Err refusal
  pub zeros : (n : ℕ) → GivesNumbers (refused n) len (refused_answer n) out
