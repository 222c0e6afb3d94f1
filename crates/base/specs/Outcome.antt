-- What an entry point that writes gives, apart from how it is handed over: elements and numbers, or a refusal. One
-- shape for all of them (document 01, "Refusals").
use Rattle.std.specs.Prelude.{◌≡◌, ℕ, List, Bool, length, take, replicate}
use Rattle.base.specs.Choice.{when}
use Rattle.base.specs.Put.{padded}

-- accepted: the elements at the start of the result slice, and the numbers returned; refused: the refusal's number
pub data Outcome : Type 0 where
  accepted : List ℕ → List ℕ → Outcome
  refused : ℕ → Outcome

-- the refusal returned, 0 where the call is accepted
unfoldable pub refusal_of : Outcome → ℕ
refusal_of (accepted l ns) = 0
refusal_of (refused n) = n

-- the k numbers returned beside it, all 0 beside a refusal
unfoldable pub numbers_of : ℕ → Outcome → List ℕ
numbers_of k (accepted l ns) = ns
numbers_of k (refused n) = replicate k 0

-- the whole result slice, of len elements
unfoldable pub written_of : ℕ → Outcome → List ℕ
written_of len (accepted l ns) = padded len l
written_of len (refused n) = replicate len 0

-- all that a call hands over: the refusal, the first numbers beside it, and every element of the result slice
pub record Gives (o : Outcome) (len refusal : ℕ) (numbers : List ℕ) (out : List ℕ) : Type 0 where
  pub number : refusal ≡ refusal_of o
  pub beside : numbers ≡ take (length numbers) (numbers_of (length numbers) o)
  pub written : out ≡ written_of len o

-- a flag as a number
abbrev pub flag_number : Bool → ℕ
flag_number b = when b (λ _. 1) (λ _. 0)
