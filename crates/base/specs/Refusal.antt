-- What a call refuses, as a number: what callers are given, and what the definitions speak of.
use Rattle.std.specs.Prelude.{ℕ, Result, Ok, Err}
use Rattle.base.specs.declared.refusal.Refusal.{Refusal}
use Rattle.base.specs.declared.refusal.Refusal.TheVariants.{Length, ResultLength, Record, Width, Cast, ShiftCount, NotLinear, TooLarge}
use Rattle.base.specs.declared.refusal.Refusal.TheVariants.{NotSemilinear, WidthsDiffer, Variables, ShiftedVariable, Rules, Run, Days, Passes}

-- the number of a refusal
abbrev pub refusal_number : Refusal → ℕ
refusal_number Length = 1
refusal_number ResultLength = 2
refusal_number Record = 3
refusal_number Width = 4
refusal_number Cast = 5
refusal_number ShiftCount = 6
refusal_number NotLinear = 8
refusal_number TooLarge = 9
refusal_number NotSemilinear = 10
refusal_number WidthsDiffer = 11
refusal_number Variables = 12
refusal_number ShiftedVariable = 13
refusal_number Rules = 18
refusal_number Run = 20
refusal_number Days = 21
refusal_number Passes = 32

-- that of a result: 0 where the call is accepted
abbrev pub number_of : {A : Type 0} → Result A Refusal → ℕ
number_of (Ok a) = 0
number_of (Err r) = refusal_number r

-- the value of a result: 0 beside a refusal
abbrev pub value_of : Result ℕ Refusal → ℕ
value_of (Ok x) = x
value_of (Err r) = 0
