-- A choice by a test, for definitions that compute.
use Rattle.std.specs.Prelude.{Bool, true, false}

-- the first side where the test holds; the sides are functions, so that the other one is not computed
abbrev pub when : {A : Type 0} → Bool → (Unit {0} → A) → (Unit {0} → A) → A
when true a b = a tt
when false a b = b tt
