-- Lists of numbers: equality and membership as tests, and lists that strictly rise.
use Rattle.std.specs.Prelude.{ℕ, ◌+◌, ◌≤◌, List, [], ◌∷◌, Bool, true, false, ◌&&◌, ◌||◌, eqb}

-- the same numbers in the same order
unfoldable pub eq_list : List ℕ → List ℕ → Bool
eq_list [] [] = true
eq_list [] (y ∷ m) = false
eq_list (x ∷ l) [] = false
eq_list (x ∷ l) (y ∷ m) = eqb x y && eq_list l m

-- i is an element of the list
unfoldable pub elem : ℕ → List ℕ → Bool
elem i [] = false
elem i (x ∷ l) = eqb x i || elem i l

-- the first element is at least `from`, and each other one is above the one before it
unfoldable pub RisingFrom : ℕ → List ℕ → Type 0
RisingFrom from [] = Unit
RisingFrom from (x ∷ l) = (from ≤ x) × RisingFrom (x + 1) l

-- the elements strictly rise
abbrev pub Rising : List ℕ → Type 0
Rising = RisingFrom 0
