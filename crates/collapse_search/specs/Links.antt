-- What the code of the three-term collapse finds (group/specs/Collapse.antt), and the links by which it finds the third
-- entry: the live entries that share no bit with a mask, by a fold of their coefficients.
use Rattle.std.specs.Prelude.{ℕ, ◌+◌, ◌/◌, ◌^◌, ◌≤◌, ◌<◌, ◌≡◌, Bool, true, not, ◌&&◌, List, length, get_or, eqb, Option, Some, None}
use Rattle.std.specs.Int.Bits.{bit_and, bit_xor}
use Rattle.base.specs.Choice.{when}
use Rattle.base.specs.Limits.{group_entries}
use Rattle.base.specs.Loop.{first_in}
use Rattle.group.specs.declared.Group.{Group}
use Rattle.collapse_search.specs.declared.find.Two.{Two}
use Rattle.collapse_search.specs.declared.find.Three.{Three}
use Rattle.group.specs.Group.{Entry, at, is_live}
use Rattle.group.specs.Collapse.{find_third, find_second, find_first}

-- a group of lent entries
abbrev pub lent : List Entry → Group
lent es = record { entries = es; len = length es }

-- ---- the links

-- how many folds there are
abbrev pub folds : ℕ
folds = 1024

-- the fold of a coefficient, a number below `folds`
unfoldable pub fold_of : ℕ → ℕ
fold_of c = bit_and (bit_xor b (b / 2 ^ 10)) 1023
  where
    a : ℕ
    a = bit_xor c (c / 2 ^ 35)

    b : ℕ
    b = bit_xor a (a / 2 ^ 19)

-- an entry is live and shares no bit with m
unfoldable pub apart_of : Entry → ℕ → Bool
apart_of e m = eqb (bit_and m e.mask) 0 && is_live e

-- the same of the entry k
abbrev pub apart_at : Group → ℕ → ℕ → Bool
apart_at g m k = apart_of (at g k) m

-- the entry k is live, shares no bit with m, and its coefficient has the fold h
unfoldable pub link_fits : Group → ℕ → ℕ → ℕ → Bool
link_fits g m h k = apart_at g m k && eqb (fold_of (at g k).coeff) h

-- the entries from a on are linked: `first` has the first of each fold, `next` the next one with an entry's fold, and
-- the group's length is none
pub record Linked (g : Group) (m a : ℕ) (first next : List ℕ) : Type 0 where
  pub heads : (h : ℕ) → h < folds → get_or first h 0 ≡ first_in (link_fits g m h) a g.len
  pub links : (k : ℕ) → a ≤ k → k < g.len → apart_at g m k ≡ true
      → get_or next k 0 ≡ first_in (link_fits g m (fold_of (at g k).coeff)) (k + 1) g.len

-- entries i and j are two of them, and the entries that share no bit with entry i are linked
pub record ThirdReady (es : List Entry) (first next : List ℕ) (i j : ℕ) : Type 0 where
  pub few : length es ≤ group_entries
  pub i_lt : i < length es
  pub j_lt : j < length es
  pub linked : Linked (lent es) (at (lent es) i).mask 0 first next

-- ---- what is found

-- what is left to ask of an entry k that is linked, against the coefficient c and the mask m
unfoldable pub rest_of : (k i j : ℕ) → Entry → (c m : ℕ) → Bool
rest_of k i j e c m = eqb e.coeff c && (eqb (bit_and m e.mask) 0 && (not (eqb k i) && not (eqb k j)))

-- the third entry for i and a live j, the second for a live i; else the group's length
unfoldable pub third_in : ℕ → Group → ℕ → ℕ → ℕ
third_in w g i j = when (is_live (at g j)) (λ _. find_third w g i j) (λ _. g.len)

unfoldable pub second_in : ℕ → Group → ℕ → ℕ
second_in w g i = when (is_live (at g i)) (λ _. find_second w g i) (λ _. g.len)

-- the second and the third entry for i
pub record IsTwo (w : ℕ) (g : Group) (i : ℕ) (r : Two) : Type 0 where
  pub second_is : r.second ≡ second_in w g i
  pub second_lt : r.second < g.len
  pub third_is : r.third ≡ find_third w g i r.second

-- where there are such
unfoldable pub FoundTwo : ℕ → Group → ℕ → Option Two → Type 0
FoundTwo w g i None = g.len ≤ second_in w g i
FoundTwo w g i (Some r) = IsTwo w g i r

-- the three entries that collapse
pub record IsThree (w : ℕ) (g : Group) (r : Three) : Type 0 where
  pub first_is : r.first ≡ find_first w g
  pub first_lt : r.first < g.len
  pub second_is : r.second ≡ find_second w g r.first
  pub second_lt : r.second < g.len
  pub third_is : r.third ≡ find_third w g r.first r.second

-- where there are such
unfoldable pub FoundThree : ℕ → Group → Option Three → Type 0
FoundThree w g None = g.len ≤ find_first w g
FoundThree w g (Some r) = IsThree w g r
