-- The first place and index at which a test passes, as a verdict.
use Rattle.std.specs.Prelude.{◌≡◌, ℕ, ◌+◌, ◌*◌, ◌%◌, ◌^◌, ◌<◌, ◌≤◌, List, Bool, true, false, not, eqb, length, get_or, Option, MatchOption}
use Rattle.arith.specs.Width.{mod_add, mod_mul}
use Rattle.base.specs.Loop.{first_in}
use Rattle.semilinear.specs.Form.{Row}
use Rattle.judge_laws.specs.declared.Verdict.{Verdict}
use Rattle.judge_laws.specs.Judge.{verdict}
use Rattle.judge_laws.specs.PlaceSum.{place_sum}
use Rattle.semilinear.specs.Valid.{atoms_ok}
use Rattle.semilinear.specs.Scan.{AtomsEnd}
use Rattle.record.specs.Span.{body}

-- the sums tell apart two forms that agree at all zeros, in row i
unfoldable pub unlike_sums : ℕ → ℕ → List ℕ → List ℕ → ℕ → Bool
unlike_sums w p l r i =
    not (eqb (mod_mul (2 ^ p) (mod_add (get_or l i 0) (get_or r 0 0) w) w)
    (mod_mul (2 ^ p) (mod_add (get_or r i 0) (get_or l 0 0) w) w))

-- the same of the rows of two forms, at place p and index i
unfoldable pub unlike_rows : ℕ → List ℕ → List Row → List Row → ℕ → ℕ → Bool
unlike_rows w vs f g p i =
    not (eqb ((place_sum w p vs i f + place_sum w p vs 0 g) * 2 ^ p % 2 ^ w)
    ((place_sum w p vs i g + place_sum w p vs 0 f) * 2 ^ p % 2 ^ w))

-- nowhere, or first at place p and index i
pub data Found (test : ℕ → ℕ → Bool) (places rows : ℕ) (v : Verdict) : Type 0 where
  nowhere : v ≡ verdict 0 1 0 0 → ((p : ℕ) → p < places → (i : ℕ) → i < rows → test p i ≡ false)
      → Found test places rows v
  first_at : (p i : ℕ) → v ≡ verdict 0 0 p i → p < places → i < rows → test p i ≡ true
      → ((q : ℕ) → q < p → (j : ℕ) → j < rows → test q j ≡ false)
      → ((j : ℕ) → j < i → test p j ≡ false)
      → Found test places rows v

-- what the sums of a place ask: atoms as they must be, where the terms begin, and as many words in x as in y
pub record PlaceReady (w p : ℕ) (f : List ℕ) (m : ℕ) (g : List ℕ) (n : ℕ) (x y : List ℕ) : Type 0 where
  pub width : w ≤ 64
  pub place_lt : p < w
  pub left : atoms_ok w f ≡ true
  pub left_ends : AtomsEnd f m
  pub right : atoms_ok w g ≡ true
  pub right_ends : AtomsEnd g n
  pub alike : length x ≡ length y
  pub some : 0 < length x
  pub few : length x ≤ 64

-- the first of the numbers below n that passes the test, or none
abbrev pub IsFirst : (ℕ → Bool) → ℕ → Option ℕ → Type 0
IsFirst test n o = MatchOption o (first_in test 0 n ≡ n) (λ i. (i < n) × (i ≡ first_in test 0 n))

-- the first index that passes the test; the slices are as long as before
pub record PlaceFound (test : ℕ → Bool) (x y x' y' : List ℕ) (r : Option ℕ) : Type 0 where
  pub index : IsFirst test (length x) r
  pub long_x : length x' ≡ length x
  pub long_y : length y' ≡ length y

-- what the search over two forms asks
pub record FormsReady (w : ℕ) (l r x y : List ℕ) : Type 0 where
  pub width : w ≤ 64
  pub left : atoms_ok w (body l) ≡ true
  pub right : atoms_ok w (body r) ≡ true
  pub alike : length x ≡ length y
  pub some : 0 < length x
  pub few : length x ≤ 64
