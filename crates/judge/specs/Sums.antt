-- The sums of a place (judge_laws/specs/PlaceSum.antt) in a lent slice: one for each index, modulo 2 ^ w.
use Rattle.std.specs.Prelude.{◌≡◌, ℕ, ◌+◌, ◌*◌, ◌%◌, ◌^◌, ◌<◌, ◌≤◌, List, true, length, get_or}
use Rattle.arith.specs.Bit.{bit_at}
use Rattle.semilinear.specs.Form.{Row}
use Rattle.semilinear.specs.Items.{after_atoms}
use Rattle.semilinear.specs.Valid.{atoms_ok}
use Rattle.semilinear.specs.DecodeForm.{rows_of}
use Rattle.semilinear.specs.Scan.{AtomsEnd}
use Rattle.judge_laws.specs.PlaceSum.{place_sum}

-- every sum has w bits
abbrev pub AllBelow : ℕ → List ℕ → Type 0
AllBelow w l = (i : ℕ) → get_or l i 0 < 2 ^ w

-- c was added to each sum whose row is set
pub record CoeffAdded (w rows c : ℕ) (before after : List ℕ) : Type 0 where
  pub long : length after ≡ length before
  pub sum : (i : ℕ) → i < length before → get_or after i 0 ≡ (get_or before i 0 + c * bit_at rows i) % 2 ^ w

-- f is atoms as they must be and, from `terms` on, terms
pub record SumsReady (w : ℕ) (f : List ℕ) (terms : ℕ) (sums : List ℕ) : Type 0 where
  pub width : w ≤ 64
  pub atoms_ok_lem : atoms_ok w f ≡ true
  pub ends : AtomsEnd f terms
  pub few : length sums ≤ 64

-- the rows of the atoms and terms f
abbrev pub form_rows : List ℕ → List Row
form_rows f = rows_of 0 f (after_atoms f)

-- the sums of place p
pub record PlaceSummed (w p : ℕ) (vs f before after : List ℕ) : Type 0 where
  pub long : length after ≡ length before
  pub sum : (i : ℕ) → i < length before → get_or after i 0 ≡ place_sum w p vs i (form_rows f) % 2 ^ w
