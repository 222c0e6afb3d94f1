-- What one turn of a walk over atoms and terms, side by side, asks and does: of the walk that adds and of the one that
-- copies.
use Rattle.std.specs.Prelude.{◌≡◌, ℕ, ◌+◌, ◌^◌, ◌<◌, ◌≤◌, true, List, length, drop}
use Rattle.semilinear.specs.Items.{is_atom, after_atom}
use Rattle.semilinear.specs.Valid.{atoms_ok}
use Rattle.semilinear.specs.DecodeForm.{after_term}
use Rattle.semilinear.specs.Scan.{AtomsEnd}
use Rattle.base.specs.Limits.{record_length}

-- ---- what is asked

-- in f the next atom stands at `at`, the atoms from it on as they must be, and the next term, if any, at `next`
pub record AtRow (w : ℕ) (f : List ℕ) (at next : ℕ) : Type 0 where
  pub width : w ≤ 64
  pub inside : at ≤ length f
  pub terms_inside : next ≤ length f
  pub atom : is_atom (drop at f) ≡ true
  pub atoms_ok_lem : atoms_ok w (drop at f) ≡ true

-- f is atoms as they must be and, from `terms` on, terms; the constant is one of w bits
pub record SumReady (w : ℕ) (f : List ℕ) (terms constant : ℕ) : Type 0 where
  pub width : w ≤ 64
  pub atoms_ok_lem : atoms_ok w f ≡ true
  pub ends : AtomsEnd f terms
  pub fits : constant < 2 ^ w

-- ---- what is done

-- the atom at `at` is passed, and its term where it has one: the places and the number after it
pub record RowPassed (f : List ℕ) (at next number at' next' number' : ℕ) : Type 0 where
  pub inside : at' ≤ length f
  pub later : at + record_length ≤ at'
  pub rest : drop at' f ≡ after_atom (drop at f)
  pub terms_inside : next' ≤ length f
  pub terms : drop next' f ≡ after_term number (drop next f)
  pub next_number : number' ≡ number + 1
