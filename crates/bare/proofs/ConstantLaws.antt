-- Another constant beside a table: what the table holds is the same.
use Rattle.made.specs.declared.Made.{Made}
use Prim.Native.Nat.{ℕ}
use mathlib.Core.List.{List}
use Rattle.semilinear.specs.Form.{Row}
use Rattle.made.specs.Made.{with_constant, Room, Held}

module _ (made : Made) (v : ℕ) where
  pub room_kept : {out : List ℕ} → Room made out → Room (with_constant made v) out
  room_kept r = record { placed = r.placed }

  pub held_kept : {w : ℕ} {out : List ℕ} {l : List Row} → Held w made out l → Held w (with_constant made v) out l
  held_kept h = record { holds = h.holds; clean = h.clean; rows = h.rows }
