-- The loop keeps that the test passes at no place before `p`.
use Rattle.judge.specs.Sums.{form_rows}
use Rattle.judge.specs.Found.{unlike_rows}
use Rattle.record.specs.Span.{body}
use mathlib.Core.Path.{◌≡◌}
use mathlib.Core.Bool.{false}
use lib.ListN.{length}
use Prim.Native.Nat.{ℕ, ◌<◌}
use Rattle.judge.proofs.search_places.Given as goal

abbrev pub invariant-loop-p : goal.invariant-loop-p
invariant-loop-p l =
    (q : ℕ) → q < l.p → (j : ℕ) → j < length l.initial.x
    → unlike_rows l.w l.vars (form_rows (body l.left)) (form_rows (body l.right)) q j ≡ false
