-- `any_partner` meets its contract: no entry before the one at hand has a partner.
use Prim.Native.Nat.{ℕ, ◌+◌, ◌-◌, ◌<◌, ◌≤◌}
use lib.ListN.{length, get_or}
use Rattle.entries.specs.Marks.{blank}
use Rattle.pairing.specs.Recovering.{partner_in}
use Rattle.pairing.proofs.partner.any_partner.Given as goal

abbrev pub invariant-loop-i : goal.invariant-loop-i
invariant-loop-i l =
    (k : ℕ) → k < l.i → length l.entries ≤ partner_in (l.full - (get_or l.entries k blank).mask) l.entries (k + 1)
