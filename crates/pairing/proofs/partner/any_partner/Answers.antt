-- `any_partner` meets its contract: no entry before the one at hand has a partner.
use mathlib.Core.Path.{◌≡◌, ap, sym, ◌∙◌}
use mathlib.Core.Bool.{false}
use Prim.Native.Nat.{ℕ, ◌+◌, ◌-◌, ◌≤◌, ◌<◌}
use native.Mathlib.Omega.{arith}
use native.Mathlib.Decide.{dec_lt}
use lib.ListN.{length, get_or}
use Rattle.std.specs.Prelude.{is_some}
use Rattle.base.proofs.BoolLaws.{false_true}
use Rattle.entries.specs.Found.{found_below}
use Rattle.entries.specs.Marks.{blank}
use Rattle.entries.proofs.FoundLaws.{some_below}
use Rattle.pairing.specs.Recovering.{partner_in}
use Rattle.pairing.proofs.RecoveredLaws.{below_more}
use Rattle.pairing.proofs.partner.any_partner.Goals as goal

-- nothing was found
past : (n x : ℕ) → is_some (found_below n x) ≡ false → n ≤ x
past n x e = go (dec_lt x n)
  where
    go : Dec (x < n) → n ≤ x
    go (yes l) = false_true (sym e ∙ sym (ap is_some (some_below l)))
    go (no l) = omega arith

pub loop-i-preserved : goal.loop-i-preserved
loop-i-preserved c =
    let a = c.args in
    let n = length a.entries.now in
    let found =
    c.partner_of.ensures
    ∙ ap (λ (m : ℕ). found_below n (partner_in m a.entries.now (c.loop-i.i + 1))) c.complement-wanted.ensures in
    below_more
    (λ (k : ℕ). n ≤ partner_in (a.full - (get_or a.entries.now k blank).mask) a.entries.now (k + 1))
    c.loop-i.i c.loop-i.invariant
    (past n _ (sym (ap is_some found) ∙ sym c.is_some.ensures ∙ c.if-is_some.false))
