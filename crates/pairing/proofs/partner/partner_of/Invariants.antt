-- `partner_of` meets its contract: the search goes on from where the code stands.
use mathlib.Core.Path.{◌≡◌}
use Rattle.pairing.specs.Recovering.{partner_in}
use Rattle.pairing.proofs.partner.partner_of.Given as goal

abbrev pub invariant-loop-j : goal.invariant-loop-j
invariant-loop-j l = partner_in l.m l.entries l.from ≡ partner_in l.m l.entries l.j
