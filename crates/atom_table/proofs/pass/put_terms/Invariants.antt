-- `put_terms` meets its contract: after i turns the terms of the first i coefficients are put.
use mathlib.Core.Path.{◌≡◌}
use lib.ListN.{length}
use Rattle.atom_table.specs.Terms.{coeffs_in, TermsPut}
use Rattle.atom_table.proofs.pass.put_terms.Given as goal

abbrev pub invariant-loop-i : goal.invariant-loop-i
invariant-loop-i l =
    TermsPut l.w l.to (coeffs_in l.step l.words l.i) l.initial.out l.out l.x × (length l.out ≡ length l.initial.out)
