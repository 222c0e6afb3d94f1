-- `settle` meets its contract: the loop keeps what the entries before this one add.
use mathlib.Core.Path.{◌≡◌}
use Rattle.base.specs.Loop.{for_in}
use Rattle.group.specs.Gathered.{settle_word_at}
use Rattle.group.proofs.settle.settle.Given as goal

abbrev pub invariant-loop-e : goal.invariant-loop-e
invariant-loop-e l = l.coeffs ≡ for_in (settle_word_at l.w l.entries) 0 l.e-index l.initial.coeffs
