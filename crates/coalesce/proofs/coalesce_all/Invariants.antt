-- `coalesce_all` meets its contract: after k turns k groups are coalesced.
use mathlib.Core.List.{[]}
use Rattle.semilinear.specs.Items.{after_atoms}
use Rattle.semilinear.specs.DecodeForm.{read_rows}
use Rattle.views.specs.Grouping.{variable_basis, bases_of}
use Rattle.coalesce.proofs.CoalesceTurnLaws.{Going}
use Rattle.coalesce.proofs.coalesce_all.Given as goal

abbrev pub invariant-loop-first : goal.invariant-loop-first
invariant-loop-first l =
    Going l.w (read_rows 0 l.f (after_atoms l.f)) (bases_of variable_basis l.w (read_rows 0 l.f (after_atoms l.f)) []) l.n l.first-index l.initial.made l.initial.out
    l.initial.coeffs l.made l.out l.coeffs
