-- `recover_all` meets its contract: after k turns k groups are recovered; a full table ends the loop.
use mathlib.Core.List.{[]}
use Rattle.semilinear.specs.Items.{after_atoms}
use Rattle.semilinear.specs.DecodeForm.{read_rows}
use Rattle.views.specs.Grouping.{any_basis, bases_of}
use Rattle.structure_recovery.proofs.AllRecoveredLaws.{Going}
use Rattle.structure_recovery.proofs.recover.recover_all.Given as goal

abbrev pub invariant-loop-first : goal.invariant-loop-first
invariant-loop-first l =
    Going l.w (read_rows 0 l.f (after_atoms l.f)) (bases_of any_basis l.w (read_rows 0 l.f (after_atoms l.f)) []) l.first-index l.initial.made l.initial.out l.initial.coeffs
    l.made l.out l.coeffs
