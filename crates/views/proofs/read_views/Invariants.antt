-- `read_views` meets its contract: the loop keeps what was read, and the rows that are left.
use Rattle.semilinear.specs.Items.{after_atoms}
use Rattle.semilinear.specs.DecodeForm.{read_rows}
use Rattle.views.specs.Views.{only_of}
use Rattle.views.proofs.ReadLaws.{Reads}
use Rattle.views.proofs.read_views.Given as goal

abbrev pub invariant-loop-row : goal.invariant-loop-row
invariant-loop-row l =
    Reads (only_of l.only) l.w l.f (read_rows 0 l.f (after_atoms l.f)) l.initial.views l.initial.coeffs l.at l.number
    l.views l.coeffs l.row-iterator
