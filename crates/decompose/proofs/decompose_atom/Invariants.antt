-- `decompose_atom` meets its contract: the loop keeps a split on its way, whose part falls.
use Prim.Native.Nat.{◌-◌}
use Rattle.decompose.proofs.DecomposeLaws.{Splitting}
use Rattle.decompose.proofs.decompose_atom.Given as goal

abbrev pub invariant-loop-next : goal.invariant-loop-next
invariant-loop-next l = Splitting l.w l.t l.x

abbrev pub decreases-loop-next : goal.decreases-loop-next
decreases-loop-next l = l.x.end - l.x.start
