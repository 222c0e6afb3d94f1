-- The words are looked at two by two.
use mathlib.Core.Path.{◌≡◌}
use Prim.Native.Nat.{◌*◌}
use lib.ListN.{drop}
use Rattle.runner.specs.RunPasses.{is_list}
use Rattle.runner.proofs.is_list.Given as goal

abbrev pub invariant-loop-call : goal.invariant-loop-call
invariant-loop-call l = is_list l.a l.b (drop (l.call-index * 2) l.words) ≡ is_list l.a l.b l.words
