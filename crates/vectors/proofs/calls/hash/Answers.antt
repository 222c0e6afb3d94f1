-- What `structural_hash` requires follows from the refusal being 0.
use mathlib.Core.Path.{sym}
use Rattle.expr_refusal.proofs.RefusalLaws.{sized_accepted}
use Rattle.expr.proofs.ExprValueLaws.{accepted_tree}
use Rattle.vectors.proofs.calls.hash.Goals as goal

pub structural_hash-requires : goal.structural_hash-requires
structural_hash-requires c =
    sized_accepted _ _ (accepted_tree _ (sym c.in-Ok.ensures))
