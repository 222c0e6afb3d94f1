-- `tree_refusal` meets its contract: the equation of the fold at a root without, with one and with two children.
use lib.ListN.{length}
use Rattle.expr_refusal.proofs.+tree_refusal.Given as goal

abbrev pub decreases-tree_refusal : goal.decreases-tree_refusal
decreases-tree_refusal l = length l.t.now
