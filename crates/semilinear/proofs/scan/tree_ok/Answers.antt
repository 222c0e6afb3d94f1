-- `tree_ok` meets its contract: a case for each test.
use mathlib.Core.Path.{sym, ◌∙◌}
use Rattle.semilinear.proofs.ValidLaws.{tree_shut, tree_bare, tree_open}
use Rattle.semilinear.proofs.scan.tree_ok.Goals as goal

pub returns-then-found : goal.returns-then-found
returns-then-found c =
    tree_open _ _ _ c.in-Some.found (sym c.check_bitwise.ensures ∙ c.in-Some.is) c.if-found.true

pub returns-else-found : goal.returns-else-found
returns-else-found c =
    c.if-found.false ∙ tree_bare _ _ _ c.in-Some.found (sym c.check_bitwise.ensures ∙ c.in-Some.is) c.if-found.false

pub returns-in-None : goal.returns-in-None
returns-in-None c = tree_shut _ _ _ (sym c.check_bitwise.ensures ∙ c.in-None.is)
