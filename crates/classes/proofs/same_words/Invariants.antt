-- `same_words` meets its contract: the loop keeps that the words from `i` on decide.
use mathlib.Core.Path.{◌≡◌}
use lib.ListN.{drop}
use Rattle.base.specs.Lists.{eq_list}
use Rattle.classes.proofs.same_words.Given as goal

abbrev pub invariant-loop-i : goal.invariant-loop-i
invariant-loop-i l = eq_list l.a l.b ≡ eq_list (drop l.i l.a) (drop l.i l.b)
