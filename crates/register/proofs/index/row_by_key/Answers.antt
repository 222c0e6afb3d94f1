-- `row_by_key` meets its contract: none has the key of a tree that is not pure.
use mathlib.Core.Path.{sym, ◌∙◌}
use borrow.Author.Tests.{eq-eqb, ne_eqb}
use Rattle.register.specs.Index.{row_by_key}
use Rattle.register.proofs.index.row_by_key.Goals as goal

pub returns-then-key-eq-NOT_PURE : goal.returns-then-key-eq-NOT_PURE
unfolding row_by_key
returns-then-key-eq-NOT_PURE c = sym (simp (eq-eqb _ _ c.if-key-eq-NOT_PURE.true))

pub returns : goal.returns
unfolding row_by_key
returns c = c.first_by_key.ensures ∙ sym (simp (ne_eqb _ _ c.if-key-eq-NOT_PURE.false))
