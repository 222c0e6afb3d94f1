-- `read_refusal` meets its contract: refusals 1, 2 and 10 in this order.
use mathlib.Core.Path.{sym, ◌∙◌}
use Rattle.atom_table.proofs.ReadLaws.{open_length, open_slice, open_form, open_none}
use Rattle.atom_table.proofs.read.read_refusal.Goals as goal

pub returns-then-length_refused : goal.returns-then-length_refused
returns-then-length_refused c = open_length _ _ _ (sym c.length_refused.ensures ∙ c.if-length_refused.true)

pub returns-then-len-whole : goal.returns-then-len-whole
returns-then-len-whole c = open_slice _ _ _ (sym c.length_refused.ensures ∙ c.if-length_refused.false) c.if-len-whole.true

pub returns-then-not-is_semilinear : goal.returns-then-not-is_semilinear
returns-then-not-is_semilinear c =
    open_form _ _ _ (sym c.length_refused.ensures ∙ c.if-length_refused.false) c.if-len-whole.false
    (sym c.is_semilinear.ensures ∙ c.if-not-is_semilinear.true)

pub returns : goal.returns
returns c =
    open_none _ _ _ (sym c.length_refused.ensures ∙ c.if-length_refused.false) c.if-len-whole.false
    (sym c.is_semilinear.ensures ∙ c.if-not-is_semilinear.false)
