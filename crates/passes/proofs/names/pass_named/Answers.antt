-- The names in turn; the bytes of each text are computed.
use mathlib.Core.Path.{sym, ◌∙◌}
use Rattle.passes.specs.Names.{text_bytes}
use Rattle.passes.proofs.NamesLaws.{number_refine, number_recover, number_coalesce, number_flatten}
use Rattle.passes.proofs.NamesLaws.{number_compact, number_none}
use Rattle.passes.proofs.names.pass_named.Goals as goal

pub returns-then-is_name : goal.returns-then-is_name
unfolding text_bytes
returns-then-is_name c =
    number_refine _
    (sym c.is_name.ensures ∙ c.if-is_name.true)

pub returns-then-is_name-2 : goal.returns-then-is_name-2
unfolding text_bytes
returns-then-is_name-2 c =
    number_recover _
    (sym c.is_name.ensures ∙ c.if-is_name.false)
    (sym c.is_name-2.ensures ∙ c.if-is_name-2.true)

pub returns-then-is_name-3 : goal.returns-then-is_name-3
unfolding text_bytes
returns-then-is_name-3 c =
    number_coalesce _
    (sym c.is_name.ensures ∙ c.if-is_name.false)
    (sym c.is_name-2.ensures ∙ c.if-is_name-2.false)
    (sym c.is_name-3.ensures ∙ c.if-is_name-3.true)

pub returns-then-is_name-4 : goal.returns-then-is_name-4
unfolding text_bytes
returns-then-is_name-4 c =
    number_flatten _
    (sym c.is_name.ensures ∙ c.if-is_name.false)
    (sym c.is_name-2.ensures ∙ c.if-is_name-2.false)
    (sym c.is_name-3.ensures ∙ c.if-is_name-3.false)
    (sym c.is_name-4.ensures ∙ c.if-is_name-4.true)

pub returns-then-is_name-5 : goal.returns-then-is_name-5
unfolding text_bytes
returns-then-is_name-5 c =
    number_compact _
    (sym c.is_name.ensures ∙ c.if-is_name.false)
    (sym c.is_name-2.ensures ∙ c.if-is_name-2.false)
    (sym c.is_name-3.ensures ∙ c.if-is_name-3.false)
    (sym c.is_name-4.ensures ∙ c.if-is_name-4.false)
    (sym c.is_name-5.ensures ∙ c.if-is_name-5.true)

pub returns : goal.returns
unfolding text_bytes
returns c =
    sym (number_none _
    (sym c.is_name.ensures ∙ c.if-is_name.false)
    (sym c.is_name-2.ensures ∙ c.if-is_name-2.false)
    (sym c.is_name-3.ensures ∙ c.if-is_name-3.false)
    (sym c.is_name-4.ensures ∙ c.if-is_name-4.false)
    (sym c.is_name-5.ensures ∙ c.if-is_name-5.false))
