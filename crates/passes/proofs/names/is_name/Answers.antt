-- The function's name first, then the short one.
use mathlib.Core.Path.{sym, ◌∙◌}
use Rattle.passes.proofs.NamesLaws.{name_function, name_short}
use Rattle.passes.proofs.names.is_name.Goals as goal

pub returns-then-same_bytes : goal.returns-then-same_bytes
returns-then-same_bytes c =
    c.if-same_bytes.true ∙ name_function _ _ c.args.short.now (sym c.same_bytes.ensures ∙ c.if-same_bytes.true)

pub returns-else-same_bytes : goal.returns-else-same_bytes
returns-else-same_bytes c =
    name_short _ _ _ (sym c.same_bytes.ensures ∙ c.if-same_bytes.false) c.same_bytes-else-same_bytes.ensures
