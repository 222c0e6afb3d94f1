-- `decompose_atom` meets its contract: the loop keeps a split on its way, whose part falls.
use mathlib.Core.Path.{sym, ◌∙◌}
use Rattle.record.proofs.SizedLaws.{sized_big}
use Rattle.decompose.proofs.DecomposeLaws.{whole_part, whole_variable, whole_none, whole_some, split_on, split_end}
use Rattle.decompose.proofs.decompose_atom.Goals as goal

pub kind-requires : goal.kind-requires
kind-requires c = sized_big _ c.requires.0

pub returns-then-kind : goal.returns-then-kind
returns-then-kind c =
    whole_variable _ _ c.requires.1 c.requires.0 c.requires.2 c.bitmask.ensures (sym c.kind.ensures ∙ c.if-kind.true)

pub split-requires : goal.split-requires
split-requires c = (c.requires.1, whole_part _ _ c.requires.1 c.requires.0 c.requires.2 c.bitmask.ensures)

pub returns-in_err-x : goal.returns-in_err-x
returns-in_err-x c =
    rw c.from_residual.ensures
    (whole_none _ _ c.requires.1 c.requires.0 c.requires.2 c.bitmask.ensures
    (λ e. c.if-kind.false (c.kind.ensures ∙ e)) c.in_err-x.ensures)

pub loop-next-init : goal.loop-next-init
loop-next-init c =
    whole_some _ _ c.requires.1 c.requires.0 c.requires.2 c.bitmask.ensures _ c.in_ok-x.ensures

pub loop-next-preserved : goal.loop-next-preserved
loop-next-preserved c = split_on _ _ _ _ c.loop-next.invariant c.in-Some.ensures

pub returns : goal.returns
returns c = split_end _ _ _ c.loop-next.invariant c.in_default.ensures
