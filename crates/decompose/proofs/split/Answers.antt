-- `split` meets its contract: no And, an And with one variable-free side, or one whose sides both have a variable.
use mathlib.Core.Path.{ap, sym, ◌∙◌}
use Prim.Native.Nat.{ℕ}
use mathlib.Core.List.{List, []}
use Rattle.std.specs.Prelude.{Some}
use Rattle.record.specs.Decode.{decode}
use Rattle.expr.specs.Value.{value}
use Rattle.decompose.specs.Basis.{basis_span}
use Rattle.decompose.proofs.DecomposeLaws.{basis_big, span_end, split_other, split_sized, split_neither}
use Rattle.decompose.proofs.DecomposeLaws.{split_left, split_right}
use Rattle.decompose.proofs.split.Goals as goal

pub kind-requires : goal.kind-requires
unfolding basis_span
kind-requires c = basis_big _ _ _ c.requires.1

pub returns-then-kind : goal.returns-then-kind
unfolding basis_span
returns-then-kind c = split_other _ _ _ c.requires.1 (λ e. c.if-kind.true (c.kind.ensures ∙ e))

pub free_side-requires : goal.free_side-requires
unfolding basis_span
free_side-requires c = (c.requires.1.ok, sym c.kind.ensures ∙ c.if-kind.false, c.requires.1.variable)

pub returns-in_err-free_side : goal.returns-in_err-free_side
unfolding basis_span
returns-in_err-free_side c =
    rw c.from_residual.ensures
    (split_neither _ _ _ c.requires.1 (sym c.kind.ensures ∙ c.if-kind.false)
    (sym c.free_side.ensures ∙ c.in_err-free_side.was))

pub overflow_sub-result : goal.overflow_sub-result
overflow_sub-result c = span_end _ _ _ c.requires.1

pub constant_value-requires : goal.constant_value-requires
unfolding basis_span
constant_value-requires c =
    (rw c.left.ensures (split_sized _ _ _ c.requires.1 (sym c.kind.ensures ∙ c.if-kind.false)).0, c.requires.0)

pub constant_value-requires-in-Right : goal.constant_value-requires-in-Right
unfolding basis_span
constant_value-requires-in-Right c =
    (rw c.right.ensures (split_sized _ _ _ c.requires.1 (sym c.kind.ensures ∙ c.if-kind.false)).1, c.requires.0)

pub returns-in-Left : goal.returns-in-Left
unfolding basis_span
returns-in-Left c =
    split_right _ _ _ c.requires.1 (sym c.kind.ensures ∙ c.if-kind.false)
    (sym c.free_side.ensures ∙ c.in_ok-free_side.was ∙ ap Some c.in-Left.is) c.cut.ensures.0
    (c.constant_value.ensures ∙ ap (λ (x : List ℕ). value c.args.w [] (decode x)) c.left.ensures)

pub returns-in-Right : goal.returns-in-Right
unfolding basis_span
returns-in-Right c =
    split_left _ _ _ c.requires.1 (sym c.kind.ensures ∙ c.if-kind.false)
    (sym c.free_side.ensures ∙ c.in_ok-free_side.was ∙ ap Some c.in-Right.is) c.cut.ensures.0
    (c.constant_value-in-Right.ensures ∙ ap (λ (x : List ℕ). value c.args.w [] (decode x)) c.right.ensures)
