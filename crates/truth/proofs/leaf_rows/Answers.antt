-- `leaf_rows` meets its contract: the rows of a literal, and of a variable.
use Rattle.truth.proofs.RowsLaws.{rows_clear, rows_set}
use Rattle.record.proofs.LeafLaws.{leaf_constant, leaf_variable}
use Rattle.arith.specs.Bit.{bit_at}
use Prim.Native.Nat.{ℕ}
use mathlib.Core.Path.{ap, sym, ◌∙◌}
use Rattle.truth.proofs.leaf_rows.Goals as goal

pub returns-then-bit-eq0 : goal.returns-then-bit-eq0
returns-then-bit-eq0 c w =
    rw (leaf_constant c.args.t.now c.kind.ensures c.if-kind.true)
    (rows_clear 64 w _ _ _
    (ap (λ (x : ℕ). bit_at x c.args.place) (sym c.literal.ensures)
    ∙ sym c.bit.ensures
    ∙ c.if-bit-eq0.true))

pub returns-then-kind : goal.returns-then-kind
returns-then-kind c w =
    rw (leaf_constant c.args.t.now c.kind.ensures c.if-kind.true)
    (rows_set 64 w _ _ _
    (λ e.
    c.if-bit-eq0.false
    (c.bit.ensures
    ∙ ap (λ (x : ℕ). bit_at x c.args.place) c.literal.ensures
    ∙ e)))

pub returns : goal.returns
returns c w =
    rw (
      leaf_variable c.args.t.now c.kind.ensures c.if-kind.false,
      ← c.var_index.ensures.0,
    )
    (c.variable_rows.ensures w c.args.place)
