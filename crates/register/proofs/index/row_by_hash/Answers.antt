-- `row_by_hash` meets its contract: the newest slot, where it has the bytes of the tree.
use mathlib.Core.Path.{sym, ◌∙◌}
use native.Mathlib.Omega.{arith}
use Rattle.ways.specs.Spans.{span_of}
use Rattle.register.specs.Index.{entry_span}
use Rattle.register.proofs.SlotLaws.{hash_none, hash_found, hash_differs, newest_lt}
use Rattle.register.proofs.index.row_by_hash.Goals as goal

pub returns-in_err-j : goal.returns-in_err-j
returns-in_err-j c = c.from_residual.ensures ∙ sym (hash_none _ _ _ _ _ (sym c.in_err-j.ensures))

pub bounds-index-j : goal.bounds-index-j
bounds-index-j c =
    let low = newest_lt _ _ _ _ _ _ (sym c.in_ok-j.ensures) in
    omega (arith, c.requires.1.room, low)

pub offset_bounds-index-j : goal.offset_bounds-index-j
offset_bounds-index-j c =
    let low = newest_lt _ _ _ _ _ _ (sym c.in_ok-j.ensures) in
    omega (arith, c.requires.1.room, low)

pub offset_bounds-index-j-2 : goal.offset_bounds-index-j-2
offset_bounds-index-j-2 c =
    let low = newest_lt _ _ _ _ _ _ (sym c.in_ok-j.ensures) in
    omega (arith, c.requires.1.room, low)

pub bounds-index-j-2 : goal.bounds-index-j-2
bounds-index-j-2 c =
    let low = newest_lt _ _ _ _ _ _ (sym c.in_ok-j.ensures) in
    omega (arith, c.requires.1.room, low)

pub slice_bounds-same_bytes-count : goal.slice_bounds-same_bytes-count
slice_bounds-same_bytes-count c =
    (c.requires.1.entries _ (newest_lt _ _ _ _ _ _ (sym c.in_ok-j.ensures))).rising

pub slice_bounds-same_bytes-start : goal.slice_bounds-same_bytes-start
slice_bounds-same_bytes-start c =
    (c.requires.1.entries _ (newest_lt _ _ _ _ _ _ (sym c.in_ok-j.ensures))).rising

pub slice_bounds-same_bytes-end : goal.slice_bounds-same_bytes-end
slice_bounds-same_bytes-end c =
    (c.requires.1.entries _ (newest_lt _ _ _ _ _ _ (sym c.in_ok-j.ensures))).inside

pub returns-then-same_bytes : goal.returns-then-same_bytes
unfolding entry_span span_of
returns-then-same_bytes c =
    sym (hash_found _ _ _ _ _ _ (sym c.in_ok-j.ensures) (sym c.same_bytes.ensures ∙ c.if-same_bytes.true))

pub returns : goal.returns
unfolding entry_span span_of
returns c =
    sym (hash_differs _ _ _ _ _ _ (sym c.in_ok-j.ensures) (sym c.same_bytes.ensures ∙ c.if-same_bytes.false))
