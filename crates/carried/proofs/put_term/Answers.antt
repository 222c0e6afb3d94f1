-- `put_term` meets its contract: the table is full, the term goes to the basis itself, or to a new masked atom.
use Rattle.std.proofs.Common.{sym, ap, ◌∙◌}
use Rattle.arith.specs.Width.{bitmask}
use Rattle.arith.proofs.WidthLaws.{bitmask_ones}
use Rattle.record.specs.Decode.{decode}
use Rattle.carried.proofs.NewTermsLaws.{row_past, coalesced_full, term_bare, term_masked}
use Rattle.carried.proofs.put_term.Goals as goal

pub returns-then-made : goal.returns-then-made
returns-then-made c =
    let a = c.args in
    coalesced_full c.requires.room c.if-made.true
    (λ l. row_past a.w (decode a.b.now) a.c a.m l)

pub returns-then-m-bitmask : goal.returns-then-m-bitmask
returns-then-m-bitmask c =
    let a = c.args in
    let hw = c.requires.width in
    term_bare a.w a.c a.m (decode a.b.now) hw c.if-made.false _
    (c.if-m-bitmask.true ∙ c.bitmask.ensures ∙ ap bitmask c.from-width.ensures ∙ bitmask_ones a.w hw) c.find_or_create_bare-row.ensures
    (rw c.from-width.ensures at c.add_word.ensures)

pub returns : goal.returns
returns c =
    let a = c.args in
    let hw = c.requires.width in
    let ones = c.bitmask.ensures ∙ ap bitmask c.from-width.ensures ∙ bitmask_ones a.w hw in
    term_masked a.w a.c a.m (decode a.b.now) hw c.if-made.false
    (λ e. c.if-m-bitmask.false (e ∙ sym ones)) c.create_masked.ensures
    (rw c.from-width.ensures at c.add_word-2.ensures)
