-- `same_slot` meets its contract: the same bytes have the same variables.
use mathlib.Core.Path.{sym, ◌∙◌}
use Rattle.ways.specs.Spans.{span_of}
use Rattle.register.specs.Index.{entry_span}
use Rattle.register.proofs.SlotLaws.{slot_other_hash, slot_vars, slot_same}
use Rattle.register.proofs.index.same_slot.Goals as goal

pub returns-then-e-hash : goal.returns-then-e-hash
returns-then-e-hash c =
    sym (slot_other_hash c.args.hash c.args.t.now c.args.out.now c.args.e.now c.if-e-hash.true)

pub returns-then-same_bytes : goal.returns-then-same_bytes
unfolding entry_span span_of
returns-then-same_bytes c =
    c.if-same_bytes.true
    ∙ sym
    (slot_same c.args.hash c.args.t.now c.args.out.now c.args.e.now c.if-e-hash.false
    (sym c.same_bytes.ensures ∙ c.if-same_bytes.true))

pub same_vars-requires : goal.same_vars-requires
unfolding entry_span span_of
same_vars-requires c = (c.requires.1.tree, c.requires.0)

pub returns-else-same_bytes : goal.returns-else-same_bytes
unfolding entry_span span_of
returns-else-same_bytes c =
    c.same_vars.ensures
    ∙ sym (slot_vars c.args.hash c.args.t.now c.args.out.now c.args.e.now c.if-e-hash.false)
