-- `profile_word` meets its contract: the word of an opaque atom, and the low rows of a table.
use mathlib.Core.Path.{ap, ◌∙◌}
use Prim.Native.Nat.{ℕ}
use lib.ListN.{drop}
use Rattle.record.specs.Span.{sized}
use Rattle.record.specs.Decode.{decode}
use Rattle.semilinear.specs.Items.{is_atom, tree_span}
use Rattle.truth.specs.Truth.{table_f}
use Rattle.profile.proofs.AtomWordsLaws.{word_none, word_some}
use Rattle.profile.proofs.IndexLaws.{entry_start, entry_inside, entry_table}
use Rattle.profile.proofs.profile_word.Goals as goal

pub rest_from-requires : goal.rest_from-requires
rest_from-requires c =
    let e = c.requires.0.entry c.args.i c.requires.1 in
    entry_inside e _

pub tree_span-t-requires : goal.tree_span-t-requires
tree_span-t-requires c =
    let e = c.requires.0.entry c.args.i c.requires.1 in
    ap is_atom (c.rest_from.ensures ∙ ap (λ (k : ℕ). drop k c.args.f.now) (entry_start e _)) ∙ e.atom

pub rows_at-requires : goal.rows_at-requires
rows_at-requires c =
    let e = c.requires.0.entry c.args.i c.requires.1 in
    ap sized
    (c.tree_span-t.ensures
    ∙ ap tree_span (c.rest_from.ensures ∙ ap (λ (k : ℕ). drop k c.args.f.now) (entry_start e _)))
    ∙ e.shape

pub returns-in-None : goal.returns-in-None
returns-in-None c =
    let e = c.requires.0.entry c.args.i c.requires.1 in
    word_none e.at _ _ _ c.args.i (entry_table e _ ∙ c.in-None.is)

pub returns-in-Some : goal.returns-in-Some
returns-in-Some c =
    let e = c.requires.0.entry c.args.i c.requires.1 in
    let tree =
    ap decode
    (c.tree_span-t.ensures
    ∙ ap tree_span (c.rest_from.ensures ∙ ap (λ (k : ℕ). drop k c.args.f.now) (entry_start e _)))
    ∙ e.tree in
    word_some e.at _ _ _ c.args.i c.in-Some.table (entry_table e _ ∙ c.in-Some.is)
    (c.rows_at.ensures ∙ ap (table_f 64 c.args.w c.args.p c.in-Some.table.vars) tree)
