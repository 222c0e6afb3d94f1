-- `free_side` meets its contract: where the right side has no variable, the left one has one.
use mathlib.Core.Path.{ap, sym, ◌∙◌}
use Prim.Native.Nat.{ℕ}
use mathlib.Core.List.{List}
use mathlib.Core.Bool.{Bool}
use Rattle.record.specs.Decode.{decode}
use Rattle.expr_utils.specs.Utils.{is_constant_subtree}
use Rattle.decompose.specs.Basis.{free_side}
use Rattle.decompose.proofs.DecomposeLaws.{sized_sides, left_open}
use Rattle.decompose.proofs.free_side.Goals as goal

abbrev is_free : List ℕ → Bool
is_free s = is_constant_subtree (decode s)

pub is_constant_subtree-requires : goal.is_constant_subtree-requires
is_constant_subtree-requires c = rw c.left-l.ensures (sized_sides 0 c.args.t.now c.requires.0 c.requires.1).0

pub returns-then-is_constant_subtree : goal.returns-then-is_constant_subtree
unfolding free_side
returns-then-is_constant_subtree c =
    sym (simp (sym (c.is_constant_subtree.ensures ∙ ap is_free c.left-l.ensures) ∙ c.if-is_constant_subtree.true))

pub is_constant_subtree-requires-then-l-r : goal.is_constant_subtree-requires-then-l-r
is_constant_subtree-requires-then-l-r c =
    rw c.right-r.ensures (sized_sides 0 c.args.t.now c.requires.0 c.requires.1).1

pub returns-then-is_constant_subtree-2 : goal.returns-then-is_constant_subtree-2
unfolding free_side
returns-then-is_constant_subtree-2 c =
    sym
    (simp (
      sym (c.is_constant_subtree.ensures ∙ ap is_free c.left-l.ensures) ∙ c.if-is_constant_subtree.false,
      sym (c.is_constant_subtree-then-l-r.ensures ∙ ap is_free c.right-r.ensures) ∙ c.if-is_constant_subtree-2.true,
    ))

pub returns-then-l-r : goal.returns-then-l-r
unfolding free_side
returns-then-l-r c =
    sym
    (simp (
      sym (c.is_constant_subtree.ensures ∙ ap is_free c.left-l.ensures) ∙ c.if-is_constant_subtree.false,
      sym (c.is_constant_subtree-then-l-r.ensures ∙ ap is_free c.right-r.ensures) ∙ c.if-is_constant_subtree-2.false,
    ))

pub is_constant_subtree-requires-2 : goal.is_constant_subtree-requires-2
is_constant_subtree-requires-2 c = rw c.right-r.ensures (sized_sides 0 c.args.t.now c.requires.0 c.requires.1).1

pub returns-then-is_constant_subtree-3 : goal.returns-then-is_constant_subtree-3
unfolding free_side
returns-then-is_constant_subtree-3 c =
    let free = sym (c.is_constant_subtree-2.ensures ∙ ap is_free c.right-r.ensures) ∙ c.if-is_constant_subtree-3.true in
    sym (simp (left_open 0 c.args.t.now c.requires.0 c.requires.1 c.requires.2 free, free))

pub is_constant_subtree-requires-3 : goal.is_constant_subtree-requires-3
is_constant_subtree-requires-3 c = rw c.left-l.ensures (sized_sides 0 c.args.t.now c.requires.0 c.requires.1).0

pub returns-then-is_constant_subtree-4 : goal.returns-then-is_constant_subtree-4
unfolding free_side
returns-then-is_constant_subtree-4 c =
    sym (simp (sym (c.is_constant_subtree-3.ensures ∙ ap is_free c.left-l.ensures) ∙ c.if-is_constant_subtree-4.true))

pub returns : goal.returns
unfolding free_side
returns c =
    sym
    (simp (
      sym (c.is_constant_subtree-3.ensures ∙ ap is_free c.left-l.ensures) ∙ c.if-is_constant_subtree-4.false,
      sym (c.is_constant_subtree-2.ensures ∙ ap is_free c.right-r.ensures) ∙ c.if-is_constant_subtree-3.false,
    ))
