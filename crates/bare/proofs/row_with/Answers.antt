-- `row_with` meets its contract: the loop passes atoms that have another tree.
use mathlib.Core.Path.{sym, ◌∙◌}
use Prim.Native.Nat.{◌-◌}
use native.Mathlib.Omega.{arith}
use Rattle.bare.proofs.SearchLaws.{passed_none, passed_end, passed_found}
use Rattle.bare.proofs.SearchLaws.{passed_next, atom_inside}
use Rattle.bare.proofs.row_with.Goals as goal

pub loop-r-init : goal.loop-r-init
loop-r-init c = passed_none _ _ _

pub rest_from-r-requires : goal.rest_from-r-requires
rest_from-r-requires c = c.loop-r.invariant.inside

pub returns-then-not-is_atom : goal.returns-then-not-is_atom
returns-then-not-is_atom c =
    passed_end _ _ _ _ _ c.loop-r.invariant c.rest_from-r.ensures
    (sym c.is_atom.ensures ∙ c.if-not-is_atom.true)

pub has_tree-requires : goal.has_tree-requires
has_tree-requires c = sym c.is_atom.ensures ∙ c.if-not-is_atom.false

pub returns-then-has_tree : goal.returns-then-has_tree
returns-then-has_tree c =
    passed_found _ _ _ _ _ c.loop-r.invariant c.rest_from-r.ensures
    (sym c.is_atom.ensures ∙ c.if-not-is_atom.false) (sym c.has_tree.ensures ∙ c.if-has_tree.true)

pub overflow_add-i : goal.overflow_add-i
overflow_add-i c = omega (arith, c.loop-r.invariant.bytes, c.loop-r.invariant.inside)

pub atom_length-at-requires : goal.atom_length-at-requires
atom_length-at-requires c = sym c.is_atom.ensures ∙ c.if-not-is_atom.false

pub overflow_add-at : goal.overflow_add-at
overflow_add-at c =
    omega (
      arith,
      atom_inside _ _ _ _ _ c.loop-r.invariant c.rest_from-r.ensures
          (sym c.is_atom.ensures ∙ c.if-not-is_atom.false),
      c.atom_length-at.ensures.0,
    )

pub loop-r-smaller : goal.loop-r-smaller
loop-r-smaller c =
    omega (
      arith,
      atom_inside _ _ _ _ _ c.loop-r.invariant c.rest_from-r.ensures
          (sym c.is_atom.ensures ∙ c.if-not-is_atom.false),
      c.atom_length-at.ensures.0,
      c.atom_length-at.ensures.1,
    )

pub loop-r-preserved : goal.loop-r-preserved
loop-r-preserved c =
    rw c.atom_length-at.ensures.0
    (passed_next _ _ _ _ _ c.loop-r.invariant c.rest_from-r.ensures
    (sym c.is_atom.ensures ∙ c.if-not-is_atom.false)
    (sym c.has_tree.ensures ∙ c.if-has_tree.false))
