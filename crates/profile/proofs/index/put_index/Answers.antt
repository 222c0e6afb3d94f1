-- `put_index` meets its contract: the loop keeps that the facts of the first i atoms stand in the index.
use mathlib.Core.Path.{refl, ◌∙◌}
use native.Mathlib.Omega.{arith}
use Prim.Native.Nat.{◌<◌}
use lib.ListN.{length, length-set}
use Rattle.profile.proofs.IndexLaws.{trees_count, indexing_all, indexing_atom, here_sized, here_count, here_inside}
use Rattle.profile.proofs.index.put_index.Goals as goal

pub atom_facts-known-requires : goal.atom_facts-known-requires
atom_facts-known-requires c = here_sized _ _ _ _ _ c.loop-atom.invariant.0 c.in-Some.ensures.steps

pub offset_bounds-index-i : goal.offset_bounds-index-i
offset_bounds-index-i c =
    let more = here_count _ _ _ _ _ c.loop-atom.invariant.0 c.in-Some.ensures.steps in
    omega (arith, more, trees_count c.args.f.now, c.requires.1, c.loop-atom.invariant.1)

pub bounds-index-i : goal.bounds-index-i
bounds-index-i c =
    let more = here_count _ _ _ _ _ c.loop-atom.invariant.0 c.in-Some.ensures.steps in
    omega (arith, more, trees_count c.args.f.now, c.requires.1, c.loop-atom.invariant.1)

pub overflow_add-at : goal.overflow_add-at
overflow_add-at c =
    let inside = here_inside _ _ _ _ _ c.loop-atom.invariant.0 c.in-Some.ensures.steps in
    omega (arith, inside, c.len-at.ensures)

pub overflow_add-i : goal.overflow_add-i
overflow_add-i c =
    let more = here_count _ _ _ _ _ c.loop-atom.invariant.0 c.in-Some.ensures.steps in
    omega (arith, more, trees_count c.args.f.now, c.requires.1)

pub loop-atom-preserved : goal.loop-atom-preserved
loop-atom-preserved c =
    let more = here_count _ _ _ _ _ c.loop-atom.invariant.0 c.in-Some.ensures.steps in
    let room : c.loop-atom.i < length c.loop-atom.index = omega (arith, more, trees_count c.args.f.now, c.requires.1, c.loop-atom.invariant.1) in (
      rw c.len-at.ensures
          (indexing_atom _ _ _ _ _ c.loop-atom.invariant.0 c.in-Some.ensures.steps c.atom_facts-known.ensures room refl),
      length-set c.loop-atom.index c.loop-atom.i c.atom_facts-known.result ∙ c.loop-atom.invariant.1,
    )

pub returns : goal.returns
returns c =
    indexing_all _ _ _ _ _ c.loop-atom.invariant.0 c.in-None.ensures.steps.0
    (omega (arith, trees_count c.args.f.now, c.requires.1, c.loop-atom.invariant.1))
