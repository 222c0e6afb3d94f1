-- `register_all` meets its contract: the loop keeps that the table holds the rows of the spots so far.
use native.Mathlib.Omega.{arith}
use mathlib.Core.Path.{refl, sym}
use lib.Seq.{length-take-le}
use Rattle.register.proofs.ReachedLaws.{reached_start, emitted_spot, reached_next}
use Rattle.register.proofs.ReachedLaws.{reached_room, registers_full, registers_end}
use Rattle.register.proofs.register_all.Goals as goal

pub loop-i-init : goal.loop-i-init
loop-i-init c =
    let a = c.args in
    let p = c.requires in (
      reached_start a.w a.file.now a.spots.now a.n a.index.now a.out.now p.1
          c.empty-table.ensures,
      refl,
      refl,
      refl,
    )

pub build_tree-size-requires : goal.build_tree-size-requires
build_tree-size-requires c =
    let p = c.requires.0 in
    let x = c.loop-i in
    record {
      ok = p.spots_ok x.i c.loop-i-test.true;
      room = omega (arith, p.room, x.invariant.1);
      long = p.long;
    }

pub slice_bounds-register_atom-end : goal.slice_bounds-register_atom-end
slice_bounds-register_atom-end c = c.build_tree-size.ensures.inside

pub slice_bounds-register_atom-end-in-loop-i : goal.slice_bounds-register_atom-end-in-loop-i
slice_bounds-register_atom-end-in-loop-i c = sym
    (length-take-le _ _ c.build_tree-size.ensures.inside)

pub register_atom-table-requires : goal.register_atom-table-requires
register_atom-table-requires c =
    record {
      indexed = c.loop-i.invariant.0.indexed;
      accepted = c.build_tree-size.ensures.accepted;
      room =
          reached_room _ _ _ _ _ c.loop-i.invariant.0 c.loop-i-test.true
          c.requires.0.entries c.loop-i.invariant.2;
    }

pub shape_of-tree-then-table : goal.shape_of-tree-then-table
shape_of-tree-then-table c =
    omega (arith, c.build_tree-size.ensures.same_length, c.loop-i.invariant.1)

pub shape_of-index-then-table : goal.shape_of-index-then-table
shape_of-index-then-table c =
    omega (arith, c.index-1.given, c.loop-i.invariant.2)

pub shape_of-out-then-table : goal.shape_of-out-then-table
shape_of-out-then-table c =
    omega (arith, c.out-1.given, c.loop-i.invariant.3)

pub returns-then-table : goal.returns-then-table
returns-then-table c =
    let a = c.args in
    registers_full a.w a.file.now a.spots.now a.n c.loop-i.i
    c.loop-i.invariant.0 c.loop-i-test.true
    (emitted_spot a.w a.file.now a.spots.now c.loop-i.i c.build_tree-size.ensures)
    c.register_atom-table.ensures c.if-table.true

pub loop-i-preserved : goal.loop-i-preserved
loop-i-preserved c =
    let a = c.args in (
      reached_next a.w a.file.now a.spots.now a.n c.loop-i.i
          c.loop-i.invariant.0 c.loop-i-test.true
          (emitted_spot a.w a.file.now a.spots.now c.loop-i.i c.build_tree-size.ensures)
          c.register_atom-table.ensures c.if-table.false,
      omega (arith, c.build_tree-size.ensures.same_length, c.loop-i.invariant.1),
      omega (arith, c.index-1.given, c.loop-i.invariant.2),
      omega (arith, c.out-1.given, c.loop-i.invariant.3),
    )

pub shape_of-tree : goal.shape_of-tree
shape_of-tree c = omega (arith, c.loop-i.invariant.1)

pub shape_of-index : goal.shape_of-index
shape_of-index c = omega (arith, c.loop-i.invariant.2)

pub shape_of-out : goal.shape_of-out
shape_of-out c = omega (arith, c.loop-i.invariant.3)

pub returns : goal.returns
returns c =
    let a = c.args in
    registers_end a.w a.file.now a.spots.now a.n c.loop-i.i c.loop-i.invariant.0
    (omega (arith, c.loop-i-test.false))
