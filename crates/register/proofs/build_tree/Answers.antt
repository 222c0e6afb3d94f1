-- `build_tree` meets its contract: the atom says where its subtree stands.
use native.Mathlib.Omega.{arith}
use Rattle.ways.specs.Spans.{span_of}
use Rattle.descent.specs.Spots.{atom_of}
use Rattle.ways.proofs.PartLaws.{length_span}
use Rattle.register.proofs.build_tree.Goals as goal

pub slice_bounds-put_tree-count : goal.slice_bounds-put_tree-count
slice_bounds-put_tree-count c = c.requires.ok.span.rising

pub put_tree-requires : goal.put_tree-requires
unfolding span_of
put_tree-requires c =
    let pre = c.requires in
    let a = pre.ok.span in
    let n = length_span c.args.file.now c.args.atom.spot.start c.args.atom.spot.end a.inside in
    record {
      accepted = a.tree;
      literal_lt = pre.ok.literal_lt;
      long = omega (arith, n, a.inside, pre.long);
      room = omega (arith, n, a.inside, pre.room);
    }

pub returns : goal.returns
unfolding span_of atom_of
returns c = c.put_tree.ensures

pub slice_bounds-put_tree-start : goal.slice_bounds-put_tree-start
slice_bounds-put_tree-start c = c.requires.ok.span.rising

pub slice_bounds-put_tree-end : goal.slice_bounds-put_tree-end
slice_bounds-put_tree-end c = c.requires.ok.span.inside
