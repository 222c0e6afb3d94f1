-- `put_xored` meets its contract: the tree, and its head with the hash of what was put.
use native.Mathlib.Omega.{arith}
use Rattle.pairing.proofs.XoredLaws.{span_xored, span_sized, wrote_xored}
use Rattle.pairing.proofs.xored.put_xored.Goals as goal

pub structural_hash-hash-requires : goal.structural_hash-hash-requires
structural_hash-hash-requires c =
    let a = c.args in
    let pre = c.requires in
    span_sized a.w a.b.now a.m pre.1 pre.2 (omega arith) a.out.now a.at pre.0.inside
    c.put_tree.ensures

pub returns : goal.returns
returns c =
    let a = c.args in
    let pre = c.requires in
    wrote_xored a.w a.b.now a.m pre.1 pre.2 (omega arith) a.out.now a.at a.size pre.0.inside pre.0.size_is
    c.put_tree.ensures
    (span_xored a.w a.b.now a.m pre.1 a.out.now a.at pre.0.inside
    c.put_tree.ensures)
    c.structural_hash-hash.ensures c.put_record.ensures
