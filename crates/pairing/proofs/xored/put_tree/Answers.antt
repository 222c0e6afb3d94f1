-- `put_tree` meets its contract: the literal, the basis and the root.
use Rattle.pairing.proofs.XoredLaws.{wrote_tree}
use Rattle.pairing.proofs.xored.put_tree.Goals as goal

pub returns : goal.returns
returns c =
    let a = c.args in
    let pre = c.requires in
    wrote_tree a.w a.b.now a.m pre.same a.out.now a.at a.size pre.inside pre.size_is
    c.put_record.ensures
    c.put.ensures c.put_record-2.ensures
