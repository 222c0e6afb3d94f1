use native.Mathlib.Omega.{arith}
use Rattle.made.proofs.WordsLaws.{wrote_masked}
use Rattle.made.proofs.put_masked.Goals as goal

pub returns : goal.returns
returns c =
    let a = c.args in
    let pre = c.requires in
    wrote_masked a.w a.hash a.b.now pre.1 a.m (omega arith) a.out.now a.at a.size pre.0.inside
    pre.0.size_is c.masked_hash.ensures c.put_record.ensures c.put.ensures
    c.put_record-2.ensures c.put_record-3.ensures
