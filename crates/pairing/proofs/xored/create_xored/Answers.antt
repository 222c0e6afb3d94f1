-- `create_xored` meets its contract: the Xor is appended.
use mathlib.Core.Path.{ap, ◌∙◌}
use native.Mathlib.Omega.{arith}
use Rattle.atom_table.specs.declared.table.Table.{Table}
use Rattle.atom_table.specs.Table.{store_of, create_atom}
use Rattle.pairing.proofs.XoredLaws.{xor_bytes, grew_xored}
use Rattle.pairing.proofs.xored.create_xored.Goals as goal

pub join_xored-more-requires : goal.join_xored-more-requires
join_xored-more-requires c =
    let pre = c.requires in
    (pre.room.placed, pre.same, pre.encodable)

pub returns : goal.returns
returns c =
    let a = c.args in
    let pre = c.requires in
    grew_xored a.w a.b.now a.m pre.same pre.encodable (omega arith) a.made.now a.out.now pre.room
    c.join_xored-more.ensures c.store.ensures
