-- `put_atom` meets its contract.
use Rattle.atom_table.proofs.TableLaws.{put_atom_span}
use Rattle.record.proofs.SizedLaws.{sized_big}
use Rattle.atom_table.proofs.table.put_atom.Goals as goal

pub size-requires : goal.size-requires
size-requires c = sized_big _ c.requires.1

pub returns : goal.returns
returns c =
    let a = c.args in
    cc (put_atom_span a.out.now a.at a.w a.t.now c.requires.0, c.requires.2)
