-- `create_row` meets its contract: an atom is appended.
use mathlib.Core.Path.{ap, ◌∙◌}
use Rattle.atom_table.specs.declared.table.Table.{Table}
use Rattle.atom_table.specs.Table.{store_of, create_atom}
use Rattle.made.proofs.WordsLaws.{basis_sized, grew_create}
use Rattle.bare.proofs.create_row.Goals as goal

pub create_atom-more-requires : goal.create_atom-more-requires
create_atom-more-requires c =
    let pre = c.requires in
    (pre.0.placed, basis_sized _ _ _ pre.1, pre.1.hashed)

pub returns : goal.returns
returns c =
    let a = c.args in
    let pre = c.requires in
    grew_create a.w a.t.now (basis_sized _ _ _ pre.1) pre.1.same a.made.now a.out.now pre.0
    c.create_atom-more.ensures c.store.ensures
