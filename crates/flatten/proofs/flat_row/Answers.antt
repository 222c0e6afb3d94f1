-- `flat_row` meets its contract: no bits, no place for the coefficient, or a row and its coefficient.
use mathlib.Core.Path.{refl}
use Rattle.flatten.proofs.NewRowLaws.{extended_none, extended_past, extended_put}
use Rattle.flatten.proofs.NewRowLaws.{variable_back, variable_sized, variable_basis_lem}
use Rattle.flatten.proofs.flat_row.Goals as goal

pub returns-then-m-eq0 : goal.returns-then-m-eq0
returns-then-m-eq0 c = extended_none _ _ _ _ _ _ _ c.requires.room c.if-m-eq0.true

pub structural_hash-requires : goal.structural_hash-requires
structural_hash-requires c =
    variable_sized _ _ c.requires.within c.put_variable.ensures

pub create_masked-requires : goal.create_masked-requires
create_masked-requires c =
    record {
      width = c.requires.width;
      basis = variable_basis_lem _ _ c.requires.within c.put_variable.ensures c.structural_hash.ensures;
      room = c.requires.room;
      more = c.requires.more;
    }

pub returns-then-row-coeffs : goal.returns-then-row-coeffs
returns-then-row-coeffs c =
    extended_past _ _ _ c.args.c c.if-m-eq0.false
    (rw (variable_back _ _ c.requires.within c.put_variable.ensures) at c.create_masked.ensures) _
    c.if-row-coeffs.true

pub returns : goal.returns
returns c =
    extended_put _ _ _ c.args.c c.if-m-eq0.false
    (rw (variable_back _ _ c.requires.within c.put_variable.ensures) at c.create_masked.ensures)
    _ _ refl
