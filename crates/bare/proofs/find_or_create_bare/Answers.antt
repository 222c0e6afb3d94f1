-- `find_or_create_bare` meets its contract: the number that the search finds, or that of a new atom.
use native.Mathlib.Omega.{arith}
use Rattle.bare.proofs.BareFoundLaws.{atoms_inside, taken_atoms, bare_found, bare_created}
use Rattle.bare.proofs.find_or_create_bare.Goals as goal

pub slice_bounds-row_with-end : goal.slice_bounds-row_with-end
slice_bounds-row_with-end c = atoms_inside c.requires.room

pub slice_bounds-row_with-end-2 : goal.slice_bounds-row_with-end-2
slice_bounds-row_with-end-2 c = taken_atoms c.requires.room

pub returns-in-Some : goal.returns-in-Some
returns-in-Some c = bare_found c.requires.basis (omega arith) c.requires.room c.in-Some.ensures

pub returns : goal.returns
returns c = bare_created c.requires.basis (omega arith) c.in_default.ensures c.create_row.ensures
