-- `atom_length` meets its contract: within the bytes, since the atom has room.
use Rattle.semilinear.specs.Items.{atom_length}
use Rattle.semilinear.proofs.ItemsLaws.{atom_room}
use native.Mathlib.Omega.{arith}
use Rattle.semilinear.proofs.items.atom_length.Goals as goal

pub front_number-size-requires : goal.front_number-size-requires
front_number-size-requires c = (atom_room _ c.requires).big

pub returns : goal.returns
unfolding atom_length
returns c =
    let h = atom_room _ c.requires in
    (omega (arith, c.front_number-size.ensures.0), omega arith, omega (arith, h.fits, c.front_number-size.ensures.0))
