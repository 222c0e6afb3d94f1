-- Byte 1 of the heads of a sheet (ticket #107): sheets that differ there alone, and those that are accepted.
use Rattle.std.specs.Prelude.{◌≡◌, List, [], ◌∷◌, Bool, true, ◌&&◌, leb}
use Rattle.semilinear.specs.Form.{Row, Form}
use Rattle.semilinear.specs.DecodeForm.{retired}

-- the forms differ in byte 1 of their heads alone
abbrev pub SameButHeads : Form → Form → Type 0
SameButHeads f g = retired f ≡ retired g

-- that byte is 0 to 4 in every row
unfoldable pub known_rows : List Row → Bool
known_rows [] = true
known_rows (x ∷ l) = leb x.provenance 4 && known_rows l
