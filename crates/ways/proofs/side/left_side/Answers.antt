-- `left_side` meets its contract: the record of the definition; its numbers, times 16, are where it begins and ends.
use mathlib.Core.Path.{refl}
use native.Mathlib.Omega.{arith}
use Rattle.ways.specs.Sides.{left_side}
use Rattle.ways.proofs.TwoSidesLaws.{two_whole, two_number}
use Rattle.ways.proofs.side.left_side.Goals as goal

pub number_of-requires : goal.number_of-requires
number_of-requires c =
    two_whole c.requires c.span_of-t.ensures c.cut-cut.ensures.0

pub returns : goal.returns
unfolding left_side
returns c =
    let number = c.number_of.ensures in
    let is =
    two_number c.requires c.span_of-t.ensures c.cut-cut.ensures.0 number in (
      rw (is, c.cut-cut.ensures.0, c.span_of-t.ensures) refl,
      record { from_place = omega arith; to_place = omega (arith, number) },
    )
