-- `right_side` meets its contract: the record of the definition; its numbers, times 16, are where it begins and ends.
use mathlib.Core.Path.{refl}
use native.Mathlib.Omega.{arith}
use Rattle.ways.specs.Sides.{right_side}
use Rattle.ways.proofs.TwoSidesLaws.{two_root, two_whole, two_number}
use Rattle.ways.proofs.side.right_side.Goals as goal

pub overflow_sub-result : goal.overflow_sub-result
overflow_sub-result c =
    omega (arith, two_root c.requires.0)

pub number_of-requires : goal.number_of-requires
number_of-requires c =
    two_whole c.requires.0 c.span_of-t.ensures
    c.cut-cut.ensures.0

pub overflow_sub-result-2 : goal.overflow_sub-result-2
overflow_sub-result-2 c =
    omega (arith, two_root c.requires.0, c.requires.1)

pub returns : goal.returns
unfolding right_side
returns c =
    let number = c.number_of.ensures in
    let is =
    two_number c.requires.0 c.span_of-t.ensures c.cut-cut.ensures.0 number in (
      rw (is, c.cut-cut.ensures.0, c.span_of-t.ensures) refl,
      record {
        from_place = omega (arith, number);
        to_place = omega (arith, two_root c.requires.0, c.requires.1);
      },
    )
