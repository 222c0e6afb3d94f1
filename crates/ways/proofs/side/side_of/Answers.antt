-- `side_of` meets its contract: the marks of the two sides tell which of them has a variable.
use mathlib.Core.Path.{refl, sym, ◌∙◌}
use native.Mathlib.Omega.{arith}
use Rattle.ways.specs.Spans.{span_of}
use Rattle.ways.proofs.SpanOfLaws.{span_end}
use Rattle.ways.proofs.SideLaws.{left_sized, right_sized, right_number_is, sides_size}
use Rattle.ways.proofs.SideLaws.{left_value, right_value, left_variable, right_variable}
use Rattle.ways.proofs.SideLaws.{sides_pos, side_left, side_right}
use Rattle.ways.proofs.TwoSidesLaws.{two_whole, binary_sides}
use Rattle.ways.proofs.side.side_of.Goals as goal

pub number_of-number-requires : goal.number_of-number-requires
unfolding span_of
number_of-number-requires c =
    two_whole (binary_sides c.requires.0 c.requires.2) refl c.cut-cut.ensures.0

pub overflow_sub-last : goal.overflow_sub-last
overflow_sub-last c =
    omega (arith, sides_size c.requires.0 c.requires.2)

pub overflow_sub-number : goal.overflow_sub-number
unfolding span_of
overflow_sub-number c =
    let spot = c.requires.0 in
    let two = c.requires.2 in
    let number_is = right_number_is spot two c.cut-cut.ensures.0 c.number_of-number.ensures in
    omega (arith, number_is, (sides_pos spot two).0)

pub bounds-marks-number : goal.bounds-marks-number
unfolding span_of
bounds-marks-number c =
    let spot = c.requires.0 in
    let two = c.requires.2 in
    let number_is = right_number_is spot two c.cut-cut.ensures.0 c.number_of-number.ensures in
    omega (arith, number_is, sides_size spot two)

pub constant_value-value-requires : goal.constant_value-value-requires
unfolding span_of
constant_value-value-requires c =
    (left_sized c.requires.0 c.requires.2 c.left.ensures, c.requires.1)

pub overflow_sub-result : goal.overflow_sub-result
overflow_sub-result c =
    omega (arith, span_end c.requires.0.span)

pub returns-then-not-has_variable : goal.returns-then-not-has_variable
unfolding span_of
returns-then-not-has_variable c =
    let spot = c.requires.0 in
    let two = c.requires.2 in
    let number_is = right_number_is spot two c.cut-cut.ensures.0 c.number_of-number.ensures in
    side_right spot two c.cut-cut.ensures.0 number_is _
    (sym (left_variable spot two number_is c.has_variable.ensures) ∙ c.if-not-has_variable.true)
    (left_value spot two c.constant_value-value.ensures c.left.ensures)

pub overflow_sub-last-2 : goal.overflow_sub-last-2
overflow_sub-last-2 c =
    let pos = sides_pos c.requires.0 c.requires.2 in
    omega (arith, pos.0, pos.1, sides_size c.requires.0 c.requires.2)

pub bounds-marks-last : goal.bounds-marks-last
bounds-marks-last c =
    omega (arith, sides_size c.requires.0 c.requires.2)

pub returns-then-has_variable : goal.returns-then-has_variable
unfolding span_of
returns-then-has_variable c =
    let spot = c.requires.0 in
    let two = c.requires.2 in
    let number_is = right_number_is spot two c.cut-cut.ensures.0 c.number_of-number.ensures in (
      sym (left_variable spot two number_is c.has_variable.ensures) ∙ c.if-not-has_variable.false,
      sym (right_variable spot two c.has_variable-2.ensures) ∙ c.if-has_variable.true,
    )

pub constant_value-value-requires-2 : goal.constant_value-value-requires-2
unfolding span_of
constant_value-value-requires-2 c =
    (right_sized c.requires.0 c.requires.2 c.right.ensures, c.requires.1)

pub returns : goal.returns
unfolding span_of
returns c =
    let spot = c.requires.0 in
    let two = c.requires.2 in
    let number_is = right_number_is spot two c.cut-cut.ensures.0 c.number_of-number.ensures in
    side_left spot two c.cut-cut.ensures.0 number_is _
    (sym (left_variable spot two number_is c.has_variable.ensures) ∙ c.if-not-has_variable.false)
    (sym (right_variable spot two c.has_variable-2.ensures) ∙ c.if-has_variable.false)
    (right_value spot two c.constant_value-value-2.ensures c.right.ensures)
