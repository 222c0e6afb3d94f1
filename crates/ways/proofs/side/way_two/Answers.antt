-- `way_two` meets its contract: a case for each kind of root with two children.
use native.Mathlib.Omega.{arith}
use Rattle.ways.proofs.SideLaws.{spot_some, spot_arith}
use Rattle.ways.proofs.WayLaws.{way_mul, way_mul_end, way_and, way_arith, way_both, way_masked}
use Rattle.ways.proofs.side.way_two.Goals as goal
use Rattle.ways.proofs.side.way_two.Goals.{then-k-2-via-then-k-2, then-k-2-via-else-k-2+then-has_arith}

pub returns-in-Some : goal.returns-in-Some
returns-in-Some c =
    let root = c.requires.0 in
    way_mul _ root.spot root.some root.variable root.kind_is root.no_add c.requires.1
    c.if-k.true c.in-Some.ensures c.mod_mul.ensures

pub returns-in-None : goal.returns-in-None
returns-in-None c =
    let root = c.requires.0 in
    way_mul_end _ root.spot root.some root.variable root.kind_is root.no_add c.requires.1
    c.if-k.true c.in-None.ensures.0 c.in-None.ensures.1

pub returns-then-k-2 : goal.returns-then-k-2
returns-then-k-2 c =
    let root = c.requires.0 in
    elim c.then-k-2.branch [
      | then-k-2-via-then-k-2 w ↦
          way_and _ root.spot root.some root.variable root.kind_is root.no_add c.requires.1 w.if-k-2.true
      | then-k-2-via-else-k-2+then-has_arith w ↦
          way_arith _ root.spot root.some root.variable root.kind_is root.no_add c.requires.1
          c.if-k.false w.if-k-2.false (spot_arith root.spot w.has_arith.ensures w.if-has_arith.true)
    ]

pub overflow_sub-marks : goal.overflow_sub-marks
overflow_sub-marks c = spot_some c.requires.0.spot

pub bounds-marks-marks : goal.bounds-marks-marks
bounds-marks-marks c = omega (arith, spot_some c.requires.0.spot)

pub returns-in-Some-side_of : goal.returns-in-Some-side_of
returns-in-Some-side_of c =
    let root = c.requires.0 in
    way_masked _ root.spot root.some root.variable root.kind_is root.no_add c.requires.1
    c.if-k.false c.if-k-2.false
    (spot_arith root.spot c.has_arith.ensures c.if-has_arith.false) c.in-Some-side_of.ensures

pub returns-in-None-side_of : goal.returns-in-None-side_of
returns-in-None-side_of c =
    let root = c.requires.0 in
    way_both _ root.spot root.some root.variable root.kind_is root.no_add c.requires.1
    c.if-k.false c.if-k-2.false
    (spot_arith root.spot c.has_arith.ensures c.if-has_arith.false) c.in-None-side_of.ensures.0 c.in-None-side_of.ensures.1
