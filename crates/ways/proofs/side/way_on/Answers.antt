-- `way_on` meets its contract: a Neg, a Not that is turned, a root with two children, or the end of the descent.
use mathlib.Core.Path.{refl, ap, sym, ◌∙◌}
use Prim.Native.Nat.{ℕ}
use native.Mathlib.Omega.{arith}
use lib.Dec.{eqb}
use Rattle.ways.specs.Spans.{span_of}
use Rattle.ways.proofs.SpanOfLaws.{span_big, span_end, binary_two}
use Rattle.ways.proofs.SideLaws.{spot_some}
use Rattle.ways.proofs.WayLaws.{turned_read, way_neg, way_not, way_end}
use Rattle.ways.proofs.side.way_on.Goals as goal

pub kind-k-requires : goal.kind-k-requires
unfolding span_of
kind-k-requires c = span_big c.requires.spot.span

pub way_neg-requires : goal.way_neg-requires
way_neg-requires c =
    (omega (arith, span_end c.requires.spot.span), spot_some c.requires.spot)

pub returns-then-k : goal.returns-then-k
unfolding span_of
returns-then-k c =
    rw c.way_neg.ensures
    (way_neg _ c.requires.spot c.requires.some c.requires.variable
    (sym c.kind-k.ensures ∙ c.if-k.true))

pub overflow_sub-marks : goal.overflow_sub-marks
overflow_sub-marks c = spot_some c.requires.spot

pub bounds-marks-marks : goal.bounds-marks-marks
bounds-marks-marks c =
    omega (arith, spot_some c.requires.spot)

pub way_neg-requires-then-is_turned : goal.way_neg-requires-then-is_turned
way_neg-requires-then-is_turned c =
    (omega (arith, span_end c.requires.spot.span), spot_some c.requires.spot)

pub returns-then-is_turned : goal.returns-then-is_turned
unfolding span_of
returns-then-is_turned c =
    let kind_is = c.kind-k.ensures in
    rw c.way_neg-then-is_turned.ensures
    (way_not _ c.requires.spot c.requires.some c.requires.variable
    (λ e. c.if-k.false (kind_is ∙ e)) refl c.requires.width_le
    (turned_read _ _ _ _ c.is_turned.ensures kind_is c.if-is_turned.true))

pub root_arity-requires : goal.root_arity-requires
unfolding span_of
root_arity-requires c = span_big c.requires.spot.span

pub returns-then-root_arity-ne2 : goal.returns-then-root_arity-ne2
unfolding span_of
returns-then-root_arity-ne2 c =
    let kind_is = c.kind-k.ensures in
    way_end _ c.requires.spot c.requires.some c.requires.variable
    (λ e. c.if-k.false (kind_is ∙ e)) refl
    (λ e. c.if-root_arity-ne2.true (c.root_arity.ensures ∙ e))
    (turned_read _ _ _ _ c.is_turned.ensures kind_is c.if-is_turned.false)

pub way_two-requires : goal.way_two-requires
unfolding span_of
way_two-requires c =
    let root = c.requires in
    let kind_is = c.kind-k.ensures in (
      record {
        spot = root.spot;
        width_le = root.width_le;
        some = root.some;
        variable = root.variable;
        kind_is = kind_is;
        no_add = ap (λ (k : ℕ). eqb k 2) kind_is ∙ root.no_add;
      },
      binary_two c.requires.spot.span (sym c.root_arity.ensures ∙ c.if-root_arity-ne2.false),
    )

pub returns : goal.returns
unfolding span_of
returns c = rw (← c.kind-k.ensures) c.way_two.ensures
