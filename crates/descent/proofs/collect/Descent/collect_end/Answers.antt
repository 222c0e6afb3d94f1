-- `collect_end` meets its contract: by the coefficient and the root's mark.
use mathlib.Core.Path.{ap, sym, ◌∙◌}
use Prim.Native.Nat.{ℕ}
use native.Mathlib.Omega.{arith}
use mathlib.Core.List.{List, []}
use borrow.Author.Tests.{ne_eqb}
use Rattle.arith.specs.Width.{mod_mul}
use Rattle.record.specs.Decode.{decode}
use Rattle.expr.specs.Value.{value}
use Rattle.normalizer_laws.specs.Collect.{linear}
use Rattle.ways.proofs.SpanOfLaws.{span_sized}
use Rattle.ways.proofs.SideLaws.{spot_some, spot_marks, spot_variable}
use Rattle.descent.proofs.CollectsLaws.{collects_as, collects_more, collects_none}
use Rattle.descent.proofs.CollectsLaws.{collects_constant, ready_less}
use Rattle.descent.proofs.WayDownLaws.{end_zero, end_constant, end_whole}
use Rattle.descent.proofs.collect.Descent.collect_end.Goals as goal

pub returns-then-x-eq0 : goal.returns-then-x-eq0
returns-then-x-eq0 c =
    collects_as (end_zero _ _ _ c.if-x-eq0.true) (collects_none _ _ _ _ _ c.requires.1)

pub overflow_sub-marks : goal.overflow_sub-marks
overflow_sub-marks c = spot_some c.requires.0

pub bounds-marks-marks : goal.bounds-marks-marks
bounds-marks-marks c = omega (arith, spot_some c.requires.0)

pub constant_value-requires : goal.constant_value-requires
constant_value-requires c =
    (rw c.span_of-t.ensures (span_sized c.requires.0.span), c.requires.1.width)

pub returns-then-not-has_variable : goal.returns-then-not-has_variable
returns-then-not-has_variable c =
    let closed = c.if-not-has_variable.true in
    let none = spot_variable c.requires.0 c.has_variable.ensures closed in
    let w = c.args.w in
    let value_is =
    c.constant_value.ensures ∙ ap (λ (l : List ℕ). value w [] (decode l)) c.span_of-t.ensures in
    collects_as
    (end_constant _ _ _ (ne_eqb _ 0 c.if-x-eq0.false) none
    ∙ ap (λ (v : ℕ). linear (mod_mul c.args.x.coeff v w) []) (sym value_is))
    (collects_constant _ _ _ _ _ c.requires.1 _ _ c.add_constant.ensures)

pub collect_whole-requires : goal.collect_whole-requires
collect_whole-requires c =
    let at = c.requires.0 in
    record {
      spot = at;
      ready = ready_less 1 (omega (arith, spot_some at, spot_marks at)) c.requires.1;
      some = ne_eqb _ 0 c.if-x-eq0.false;
      variable = spot_variable at c.has_variable.ensures c.if-not-has_variable.false;
    }

pub returns : goal.returns
returns c =
    let at = c.requires.0 in
    let some = spot_variable at c.has_variable.ensures c.if-not-has_variable.false in
    collects_more _ (omega (arith, spot_some at, spot_marks at))
    (collects_as (end_whole _ _ _ (ne_eqb _ 0 c.if-x-eq0.false) some) c.collect_whole.ensures)
