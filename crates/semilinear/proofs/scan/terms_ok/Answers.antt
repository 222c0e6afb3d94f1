-- `terms_ok` meets its contract: the loop keeps that the terms from `at` on decide.
use mathlib.Core.Path.{sym, ◌∙◌}
use native.Mathlib.Omega.{arith}
use Rattle.semilinear.proofs.ScanLaws.{terms_ok_next, terms_ok_stop, terms_left, term_rest}
use Rattle.semilinear.proofs.scan.terms_ok.Goals as goal

pub returns-then-not-term_ok : goal.returns-then-not-term_ok
returns-then-not-term_ok c =
    sym
    (c.loop-term.invariant.1
    ∙ terms_ok_stop c.in-Some.ensures.steps c.args.w c.args.n c.loop-term.next (sym c.term_ok.ensures ∙ c.if-not-term_ok.true))

pub loop-term-preserved : goal.loop-term-preserved
loop-term-preserved c = (
  omega (arith, c.loop-term.invariant.0, term_rest c.in-Some.ensures.steps),
  c.loop-term.invariant.1
      ∙ terms_ok_next c.in-Some.ensures.steps c.args.w c.args.n c.loop-term.next (sym c.term_ok.ensures ∙ c.if-not-term_ok.false),
)

pub returns : goal.returns
returns c =
    terms_left c.args.w c.args.n c.loop-term.next _ _ _ c.in-None.ensures.steps.0 c.loop-term.invariant.0
    ∙ sym c.loop-term.invariant.1
