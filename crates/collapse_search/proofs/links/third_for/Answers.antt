use mathlib.Core.Path.{refl, sym, ◌∙◌}
use native.Mathlib.Omega.{arith}
use Rattle.entries.proofs.FoundLaws.{some_below, none_below}
use Rattle.group.specs.Group.{at}
use Rattle.collapse_search.specs.Links.{lent}
use Rattle.collapse_search.proofs.LinksLaws.{fold_below}
use Rattle.collapse_search.proofs.ThirdLaws.{third_dead, chase_start, chase_less, chase_here, chase_next, chase_end}
use Rattle.collapse_search.proofs.links.third_for.Goals as goal

pub returns-then-not-is_live : goal.returns-then-not-is_live
unfolding at
returns-then-not-is_live c =
    let a = c.args in
    let e = third_dead a.w (lent a.entries.now) a.i a.j (sym c.is_live.ensures ∙ c.if-not-is_live.true) in
    none_below (omega (arith, e))

pub offset_bounds-first-h : goal.offset_bounds-first-h
offset_bounds-first-h c = omega (arith, fold_below _ c.fold-h.ensures)

pub bounds-first-h : goal.bounds-first-h
bounds-first-h c = omega (arith, fold_below _ c.fold-h.ensures)

pub loop-k-init : goal.loop-k-init
unfolding at
loop-k-init c =
    let a = c.args in
    chase_start a.w (lent a.entries.now) a.i a.j c.requires.linked (sym c.is_live.ensures ∙ c.if-not-is_live.false)
    c.mod_add-c.ensures c.fold-h.ensures refl

pub returns-then-third_fits : goal.returns-then-third_fits
unfolding at
returns-then-third_fits c =
    let a = c.args in
    let e = chase_here a.w (lent a.entries.now) a.i a.j c.requires.linked c.loop-k.invariant c.loop-k-test.true
    c.mod_add-c.ensures c.third_fits.ensures c.if-third_fits.true in
    rw e (some_below (omega (arith, e, c.loop-k-test.true)))

pub loop-k-smaller : goal.loop-k-smaller
loop-k-smaller c =
    let a = c.args in
    let less = chase_less a.w (lent a.entries.now) a.i a.j c.requires.linked c.loop-k.invariant c.loop-k-test.true in
    omega (arith, less, c.loop-k-test.true)

pub loop-k-preserved : goal.loop-k-preserved
unfolding at
loop-k-preserved c =
    let a = c.args in
    chase_next a.w (lent a.entries.now) a.i a.j c.requires.linked c.loop-k.invariant c.loop-k-test.true
    c.mod_add-c.ensures c.third_fits.ensures c.if-third_fits.false refl

pub returns : goal.returns
returns c =
    let e = chase_end (lent c.args.entries.now) c.loop-k.invariant c.loop-k-test.false in
    none_below (omega (arith, e))
