use mathlib.Core.Path.{◌≡◌, sym, ◌∙◌}
use Prim.Native.Nat.{◌+◌, ◌-◌}
use native.Mathlib.Omega.{arith}
use lib.ListN.{length}
use Rattle.group.specs.Group.{at}
use Rattle.collapse_search.proofs.LinksLaws.{fold_below, linked_none, linked_skip, linked_put}
use Rattle.collapse_search.proofs.links.put_links.Goals as goal
use Rattle.collapse_search.proofs.links.put_links.Goals.{else-apart, then-apart}

pub loop-t-init : goal.loop-t-init
loop-t-init c = linked_none _ _ (omega arith) c.requires.1

pub offset_bounds-first-h : goal.offset_bounds-first-h
offset_bounds-first-h c = omega (arith, fold_below _ c.fold-h.ensures)

pub bounds-first-h : goal.bounds-first-h
bounds-first-h c = omega (arith, fold_below _ c.fold-h.ensures)

pub offset_bounds-first-h-then-apart : goal.offset_bounds-first-h-then-apart
offset_bounds-first-h-then-apart c = omega (arith, fold_below _ c.fold-h.ensures)

pub bounds-first-h-then-apart : goal.bounds-first-h-then-apart
bounds-first-h-then-apart c = omega (arith, fold_below _ c.fold-h.ensures)

pub loop-t-preserved : goal.loop-t-preserved
unfolding at
loop-t-preserved c =
    let h = c.loop-t in
    let n = length c.args.entries.now in
    let k = n - 1 - h.t in
    let e : n - (h.t + 1) ≡ k = omega arith in
    elim c.if-apart.branch [
      | then-apart w ↦
          rw (e, w.first-is, w.next-is)
          (linked_put _ _ k (omega arith) (omega arith) h.invariant w.fold-h.ensures
          (sym c.apart.ensures ∙ w.if-apart.true) (omega arith) (omega arith))
      | else-apart w ↦
          rw (e, w.first-is, w.next-is)
          (linked_skip _ _ k (omega arith) (omega arith) h.invariant (sym c.apart.ensures ∙ w.if-apart.false))
    ]
