use mathlib.Core.Path.{refl, sym, ◌∙◌}
use Rattle.group.specs.Group.{at}
use Rattle.group.specs.Collapse.{find_second}
use Rattle.collapse_search.specs.Links.{lent}
use Rattle.collapse_search.proofs.FindLaws.{two_dead, two_apart, two_end, two_found, two_next}
use Rattle.collapse_search.proofs.find.find_second.Goals as goal
use Rattle.collapse_search.proofs.find.find_second.Goals.{then-not-is_live-via-then-not-is_live}
use Rattle.collapse_search.proofs.find.find_second.Goals.{then-not-is_live-via-else-not-is_live+then-not-any_apart}

pub returns-then-not-is_live : goal.returns-then-not-is_live
unfolding at
returns-then-not-is_live c =
    let a = c.args in
    elim c.then-not-is_live.branch [
      | then-not-is_live-via-then-not-is_live w ↦
          two_dead a.w (lent a.entries.now) a.i (sym c.is_live.ensures ∙ w.if-not-is_live.true)
      | then-not-is_live-via-else-not-is_live+then-not-any_apart w ↦
          two_apart a.w (lent a.entries.now) a.i (sym c.is_live.ensures ∙ w.if-not-is_live.false) c.requires.1
          (w.any_apart.ensures w.if-not-any_apart.true)
    ]

pub loop-j-init : goal.loop-j-init
unfolding find_second
loop-j-init c = refl

pub third_for-requires : goal.third_for-requires
unfolding at
third_for-requires c =
    record { few = c.requires.0; i_lt = c.requires.1; j_lt = c.loop-j-test.true; linked = c.put_links.ensures }

pub returns-in-Some : goal.returns-in-Some
unfolding at
returns-in-Some c =
    let a = c.args in
    two_found a.w (lent a.entries.now) a.i (sym c.is_live.ensures ∙ c.if-not-is_live.false) c.loop-j.j
    c.loop-j.invariant c.loop-j-test.true c.third_for.ensures c.in-Some.is

pub loop-j-preserved : goal.loop-j-preserved
unfolding at
loop-j-preserved c =
    let a = c.args in
    two_next a.w (lent a.entries.now) a.i (sym c.is_live.ensures ∙ c.if-not-is_live.false) c.loop-j.j
    c.loop-j.invariant c.loop-j-test.true c.third_for.ensures c.in_default.is

pub returns : goal.returns
unfolding at
returns c =
    let a = c.args in
    two_end a.w (lent a.entries.now) a.i (sym c.is_live.ensures ∙ c.if-not-is_live.false) c.loop-j.j
    c.loop-j.invariant c.loop-j-test.false
