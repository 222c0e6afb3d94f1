-- `refine_at` meets its contract: the view of the row names the basis.
use mathlib.Core.Path.{refl}
use Rattle.views.specs.Views.{basis_bytes}
use Rattle.lone.proofs.LoneLaws.{at_first}
use Rattle.group.proofs.PassLaws.{at_group}
use Rattle.refine_group.proofs.RefiningLaws.{lone_refined}
use Rattle.views.proofs.ViewsLaws.{view_some}
use Rattle.term_refiner.proofs.refine_at.Goals as goal

pub unwrap-v-requires : goal.unwrap-v-requires
unwrap-v-requires c = rw c.requires.ready.some refl

pub first_stays_alone-requires : goal.first_stays_alone-requires
unfolding basis_bytes
first_stays_alone-requires c =
    (c.requires.ready.width, rw (← view_some c.args.views.now c.args.first c.unwrap-v.ensures) (at_first c.requires))

pub returns-then-first_stays_alone : goal.returns-then-first_stays_alone
unfolding basis_bytes
returns-then-first_stays_alone c =
    let e = view_some c.args.views.now c.args.first c.unwrap-v.ensures in
    let alone = c.first_stays_alone.ensures c.if-first_stays_alone.true in
    rw e
    (lone_refined _ (c.unwrap-v.result) _ c.requires.ready.width c.requires.ready.room
    (rw e at alone.lone) (rw e at alone.stays) c.add_word.ensures)

pub refine_group-requires : goal.refine_group-requires
unfolding basis_bytes
refine_group-requires c = rw (← view_some c.args.views.now c.args.first c.unwrap-v.ensures) (at_group c.requires.ready)

pub returns : goal.returns
unfolding basis_bytes
returns c = rw (view_some c.args.views.now c.args.first c.unwrap-v.ensures) c.refine_group.ensures
