-- `recover_at` meets its contract: the view of the row names the basis.
use mathlib.Core.Path.{refl}
use Rattle.views.specs.Views.{basis_bytes}
use Rattle.lone.proofs.LoneLaws.{at_first}
use Rattle.group.proofs.PassLaws.{at_group}
use Rattle.structure_recovery.proofs.GroupRecoveredLaws.{lone_recovered}
use Rattle.views.proofs.ViewsLaws.{view_some}
use Rattle.structure_recovery.proofs.recover.recover_at.Goals as goal

pub unwrap-v-requires : goal.unwrap-v-requires
unwrap-v-requires c = rw c.requires.ready.some refl

pub first_is_lone-requires : goal.first_is_lone-requires
unfolding basis_bytes
first_is_lone-requires c = rw (← view_some c.args.views.now c.args.first c.unwrap-v.ensures) (at_first c.requires)

pub returns-then-first_is_lone : goal.returns-then-first_is_lone
unfolding basis_bytes
returns-then-first_is_lone c =
    let e = view_some c.args.views.now c.args.first c.unwrap-v.ensures in
    let lone = rw e at (c.first_is_lone.ensures c.if-first_is_lone.true) in
    rw e
    (lone_recovered _ (c.unwrap-v.result) _ c.requires.ready.width c.requires.ready.room lone
    c.add_word.ensures)

pub recover_group-requires : goal.recover_group-requires
unfolding basis_bytes
recover_group-requires c = rw (← view_some c.args.views.now c.args.first c.unwrap-v.ensures) (at_group c.requires.ready)

pub returns : goal.returns
unfolding basis_bytes
returns c = rw (view_some c.args.views.now c.args.first c.unwrap-v.ensures) c.recover_group.ensures
