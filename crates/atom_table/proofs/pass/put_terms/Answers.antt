-- `put_terms` meets its contract: after i turns the terms of the first i coefficients are put.
use mathlib.Core.Path.{refl, ◌∙◌}
use native.Mathlib.Omega.{arith}
use Rattle.atom_table.proofs.TermsLaws.{length_term_put, terms_put_start, terms_put_room, terms_put_next}
use Rattle.atom_table.proofs.pass.put_terms.Goals as goal

pub loop-i-init : goal.loop-i-init
loop-i-init c = (terms_put_start _ _ _ _ _, refl)

pub put_row-x-requires : goal.put_row-x-requires
put_row-x-requires c =
    let pre = c.requires in
    let room = terms_put_room _ _ _ _ _ _ _ _ c.loop-i.invariant.0 in
    let less = c.loop-i-test.true in (
      omega (arith, room.0, less, pre.room, c.loop-i.invariant.1),
      omega (arith, less, pre.most),
      omega (arith, room.1, less, pre.most),
    )

pub loop-i-preserved : goal.loop-i-preserved
loop-i-preserved c =
    let pre = c.requires in
    let less = c.loop-i-test.true in
    let one = c.put_row-x.ensures in
    let room = terms_put_room _ _ _ _ _ _ _ _ c.loop-i.invariant.0 in (
      terms_put_next _ _ _ _ _ c.loop-i.i _ _ _ _ (omega (arith, less, pre.room)) c.loop-i.invariant.0 _ refl one,
      length_term_put (omega (arith, room.0, less, pre.room, c.loop-i.invariant.1)) one ∙ c.loop-i.invariant.1,
    )
