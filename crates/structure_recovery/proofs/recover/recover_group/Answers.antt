-- `recover_group` meets its contract: the entries looked or there is no partner; the end settles the group.
use mathlib.Core.Path.{ap, ◌∙◌}
use native.Mathlib.Omega.{arith}
use Rattle.arith.specs.Width.{bitmask}
use Rattle.arith.proofs.WidthLaws.{bitmask_ones}
use Rattle.record.specs.Decode.{decode}
use Rattle.group.proofs.PassLaws.{few_entries}
use Rattle.structure_laws.specs.RecoverStructure.{recover_group}
use Rattle.pairing.specs.Recovering.{Recovered}
use Rattle.structure_recovery.proofs.GroupRecoveredLaws.{recovered_none, recovered_met, group_past}
use Rattle.structure_recovery.proofs.GroupRecoveredLaws.{group_settled, settled_at, alone_at}
use Rattle.structure_recovery.proofs.recover.recover_group.Goals as goal
use Rattle.structure_recovery.proofs.recover.recover_group.Goals.{Joined-any_partner, else-any_partner, then-any_partner}

-- the entries looked, or would have found nothing
joined1 : (c : Joined-any_partner)
    → Recovered c.args.w 256 (recover_group c.args.w (decode c.args.b.now))
    c.gather_rows.new.self c.args.made.now c.args.out.now c.if-any_partner.g c.if-any_partner.made
    c.if-any_partner.out
joined1 c =
    let taken = c.used.ensures in
    elim c.if-any_partner.branch [
      | then-any_partner w ↦ recovered_met w.made-is w.out-is w.g-is w.recover_entries.ensures
      | else-any_partner w ↦ recovered_met w.made-is w.out-is w.g-is
          (recovered_none _
          (c.bitmask.ensures ∙ ap bitmask c.from.ensures ∙ bitmask_ones c.args.w c.requires.makes.width)
          (alone_at _ c.gather_rows.new.self taken.0 (c.any_partner.ensures w.if-any_partner.false)) c.requires.makes.room)
    ]

pub used-requires : goal.used-requires
used-requires c = few_entries _ _ _ _ _ c.gather_rows.ensures c.requires.few

pub returns-then-made : goal.returns-then-made
returns-then-made c =
    group_past _ (joined1 (goal.at.returns-then-made c).Joined-any_partner) c.if-made.true _ c.gather_rows.ensures

pub returns : goal.returns
returns c =
    let last = c.used-2.ensures in
    group_settled _ (joined1 (goal.at.returns c).Joined-any_partner) c.requires.makes.width
    (c.settle.ensures ∙ settled_at c.if-any_partner.g c.from-2.ensures last.0 c.args.coeffs.now)
    c.gather_rows.ensures

pub recover_entries-requires : goal.recover_entries-requires
recover_entries-requires c =
    let pre = c.requires in
    record { makes = pre.makes; few = few_entries _ _ _ _ _ c.gather_rows.ensures pre.few }

pub used-requires-2 : goal.used-requires-2
used-requires-2 c =
    let one = joined1 (goal.at.used-requires-2 c).Joined-any_partner in
    omega (arith, one.len, few_entries _ _ _ _ _ c.gather_rows.ensures c.requires.few)
