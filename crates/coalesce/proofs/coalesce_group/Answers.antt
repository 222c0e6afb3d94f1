-- `coalesce_group` meets its contract: the table is full, the group is settled, or it is rewritten.
use mathlib.Core.Path.{◌∙◌}
use native.Mathlib.Omega.{arith}
use Rattle.record.specs.Decode.{decode}
use Rattle.group.specs.Gathered.{gathered}
use Rattle.group.proofs.PassLaws.{few_entries}
use Rattle.carried.proofs.NewTermsLaws.{coalesced_full}
use Rattle.made.proofs.WordsLaws.{makes_fewer}
use Rattle.coalesce.proofs.CoalesceTurnLaws.{group_past, short_turn, many_turn, rewritten_turn}
use Rattle.coalesce.proofs.CoalesceTurnLaws.{carried_count, atoms_below, carried_at, settled_at, coalesced_of}
use Rattle.coalesce.proofs.coalesce_group.Goals as goal

pub returns-then-made : goal.returns-then-made
returns-then-made c =
    let a = c.args in
    coalesced_full c.requires.makes.room c.if-made.true
    (group_past a.w (decode a.b.now) (gathered a.f.now a.views.now a.hash a.b.now a.n))

pub gather_rows-requires : goal.gather_rows-requires
gather_rows-requires c =
    let pre = c.requires in
    (c.empty-g.ensures, pre.readable, pre.few)

pub returns-then-g-lt2 : goal.returns-then-g-lt2
returns-then-g-lt2 c =
    let a = c.args in
    let pre = c.requires in
    let e = c.gather_rows.ensures in
    let taken = c.used.ensures in
    coalesced_of a.w a.n 64 (decode a.b.now) e
    (short_turn a.w (decode a.b.now) c.gather_rows.new.self a.made.now a.out.now a.coeffs.now
    pre.makes.width a.n (atoms_below a.f.now a.views.now a.hash a.b.now a.n e pre.few)
    pre.makes.room
    (c.settle.ensures ∙ settled_at c.gather_rows.new.self c.from.ensures taken.0 a.coeffs.now) c.if-g-lt2.true)

pub used-requires-2 : goal.used-requires-2
used-requires-2 c =
    let a = c.args in
    few_entries a.f.now a.views.now a.hash a.b.now a.n c.gather_rows.ensures c.requires.few

pub returns-then-g-count : goal.returns-then-g-count
returns-then-g-count c =
    let a = c.args in
    let pre = c.requires in
    let e = c.gather_rows.ensures in
    let taken = c.used-then-g-count.ensures in
    coalesced_of a.w a.n 64 (decode a.b.now) e
    (many_turn a.w (decode a.b.now) c.gather_rows.new.self a.made.now a.out.now a.coeffs.now
    pre.makes.width a.n (atoms_below a.f.now a.views.now a.hash a.b.now a.n e pre.few)
    pre.makes.room c.if-g-lt2.false
    (carried_at c.gather_rows.new.self c.from-2.ensures c.used-2.ensures.0 c.carried_of-count.ensures)
    (c.settle-then-g-count.ensures
    ∙ settled_at c.gather_rows.new.self c.from-then-g-count.ensures taken.0 a.coeffs.now)
    (omega (arith, c.if-g-count.true)))

pub put_carried-requires : goal.put_carried-requires
put_carried-requires c =
    let a = c.args in
    let pre = c.requires in
    let carried = carried_at c.gather_rows.new.self c.from-2.ensures c.used-2.ensures.0 c.carried_of-count.ensures in
    let few = carried_count a.w (decode a.b.now) c.gather_rows.new.self pre.makes.width carried in
    record {
      makes = makes_fewer pre.makes (omega (arith, few));
      carried_room = omega (arith, few, carried.long);
      bits_room = omega (arith, few, carried.wide);
    }

pub returns : goal.returns
returns c =
    let a = c.args in
    let pre = c.requires in
    let e = c.gather_rows.ensures in
    let taken = c.used-2.ensures in
    coalesced_of a.w a.n 64 (decode a.b.now) e
    (rewritten_turn a.w (decode a.b.now) c.gather_rows.new.self a.made.now a.out.now a.coeffs.now
    pre.makes.width a.n (atoms_below a.f.now a.views.now a.hash a.b.now a.n e pre.few)
    pre.makes.room c.if-g-lt2.false
    (carried_at c.gather_rows.new.self c.from-2.ensures taken.0 c.carried_of-count.ensures)
    (omega (arith, c.if-g-count.false)) c.put_carried.ensures)

pub used-requires-then-g-count : goal.used-requires-then-g-count
used-requires-then-g-count c =
    let a = c.args in
    few_entries a.f.now a.views.now a.hash a.b.now a.n c.gather_rows.ensures c.requires.few
