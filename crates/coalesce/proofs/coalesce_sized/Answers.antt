-- `coalesce_sized` meets its contract: the views, the bases, and then the groups.
use native.Mathlib.Omega.{arith}
use Rattle.group.proofs.PassLaws.{read_count, read_readable, first_same, form_views}
use Rattle.coalesce.proofs.CoalescedLaws.{read_variable, rows_coalesced}
use Rattle.coalesce.proofs.coalesce_sized.Goals as goal

pub read_views-n-requires : goal.read_views-n-requires
read_views-n-requires g c =
    form_views c.requires.1 c.requires.0 (omega (arith, c.requires.1.few))

pub find_bases-count-requires : goal.find_bases-count-requires
find_bases-count-requires g c =
    let read = c.read_views-n.ensures in
    (read_readable read, omega (arith, read_count read, c.requires.1.few))

pub coalesce_all-requires : goal.coalesce_all-requires
coalesce_all-requires g c =
    let read = c.read_views-n.ensures in
    let pre = c.requires.1 in
    record {
      width = pre.width;
      found = record {
        few = omega (arith, read_count read, pre.few, c.requires.0);
        number = read.number;
        viewed = read_variable read;
        first = first_same c.find_bases-count.ensures;
      };
      room = pre.room;
      made_few = pre.made_few;
    }

pub returns : goal.returns
returns g c =
    let pre = c.requires.1 in
    rows_coalesced c.read_views-n.ensures pre.clear (omega (arith, pre.few, c.requires.0)) c.coalesce_all.ensures
