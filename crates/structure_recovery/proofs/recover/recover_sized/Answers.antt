-- `recover_sized` meets its contract: the views, the bases, and then the groups.
use native.Mathlib.Omega.{arith}
use Rattle.group.proofs.PassLaws.{read_count, read_readable, first_same, form_views}
use Rattle.structure_recovery.proofs.AllRecoveredLaws.{read_any, rows_recovered_lem}
use Rattle.structure_recovery.proofs.recover.recover_sized.Goals as goal

pub read_views-n-requires : goal.read_views-n-requires
read_views-n-requires g c =
    form_views c.requires.1 c.requires.0 (omega (arith, c.requires.1.few))

pub find_bases-count-requires : goal.find_bases-count-requires
find_bases-count-requires g c =
    let read = c.read_views-n.ensures in (read_readable read, omega (arith, read_count read, c.requires.1.few))

pub recover_all-requires : goal.recover_all-requires
recover_all-requires g c =
    let read = c.read_views-n.ensures in
    let pre = c.requires.1 in
    record {
      width = pre.width;
      found = record {
        few = omega (arith, read_count read, pre.few, c.requires.0);
        number = read.number;
        viewed = read_any read;
        first = first_same c.find_bases-count.ensures;
      };
      room = pre.room;
      made_few = pre.made_few;
    }

pub returns : goal.returns
returns g c =
    let pre = c.requires.1 in
    rows_recovered_lem c.read_views-n.ensures pre.clear (omega (arith, pre.few, c.requires.0)) c.recover_all.ensures
