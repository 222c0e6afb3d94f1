-- `recover_entries` meets its contract: after i turns i entries have looked; a full table ends the loop.
use mathlib.Core.Path.{refl}
use native.Mathlib.Omega.{arith}
use Rattle.made.proofs.WordsLaws.{makes_later}
use Rattle.pairing.proofs.RecoveredLaws.{recovered_start, recovered_turn, recovered_stop, recovered_done}
use Rattle.recover_pair.proofs.pair.recover_entries.Goals as goal

pub loop-i-init : goal.loop-i-init
loop-i-init c = recovered_start _ _ c.requires.makes.room

pub returns-then-made : goal.returns-then-made
returns-then-made c =
    recovered_stop _ _ c.loop-i.invariant refl (omega arith) (omega (arith, c.requires.few)) c.if-made.true

pub recover_entry-requires : goal.recover_entry-requires
recover_entry-requires c =
    let inv = c.loop-i.invariant in
    let pre = c.requires in
    record {
      makes = makes_later pre.makes inv.room (omega (arith, inv.rows_le, pre.few, c.loop-i-test.true));
      within = omega (arith, c.loop-i-test.true, inv.len);
      few = omega (arith, inv.len, pre.few);
      not_full = c.if-made.false;
    }

pub loop-i-preserved : goal.loop-i-preserved
loop-i-preserved c = recovered_turn _ _ c.loop-i.invariant c.if-made.false c.recover_entry.ensures

pub returns : goal.returns
returns c =
    recovered_done _ _ c.loop-i.invariant refl (omega arith) (omega (arith, c.requires.few))
    (omega (arith, c.loop-i-test.false))
