-- `recover_pair` meets its contract: each way is one step, or none.
use mathlib.Core.Path.{sym}
use Rattle.record.specs.Decode.{decode}
use Rattle.group.specs.Group.{at}
use Rattle.recover_pair.proofs.PairingLaws.{pair_xor, pair_xor_back, pair_none, pair_eliminate}
use Rattle.recover_pair.proofs.TurnedLaws.{xor_makes, turned_as, turned_none}
use Rattle.recover_pair.proofs.pair.recover_pair.Goals as goal

pub recover_xor-requires : goal.recover_xor-requires
recover_xor-requires c =
    let pre = c.requires in
    record {
      width = pre.makes.width;
      makes = xor_makes pre.makes;
      src_lt = pre.i_lt;
      dst_lt = pre.j_lt;
      apart = pre.apart;
    }

pub returns-then-fewer_ones : goal.returns-then-fewer_ones
unfolding at
returns-then-fewer_ones c =
    let a = c.args in
    turned_as
    (pair_xor a.w (decode a.b.bytes.now) a.i a.j _ (rw c.from-width.ensures at c.mod_add.ensures)
    c.fewer_ones.ensures c.if-mod_add-eq0.true c.if-fewer_ones.true)
    c.recover_xor.ensures

pub recover_xor-requires-else-fewer_ones : goal.recover_xor-requires-else-fewer_ones
recover_xor-requires-else-fewer_ones c =
    let pre = c.requires in
    record {
      width = pre.makes.width;
      makes = xor_makes pre.makes;
      src_lt = pre.j_lt;
      dst_lt = pre.i_lt;
      apart = λ e. pre.apart (sym e);
    }

pub returns-else-fewer_ones : goal.returns-else-fewer_ones
unfolding at
returns-else-fewer_ones c =
    let a = c.args in
    turned_as
    (pair_xor_back a.w (decode a.b.bytes.now) a.i a.j _ (rw c.from-width.ensures at c.mod_add.ensures)
    c.fewer_ones.ensures c.if-mod_add-eq0.true c.if-fewer_ones.false)
    c.recover_xor-else-fewer_ones.ensures

pub returns-then-diff-ne0 : goal.returns-then-diff-ne0
unfolding at
returns-then-diff-ne0 c =
    let a = c.args in
    turned_as
    (pair_eliminate a.w (decode a.b.bytes.now) a.i a.j _ (rw c.from-width.ensures at c.mod_add.ensures) c.if-mod_add-eq0.false
    (rw c.from-width.ensures at c.mod_sub-diff.ensures) c.if-diff-ne0.true)
    c.eliminate_mask.ensures

pub returns-else-diff-ne0 : goal.returns-else-diff-ne0
unfolding at
returns-else-diff-ne0 c =
    let a = c.args in
    turned_as
    (pair_none a.w (decode a.b.bytes.now) a.i a.j _ (rw c.from-width.ensures at c.mod_add.ensures) c.if-mod_add-eq0.false
    (rw c.from-width.ensures at c.mod_sub-diff.ensures) c.if-diff-ne0.false)
    (turned_none c.requires.makes.room)
