-- `Table::create_atom` meets its contract: one law of `create_atom` for each return.
use mathlib.Core.Path.{sym}
use native.Mathlib.Omega.{arith}
use Rattle.record.proofs.SizedLaws.{sized_big, sized_length}
use Rattle.atom_table.specs.Table.{full_table}
use Rattle.atom_table.proofs.TableLaws.{create_full, create_past, fits_more_count, fits_more_records, created}
use native.Mathlib.Nat.{add_assoc}
use lib.ListN.{length}
use Rattle.atom_table.proofs.table.Table.create_atom.Goals.{then-self-ge-ATOM_LIMIT_U64-via-then-self-ge-ATOM_LIMIT_U64}
use Rattle.atom_table.proofs.table.Table.create_atom.Goals.{then-self-ge-ATOM_LIMIT_U64-via-else-self-ge-ATOM_LIMIT_U64+then-self-size-gt-TREE_RECORD_LIMIT_U64}
use Rattle.atom_table.proofs.table.Table.create_atom.Goals as goal

pub returns-then-self : goal.returns-then-self
returns-then-self c =
    let a = c.args in
    sym (create_full a.w a.t.now a.self a.out.now c.if-self.true)

pub size-size-requires : goal.size-size-requires
size-size-requires c = sized_big _ c.requires.1

pub returns-then-self-ge-ATOM_LIMIT_U64 : goal.returns-then-self-ge-ATOM_LIMIT_U64
unfolding full_table
returns-then-self-ge-ATOM_LIMIT_U64 c =
    let a = c.args in
    sym
    (create_past a.w a.t.now a.self a.out.now c.if-self.false
    elim c.then-self-ge-ATOM_LIMIT_U64.branch [
      | then-self-ge-ATOM_LIMIT_U64-via-then-self-ge-ATOM_LIMIT_U64 w ↦
          fits_more_count a.self a.t.now w.if-self-ge-ATOM_LIMIT_U64.true
      | then-self-ge-ATOM_LIMIT_U64-via-else-self-ge-ATOM_LIMIT_U64+then-self-size-gt-TREE_RECORD_LIMIT_U64 w ↦
          fits_more_records a.self a.t.now (omega (arith, w.if-self-ge-ATOM_LIMIT_U64.false))
          (omega (arith, c.size-size.ensures.0, w.if-self-size-gt-TREE_RECORD_LIMIT_U64.true))
    ])

pub put_atom-requires : goal.put_atom-requires
put_atom-requires c =
    let a = c.args in
    let pre = c.requires in
    let n = c.size-size in
    (omega (arith, sized_length a.t.now pre.1, n.ensures.0, pre.0.place, pre.0.room), pre.1, pre.2)

pub returns : goal.returns
returns c =
    let a = c.args in
    rw (← add_assoc a.self.at 16 (length a.t.now))
    (created a.w a.t.now a.self a.out.now c.if-self.false
    (omega (arith, c.if-self-ge-ATOM_LIMIT_U64.false)) c.size-size.ensures.0
    (omega (arith, c.if-self-size-gt-TREE_RECORD_LIMIT_U64.false)) c.put_atom.ensures)
