use mathlib.Core.Path.{sym}
use native.Mathlib.Omega.{arith}
use Rattle.record.proofs.SizedLaws.{sized_big, sized_length}
use Rattle.atom_table.specs.Table.{full_table}
use Rattle.atom_table.proofs.TableLaws.{create_full, create_past, fits_more_count, fits_more_records}
use Rattle.made.proofs.WordsLaws.{basis_sized, masked_bytes, masked_size, created_masked}
use Rattle.made.proofs.create_joined.Goals as goal

pub returns-then-more : goal.returns-then-more
returns-then-more c =
    let a = c.args in
    sym (create_full a.w (masked_bytes a.w a.b.now a.m) a.tab a.out.now c.if-more.true)

pub size-size-requires : goal.size-size-requires
size-size-requires c = sized_big _ (basis_sized _ _ _ c.requires.1)

pub returns-then-count-ge-ATOM_LIMIT_U64 : goal.returns-then-count-ge-ATOM_LIMIT_U64
unfolding full_table
returns-then-count-ge-ATOM_LIMIT_U64 c =
    let a = c.args in
    let t = masked_bytes a.w a.b.now a.m in
    sym
    (create_past a.w t a.tab a.out.now c.if-more.false
    (fits_more_count a.tab t c.if-count-ge-ATOM_LIMIT_U64.true))

pub returns-then-records-size-gt-TREE_RECORD_LIMIT_U64 : goal.returns-then-records-size-gt-TREE_RECORD_LIMIT_U64
unfolding full_table
returns-then-records-size-gt-TREE_RECORD_LIMIT_U64 c =
    let a = c.args in
    let t = masked_bytes a.w a.b.now a.m in
    let more = masked_size a.w a.hash a.b.now c.requires.1 a.m in
    sym
    (create_past a.w t a.tab a.out.now c.if-more.false
    (fits_more_records a.tab t (omega (arith, c.if-count-ge-ATOM_LIMIT_U64.false))
    (omega (arith, more, c.size-size.ensures.0, c.if-records-size-gt-TREE_RECORD_LIMIT_U64.true))))

pub put_masked-requires : goal.put_masked-requires
put_masked-requires c =
    let a = c.args in
    let pre = c.requires in
    let n = c.size-size in
    let ok = basis_sized _ _ _ pre.1 in (
      record {
        inside = omega (arith, sized_length a.b.now ok, n.ensures.0, pre.0.place, pre.0.room);
        size_lt = omega (arith, n.ensures.1);
        size_is = omega (arith, sized_length a.b.now ok, n.ensures.0);
      },
      pre.1,
    )

pub returns : goal.returns
returns c =
    let a = c.args in
    created_masked a.w a.hash a.b.now c.requires.1 a.m a.tab a.out.now
    c.if-more.false (omega (arith, c.if-count-ge-ATOM_LIMIT_U64.false)) c.size-size.ensures.0
    (omega (arith, c.if-records-size-gt-TREE_RECORD_LIMIT_U64.false)) c.put_masked.ensures
