-- `partition_form` meets its contract: no class without atoms, else those of the loop over places.
use mathlib.Core.Path.{ap, ◌∙◌}
use native.Mathlib.Omega.{arith}
use Rattle.semilinear.specs.Items.{atom_count}
use Rattle.bit_partitioner.proofs.EntryLaws.{form_big, form_width, form_count, form_atoms}
use Rattle.bit_partitioner.proofs.EntryLaws.{slice_long, slice_zeros, form_none, form_some}
use Rattle.bit_partitioner.proofs.partition_form.Goals as goal

pub width-w-requires : goal.width-w-requires
width-w-requires c =
    form_big c.args.s.now c.requires.0

pub returns-then-n-eq0 : goal.returns-then-n-eq0
returns-then-n-eq0 c =
    form_none _ (c.atom_table-found.ensures.number ∙ ap atom_count c.body-f.ensures) c.if-n-eq0.true
    c.requires.1

pub partition-requires : goal.partition-requires
partition-requires c =
    let s = c.args.s.now in
    let ok = c.requires.0 in
    let long = slice_long s c.requires.1 in
    let count = c.atom_table-found.ensures.number in
    let few = form_count s ok in (
      record {
        atoms =
            form_atoms s ok (λ i. (c.type_inv.s i).fits) c.body-f.ensures;
        count = count;
        some = omega (arith, c.if-n-eq0.false);
        few = c.if-n-le-SHORT_ATOMS.true;
        width_le = omega (arith, c.width-w.ensures, form_width s ok);
        room = omega (arith, long, count, few, ap atom_count c.body-f.ensures);
        zeros = slice_zeros s c.requires.1;
      },
      omega arith,
    )

pub returns-then-n-le-SHORT_ATOMS : goal.returns-then-n-le-SHORT_ATOMS
returns-then-n-le-SHORT_ATOMS c =
    form_some _ (c.atom_table-found.ensures.number ∙ ap atom_count c.body-f.ensures) c.if-n-eq0.false
    (slice_long c.args.s.now c.requires.1) c.width-w.ensures c.body-f.ensures
    c.partition.ensures

pub partition-requires-2 : goal.partition-requires-2
partition-requires-2 c =
    let s = c.args.s.now in
    let ok = c.requires.0 in
    let long = slice_long s c.requires.1 in
    let count = c.atom_table-found.ensures.number in
    let few = form_count s ok in (
      record {
        atoms =
            form_atoms s ok (λ i. (c.type_inv.s i).fits) c.body-f.ensures;
        count = count;
        some = omega (arith, c.if-n-eq0.false);
        few = omega (arith, count, few, ap atom_count c.body-f.ensures);
        width_le = omega (arith, c.width-w.ensures, form_width s ok);
        room = omega (arith, long, count, few, ap atom_count c.body-f.ensures);
        zeros = slice_zeros s c.requires.1;
      },
      omega arith,
    )

pub returns : goal.returns
returns c =
    form_some _ (c.atom_table-found.ensures.number ∙ ap atom_count c.body-f.ensures) c.if-n-eq0.false
    (slice_long c.args.s.now c.requires.1) c.width-w.ensures c.body-f.ensures
    c.partition-2.ensures
