use mathlib.Core.Path.{ap, sym, ◌∙◌}
use native.Mathlib.Omega.{arith}
use Rattle.arith.proofs.WidthLaws.{bitmask_ones}
use Rattle.record.specs.Decode.{decode}
use Rattle.atom_table.specs.declared.table.Table.{Table}
use Rattle.atom_table.specs.Table.{store_of, create_atom}
use Rattle.made.proofs.WordsLaws.{basis_sized, grew_as, grew_create, grew_masked, masked_full, masked_bytes}
use Rattle.made.proofs.create_masked.Goals as goal

pub create_atom-more-requires : goal.create_atom-more-requires
create_atom-more-requires c =
    let pre = c.requires in
    (pre.room.placed, basis_sized _ _ _ pre.basis, pre.basis.hashed)

pub returns-then-mask-bitmask : goal.returns-then-mask-bitmask
returns-then-mask-bitmask c =
    let a = c.args in
    let pre = c.requires in
    let all = c.if-mask-bitmask.true ∙ c.bitmask.ensures ∙ bitmask_ones a.w pre.width in
    grew_as (λ l. masked_full a.w a.mask (decode a.b.now) l all)
    (grew_create a.w a.b.now (basis_sized _ _ _ pre.basis) pre.basis.same a.made.now a.out.now
    pre.room c.create_atom-more.ensures c.store.ensures)

pub create_joined-more-requires : goal.create_joined-more-requires
create_joined-more-requires c =
    let pre = c.requires in
    (pre.room.placed, pre.basis)

pub returns : goal.returns
returns c =
    let a = c.args in
    let pre = c.requires in
    let mask_is = c.bitmask.ensures ∙ bitmask_ones a.w pre.width in
    grew_masked a.w a.hash a.b.now pre.basis a.mask (omega arith) a.made.now a.out.now pre.room
    (λ e. c.if-mask-bitmask.false (e ∙ sym mask_is)) c.create_joined-more.ensures c.store-2.ensures
