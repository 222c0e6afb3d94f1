-- `coalesce_form` meets its contract: the copied table, its rows coalesced, and the end of a pass.
use mathlib.Core.Path.{refl}
use Rattle.base.proofs.PutLaws.{padded_nil}
use Rattle.semilinear.proofs.ValidLaws.{semilinear_parts}
use Rattle.group.proofs.PassLaws.{pass_begin}
use Rattle.coalesce.proofs.CoalescedLaws.{coalesce_room, coalesce_end}
use Rattle.coalesce.proofs.coalesce_form.Goals as goal

pub width-w-requires : goal.width-w-requires
width-w-requires c = (semilinear_parts _ c.requires.0).0.big

pub literal-constant-requires : goal.literal-constant-requires
literal-constant-requires c = (semilinear_parts _ c.requires.0).0.big

pub coalesce_table-requires : goal.coalesce_table-requires
coalesce_table-requires c =
    pass_begin c.args.s.now (λ i. (c.shared_slice_known-1.given i).fits) c.requires.0
    c.width-w.ensures c.body.ensures c.copy_atoms-tab.ensures (padded_nil 256)

pub finish-requires : goal.finish-requires
finish-requires c =
    coalesce_room c.coalesce_table.ensures refl
    c.copy_atoms-tab.ensures.long

pub returns : goal.returns
returns c =
    coalesce_end c.args.s.now (λ i. (c.shared_slice_known-1.given i).fits) c.requires.0
    c.width-w.ensures c.literal-constant.ensures c.body.ensures c.copy_atoms-tab.ensures
    c.coalesce_table.ensures refl
    c.finish.result c.finish.ensures
