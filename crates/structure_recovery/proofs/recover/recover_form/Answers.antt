-- `recover_form` meets its contract: the copied table, its rows recovered, and the end of a pass.
use mathlib.Core.Path.{refl}
use Rattle.base.proofs.PutLaws.{padded_nil}
use Rattle.semilinear.proofs.ValidLaws.{semilinear_parts}
use Rattle.group.proofs.PassLaws.{pass_begin}
use Rattle.structure_recovery.proofs.RecoverEndLaws.{recover_room, recover_end}
use Rattle.structure_recovery.proofs.recover.recover_form.Goals as goal

pub width-w-requires : goal.width-w-requires
width-w-requires c = (semilinear_parts _ c.requires.0).0.big

pub literal-constant-requires : goal.literal-constant-requires
literal-constant-requires c = (semilinear_parts _ c.requires.0).0.big

pub recover_table-requires : goal.recover_table-requires
recover_table-requires c =
    pass_begin c.args.s.now (λ i. (c.shared_slice_known-1.given i).fits) c.requires.0
    c.width-w.ensures c.body.ensures c.copy_atoms-tab.ensures (padded_nil 256)

pub finish-requires : goal.finish-requires
finish-requires c =
    recover_room c.recover_table.ensures refl
    c.copy_atoms-tab.ensures.long

pub returns : goal.returns
returns c =
    recover_end c.args.s.now (λ i. (c.shared_slice_known-1.given i).fits) c.requires.0 c.width-w.ensures
    c.literal-constant.ensures c.body.ensures c.copy_atoms-tab.ensures c.recover_table.ensures
    refl refl c.finish.result c.finish.ensures
