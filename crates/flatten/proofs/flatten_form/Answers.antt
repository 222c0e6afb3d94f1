-- `flatten_form` meets its contract: the copied table, its rows flattened, and the end of a pass.
use mathlib.Core.Path.{refl}
use Rattle.semilinear.proofs.ValidLaws.{semilinear_parts}
use Rattle.flatten.proofs.FlatFormLaws.{flatten_begin, flatten_room, flatten_end}
use Rattle.flatten.proofs.flatten_form.Goals as goal

pub width-w-requires : goal.width-w-requires
width-w-requires c = (semilinear_parts _ c.requires.0).0.big

pub literal-constant-requires : goal.literal-constant-requires
literal-constant-requires c = (semilinear_parts _ c.requires.0).0.big

pub flatten_rows-flag-requires : goal.flatten_rows-flag-requires
flatten_rows-flag-requires c =
    flatten_begin c.args.s.now (λ i. (c.type_inv.s i).fits) c.requires.0
    c.width-w.ensures c.body.ensures c.copy_atoms-tab.ensures

pub finish-requires : goal.finish-requires
finish-requires c =
    flatten_room c.flatten_rows-flag.ensures refl c.copy_atoms-tab.ensures.long

pub returns : goal.returns
returns c =
    flatten_end _ c.width-w.ensures c.literal-constant.ensures c.body.ensures
    c.flatten_rows-flag.ensures refl c.finish.result c.finish.ensures
