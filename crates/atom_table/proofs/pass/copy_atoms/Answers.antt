-- `copy_atoms` meets its contract: the atoms that are put are those of the form that is read.
use mathlib.Core.Path.{ap, ◌∙◌}
use native.Mathlib.Omega.{arith}
use lib.ListN.{length}
use mathlib.Core.List.{[]}
use Rattle.base.proofs.PutLaws.{length_padded}
use Rattle.record.proofs.SpanLaws.{length_body}
use Rattle.semilinear.proofs.AcceptLaws.{length_accepted}
use Rattle.semilinear.proofs.ValidLaws.{semilinear_parts}
use Rattle.atom_table.proofs.FinishLaws.{copied}
use Rattle.atom_table.proofs.PassLaws.{length_le}
use Rattle.atom_table.proofs.pass.copy_atoms.Goals as goal

pub width-requires : goal.width-requires
width-requires c = (semilinear_parts _ c.requires.0).0.big

pub put_atoms-requires : goal.put_atoms-requires
put_atoms-requires c =
    let s = c.args.s.now in
    let short =
    length_le s (length_accepted s (λ i. (c.type_inv.s i).fits) c.requires.0) in (
      rw (c.body.ensures, c.width.ensures) (semilinear_parts s c.requires.0).1.atoms,
      omega (
        arith,
        short,
        ap length c.body.ensures,
        length_body s,
        ap length c.requires.1 ∙ length_padded 57360 [] (omega arith),
      ),
    )

pub returns : goal.returns
returns c =
    let put = c.put_atoms in
    copied c.args.s.now (λ i. (c.type_inv.s i).fits) c.requires.0
    c.body.ensures c.width.ensures put.result put.ensures c.requires.1
