-- `folded_sized` meets its contract: its array has room for the copy, and the descent over the copy turns its Nots.
use mathlib.Core.Path.{refl}
use native.Mathlib.Omega.{arith}
use Rattle.expr_refusal.proofs.RefusalLaws.{accepted_root}
use Rattle.semilinear_normalizer.proofs.WholeTreeLaws.{size_room}
use Rattle.semilinear_normalizer.proofs.RulesLaws.{gives_folded}
use Rattle.semilinear_normalizer.proofs.folded_sized.Goals as goal

pub fold_file-end-requires : goal.fold_file-end-requires
fold_file-end-requires g c =
    let given = c.requires in
    record {
      accepted = given.0;
      long = omega (arith, given.1, given.3);
      marked = omega (arith, size_room _ 1024 _ given.0 (omega (arith, given.1, given.3)), given.2);
      room = omega (arith, given.1);
    }

pub returns : goal.returns
returns g c =
    let root = accepted_root _ _ c.requires.0 in
    gives_folded _ root.width_le _ c.fold_file-end.ensures refl c.normalize_file.result
    c.normalize_file.ensures
