-- `normalize_to_semilinear` meets its contract: the refusal of the file, else the descent without a rule for Not.
use mathlib.Core.Path.{sym, ◌∙◌}
use native.Mathlib.Omega.{arith}
use Rattle.base.proofs.RefusalLaws.{number_not}
use Rattle.expr_refusal.proofs.RefusalLaws.{accepted_big}
use Rattle.expr.proofs.ExprValueLaws.{accepted_tree, accepted_length}
use Rattle.normalizer_laws.proofs.NormalizeLaws.{normalize_file}
use Rattle.semilinear_normalizer.proofs.RulesLaws.{file_reached, gives_refusal, gives_plain}
use Rattle.semilinear.proofs.OutcomeLaws.{refused_gives}
use Rattle.semilinear_normalizer.proofs.normalize_to_semilinear.Goals as goal

pub returns-in-Err : goal.returns-in-Err
returns-in-Err c =
    gives_refusal _ _ _ (normalize_file _ _) c.in-Err.ensures (number_not _)
    c.refuse.result (refused_gives c.refuse.ensures)

pub width-w-requires : goal.width-w-requires
width-w-requires c =
    let zero = sym c.in_default.ensures in
    accepted_big _ _ (accepted_tree _ (file_reached _ _ zero).0)

pub normalize_sized-requires : goal.normalize_sized-requires
normalize_sized-requires c =
    let reached = file_reached _ _ (sym c.in_default.ensures) in (
      rw c.width-w.ensures (accepted_tree _ reached.0),
      c.if-t-le-SHORT_BYTES.true,
      reached.1,
      record { few = omega arith; bytes = omega arith; table = omega arith },
    )

pub returns-then-t-le-SHORT_BYTES : goal.returns-then-t-le-SHORT_BYTES
returns-then-t-le-SHORT_BYTES c =
    gives_plain _ _ c.width-w.ensures (sym c.in_default.ensures)
    c.normalize_sized.result c.normalize_sized.ensures

pub normalize_sized-requires-2 : goal.normalize_sized-requires-2
normalize_sized-requires-2 c =
    let reached = file_reached _ _ (sym c.in_default.ensures) in (
      rw c.width-w.ensures (accepted_tree _ reached.0),
      accepted_length _ reached.0,
      reached.1,
      record { few = omega arith; bytes = omega arith; table = omega arith },
    )

pub returns : goal.returns
returns c =
    gives_plain _ _ c.width-w.ensures (sym c.in_default.ensures)
    c.normalize_sized-2.result c.normalize_sized-2.ensures
