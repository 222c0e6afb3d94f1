-- `normalize_by_two` meets its contract: the refusal of the file as it is given, else the folded copy's form.
use mathlib.Core.Path.{sym, ◌∙◌}
use native.Mathlib.Omega.{arith}
use Rattle.base.proofs.RefusalLaws.{number_not}
use Rattle.expr_refusal.proofs.RefusalLaws.{accepted_big}
use Rattle.expr.proofs.ExprValueLaws.{accepted_tree, accepted_length}
use Rattle.rules_laws.proofs.RulesLaws.{ruled_file}
use Rattle.semilinear_normalizer.proofs.RulesLaws.{file_reached, gives_refusal, gives_ruled}
use Rattle.semilinear.proofs.OutcomeLaws.{refused_gives}
use Rattle.semilinear_normalizer.proofs.normalize_by_two.Goals as goal

pub returns-in-Err : goal.returns-in-Err
returns-in-Err c =
    gives_refusal _ _ _ (ruled_file _ _ _) c.in-Err.ensures (number_not _)
    c.refuse.result (refused_gives c.refuse.ensures)

pub width-w-requires : goal.width-w-requires
width-w-requires c =
    let zero = sym c.in_default.ensures in
    accepted_big _ _ (accepted_tree _ (file_reached _ _ zero).0)

pub folded_sized-requires : goal.folded_sized-requires
folded_sized-requires c =
    let reached = file_reached _ _ (sym c.in_default.ensures) in
    (rw c.width-w.ensures (accepted_tree _ reached.0), c.if-t-le-SHORT_BYTES.true, reached.1, omega arith)

pub returns-then-t-le-SHORT_BYTES : goal.returns-then-t-le-SHORT_BYTES
returns-then-t-le-SHORT_BYTES c =
    gives_ruled _ _ c.width-w.ensures (sym c.in_default.ensures)
    c.folded_sized.result c.folded_sized.ensures

pub folded_sized-requires-2 : goal.folded_sized-requires-2
folded_sized-requires-2 c =
    let reached = file_reached _ _ (sym c.in_default.ensures) in
    (rw c.width-w.ensures (accepted_tree _ reached.0), accepted_length _ reached.0, reached.1, omega arith)

pub returns : goal.returns
returns c =
    gives_ruled _ _ c.width-w.ensures (sym c.in_default.ensures)
    c.folded_sized-2.result c.folded_sized-2.ensures
