-- `tree_refusal` meets its contract: the equation of the fold at a root without, with one and with two children.
use Rattle.record.proofs.SpanLaws.{fold_none, fold_leaf, fold_one, fold_two, body_shorter, left_shorter, right_shorter}
use native.Mathlib.Omega.{arith}
use mathlib.Core.Path.{sym, ◌∙◌}
use Rattle.expr_refusal.proofs.+tree_refusal.Goals as goal

pub returns-then-t-lt-RECORD_LENGTH : goal.returns-then-t-lt-RECORD_LENGTH
returns-then-t-lt-RECORD_LENGTH t c = sym (fold_none _ _ _ _ _ c.if-t-lt-RECORD_LENGTH.true)

pub returns-then-children-eq0 : goal.returns-then-children-eq0
returns-then-children-eq0 t c =
    rw
    (fold_leaf _ _ _ _ c.args.t.now c.if-t-lt-RECORD_LENGTH.false
    (sym c.root_arity-children.ensures ∙ c.if-children-eq0.true)) c.root_refusal-own.ensures

pub tree_refusal-requires : goal.tree_refusal-requires
tree_refusal-requires t c =
    (rw c.body.ensures (omega (arith, body_shorter c.args.t.now c.if-t-lt-RECORD_LENGTH.false)), tt)

pub returns-then-children-eq1 : goal.returns-then-children-eq1
returns-then-children-eq1 t c =
    rw
    (fold_one _ _ _ _ c.args.t.now c.if-t-lt-RECORD_LENGTH.false
    (sym c.root_arity-children.ensures ∙ c.if-children-eq1.true)) (cc)

pub tree_refusal-first-requires : goal.tree_refusal-first-requires
tree_refusal-first-requires t c =
    (rw c.left.ensures (omega (arith, left_shorter c.args.t.now c.if-t-lt-RECORD_LENGTH.false)), tt)

pub tree_refusal-second-requires : goal.tree_refusal-second-requires
tree_refusal-second-requires t c =
    (rw c.right.ensures (omega (arith, right_shorter c.args.t.now c.if-t-lt-RECORD_LENGTH.false)), tt)

pub returns : goal.returns
returns t c =
    rw
    (fold_two _ _ _ _ c.args.t.now c.if-t-lt-RECORD_LENGTH.false
    (λ e. c.if-children-eq0.false (c.root_arity-children.ensures ∙ e))
    (λ e. c.if-children-eq1.false (c.root_arity-children.ensures ∙ e))) (cc)
