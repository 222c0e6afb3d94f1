-- `unary` meets its contract: a case for each kind.
use Rattle.expr.specs.Value.{unary}
use Rattle.std.proofs.Common.{ℕ, ◌-◌, ◌%◌, ◌^◌, ap, ◌∙◌, mod-eq_of_lt, rules}
use Rattle.arith.proofs.WidthLaws.{mod_not_lem, mod_neg_lem, mod_shr_exact}
use Rattle.expr.proofs.value.unary.Goals as goal

pub returns-then-k : goal.returns-then-k
unfolding unary
returns-then-k c =
    rw c.if-k.true
    (c.mod_not.ensures
    ∙ mod_not_lem _ _ c.requires.0
    ∙ ap (λ (y : ℕ). 2 ^ c.args.w - 1 - y) (mod-eq_of_lt c.requires.1))

pub returns-then-k-2 : goal.returns-then-k-2
unfolding unary
returns-then-k-2 c =
    rw c.if-k-2.true
    (c.mod_neg.ensures
    ∙ mod_neg_lem _ _ c.requires.0 (search rules)
    ∙ ap (λ (y : ℕ). (2 ^ c.args.w - y) % 2 ^ c.args.w) (mod-eq_of_lt c.requires.1))

pub returns-then-k-3 : goal.returns-then-k-3
unfolding unary
returns-then-k-3 c =
    rw c.if-k-3.true (c.mod_shr.ensures ∙ mod_shr_exact _ _ _ c.requires.0 c.requires.1)
