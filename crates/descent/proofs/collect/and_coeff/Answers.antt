-- `and_coeff` meets its contract: an Xor or an Or.
use mathlib.Core.Path.{ap, sym, ◌∙◌}
use Prim.Native.Nat.{ℕ}
use Rattle.arith.specs.Width.{mod_neg}
use Rattle.normalizer_laws.proofs.AndLaws.{and_coeff_xor, and_coeff_or}
use Rattle.descent.proofs.collect.and_coeff.Goals as goal

pub returns-then-k : goal.returns-then-k
returns-then-k c =
    c.mod_neg.ensures
    ∙ ap (λ (x : ℕ). mod_neg x c.args.w) c.mod_mul.ensures
    ∙ sym (and_coeff_xor _ _ _ c.if-k.true)

pub returns : goal.returns
returns c = c.mod_neg-2.ensures ∙ sym (and_coeff_or _ _ _ c.if-k.false)
