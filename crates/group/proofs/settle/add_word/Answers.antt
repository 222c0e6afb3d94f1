-- `add_word` meets its contract: a word that is not there is left.
use mathlib.Core.Path.{ap, sym}
use Prim.Native.Nat.{ℕ}
use lib.ListN.{set}
use lib.Seq.{set_out}
use Rattle.group.specs.Gathered.{add_word}
use Rattle.group.proofs.settle.add_word.Goals as goal

pub returns-then-j-coeffs : goal.returns-then-j-coeffs
unfolding add_word
returns-then-j-coeffs c =
    ap (λ (x : ℕ). set c.args.coeffs.now c.args.a x) c.mod_add.ensures

pub returns-else-j-coeffs : goal.returns-else-j-coeffs
unfolding add_word
returns-else-j-coeffs c = sym (set_out c.args.coeffs.now c.args.a _ c.if-j-coeffs.false)
