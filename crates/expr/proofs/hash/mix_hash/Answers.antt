-- `mix_hash` meets its contract: its sums wrap.
use mathlib.Core.Path.{refl}
use Rattle.expr.proofs.HashLaws.{mix_hash_sum}
use Rattle.expr.proofs.hash.mix_hash.Goals as goal

pub returns : goal.returns
returns c = mix_hash_sum _ _ refl refl refl
