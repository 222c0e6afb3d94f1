-- No other number is that of a pass.
use mathlib.Core.Path.{refl}
use native.Mathlib.Omega.{arith}
use Rattle.std.proofs.lemmas.Bool.Decides.{nat_tests}
use Rattle.runner.specs.RunPasses.{is_pass}
use Rattle.runner.proofs.passes.PassTryFromU64.try_from.Goals as goal

pub returns-in_default : goal.returns-in_default
unfolding is_pass
returns-in_default c = (refl, grind (arith, nat_tests))
