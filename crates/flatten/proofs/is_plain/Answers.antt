-- `is_plain` meets its contract: the root of the basis is a variable's.
use mathlib.Core.Path.{sym}
use Rattle.flatten.proofs.ComplexLaws.{plain_none, plain_some, basis_big}
use Rattle.flatten.proofs.is_plain.Goals as goal

pub kind-requires : goal.kind-requires
kind-requires c = basis_big _ _ _ c.in-Some.ensures

pub returns-in-Some : goal.returns-in-Some
returns-in-Some c = plain_some _ _ _ c.in-Some.ensures c.kind.ensures

pub returns-in-None : goal.returns-in-None
returns-in-None c = plain_none _ _ c.in-None.ensures
