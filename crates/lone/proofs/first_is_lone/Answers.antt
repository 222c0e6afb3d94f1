-- `first_is_lone` meets its contract: none before it has the basis, and none behind it.
use native.Mathlib.Omega.{arith}
use Rattle.views.proofs.HasBasisLaws.{readable_fewer}
use Rattle.lone.proofs.LoneLaws.{gathered_lone}
use Rattle.lone.proofs.first_is_lone.Goals as goal

pub none_has-requires : goal.none_has-requires
none_has-requires c = readable_fewer c.requires.lone.readable _ (omega (arith, c.requires.lone.within))

pub returns : goal.returns
returns c =
    λ e. gathered_lone _ _ _ _ _ _ c.requires.lone.within c.requires.lone.has_basis_lem
    (λ k a lt. c.requires.none_before k lt) (c.none_has.ensures e)
