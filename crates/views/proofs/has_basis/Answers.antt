-- `has_basis` meets its contract: the hash is compared before the bytes.
use mathlib.Core.Path.{ap, sym, ◌∙◌}
use borrow.Author.Tests.{ne_eqb}
use Rattle.std.specs.Prelude.{Option}
use Rattle.views.specs.declared.View.{View}
use Rattle.views.specs.Views.{basis_bytes, has_basis}
use Rattle.views.proofs.HasBasisLaws.{basis_other, basis_same, basis_ungrouped}
use Rattle.views.proofs.has_basis.Goals as goal

pub returns-then-v-hash : goal.returns-then-v-hash
unfolding basis_bytes
returns-then-v-hash c =
    c.same_bytes.ensures
    ∙ sym (ap (λ (o : Option View). has_basis c.args.f.now o c.args.hash c.args.b.now) c.in-Some.is
    ∙ basis_same _ _ _ _ c.if-v-hash.true)

pub returns-else-v-hash : goal.returns-else-v-hash
returns-else-v-hash c =
    ne_eqb _ _ c.if-v-hash.false
    ∙ sym (ap (λ (o : Option View). has_basis c.args.f.now o c.args.hash c.args.b.now) c.in-Some.is
    ∙ basis_other _ _ _ _ c.if-v-hash.false)

pub returns-in-None : goal.returns-in-None
returns-in-None c = sym (basis_ungrouped _ _ _ _ c.in-None.is)
