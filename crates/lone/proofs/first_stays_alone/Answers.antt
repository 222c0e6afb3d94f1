-- `first_stays_alone` meets its contract: both tests.
use Rattle.views.proofs.HasBasisLaws.{basis_grouped}
use Rattle.views.proofs.ViewsLaws.{view_some}
use Rattle.lone.proofs.first_stays_alone.Goals as goal

pub unwrap-v-requires : goal.unwrap-v-requires
unwrap-v-requires c = basis_grouped _ _ _ _ c.requires.1.lone.has_basis_lem

pub returns-then-stays : goal.returns-then-stays
returns-then-stays c = λ e. record {
  stays = rw (view_some c.args.views.now c.args.first c.unwrap-v.ensures) (c.stays.ensures c.if-stays.true);
  lone = c.first_is_lone.ensures e;
}
