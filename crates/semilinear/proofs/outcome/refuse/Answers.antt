-- `refuse` meets its contract.
use Rattle.std.proofs.Common.{length, refl}
use Rattle.semilinear.proofs.OutcomeLaws.{gives_refused}
use Rattle.semilinear.proofs.outcome.refuse.Goals as goal

pub returns : goal.returns
returns g c =
    record {
      is = refl;
      zeros = λ n. gives_refused n (length c.args.out.now) _ _ refl (c.fill.ensures.after (λ _ e. e));
    }
