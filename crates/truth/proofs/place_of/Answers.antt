-- `place_of` meets its contract: the place that is found, or the length.
use Rattle.std.proofs.Common.{ℕ, length, ap, ◌∙◌}
use Rattle.std.specs.Prelude.{Option}
use Rattle.std.specs.Option.{unwrap_or}
use Rattle.truth.proofs.PlaceLaws.{place_of_position}
use Rattle.truth.proofs.place_of.Goals as goal

pub returns : goal.returns
returns c =
    c.unwrap_or.ensures
    ∙ ap (λ (o : Option ℕ). unwrap_or o (length c.args.vars.now)) c.place_in.ensures
    ∙ place_of_position c.args.v c.args.vars.now
