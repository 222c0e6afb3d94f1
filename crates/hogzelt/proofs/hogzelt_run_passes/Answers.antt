-- The first two numbers of the answer are handed over, and spare is cleared.
use mathlib.Core.Path.{ap, ◌∙◌}
use Prim.Native.Nat.{ℕ}
use lib.ListN.{replicate}
use Rattle.semilinear.proofs.OutcomeLaws.{gives_two}
use Rattle.hogzelt.proofs.hogzelt_run_passes.Goals as goal

pub returns : goal.returns
returns c =
    let run = c.run_passes-ran in
    let said = c.report.ensures in
    record {
      gives = rw (said.number, said.used_is, said.terms_are) (gives_two _ _ _ _ _ _ _ run.ensures);
      spare_after = c.fill.ensures.after (λ _ e. e) ∙ ap (λ (n : ℕ). replicate n 0) run.auto.spare;
    }
