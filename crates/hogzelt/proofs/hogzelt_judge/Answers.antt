-- The four numbers of the verdict are handed over.
use mathlib.Core.Path.{ap}
use Rattle.judge_laws.specs.declared.Verdict.{Verdict}
use Rattle.hogzelt.proofs.hogzelt_judge.Goals as goal

pub returns : goal.returns
returns c =
    let e = c.judge-verdict.ensures in
    record {
      number = ap (λ (x : Verdict). x.refusal) e;
      flag = ap (λ (x : Verdict). x.equal) e;
      at_place = ap (λ (x : Verdict). x.place) e;
      at_index = ap (λ (x : Verdict). x.index) e;
    }
