-- What is given is what the normaliser used of the result slice; where a refusal can't be printed, the slice is cleared.
use Rattle.std.specs.Prelude.{Ok, Err}
use mathlib.Core.Path.{refl}
use Rattle.base.proofs.RefusalLaws.{number_not}
use Rattle.semilinear.specs.Answers.{in_numbers}
use Rattle.normalizer_laws.proofs.UsedLaws.{used_normalize}
use Rattle.io_form.proofs.AnswerLaws.{answer_used, refused_clears, on_err}
use Rattle.io_form.proofs.normalize_or_print.Goals as goal

pub returns-in-Ok-clause-ok : goal.returns-in-Ok-clause-ok
returns-in-Ok-clause-ok g c =
    let a = in_numbers (Ok c.in-Ok.answer) in
    let call = c.normalize_to_semilinear in
    answer_used _ (used_normalize _ _ a _ c.in-Ok.ensures) call.auto.out refl

pub returns-in_err-print_refusal-in-Err-clause-err : goal.returns-in_err-print_refusal-in-Err-clause-err
returns-in_err-print_refusal-in-Err-clause-err g c =
    on_err _ (refused_clears _ _ (in_numbers (Err c.in-Err.refusal)) _ c.in-Err.ensures (number_not _))
