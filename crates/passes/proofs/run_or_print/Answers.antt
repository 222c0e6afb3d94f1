-- What is given is what the runner used of the result slice; where a refusal can't be printed, the slice is cleared.
use Rattle.std.specs.Prelude.{Ok, Err}
use Rattle.base.proofs.RefusalLaws.{number_not}
use Rattle.semilinear.specs.Answers.{in_numbers}
use Rattle.io_form.proofs.AnswerLaws.{refused_clears, on_err}
use Rattle.passes.proofs.UsedLaws.{run_used}
use Rattle.passes.proofs.run_or_print.Goals as goal

pub returns-in-Ok-clause-ok : goal.returns-in-Ok-clause-ok
returns-in-Ok-clause-ok g c = run_used _ _ _ _ (in_numbers (Ok c.in-Ok.answer)) _ c.in-Ok.ensures

pub returns-in_err-print_refusal-in-Err-clause-err : goal.returns-in_err-print_refusal-in-Err-clause-err
returns-in_err-print_refusal-in-Err-clause-err g c =
    on_err _ (refused_clears _ _ (in_numbers (Err c.in-Err.refusal)) _ c.in-Err.ensures (number_not _))
