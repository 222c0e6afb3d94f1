-- The list run, and its last bytes left in sheet.
use mathlib.Core.Path.{◌∙◌}
use Rattle.runner.proofs.TurnLaws.{slice_length}
use Rattle.runner.proofs.RunLaws.{lies_placed, lies_given, placed_again, placed_bytes}
use Rattle.runner.proofs.run_from.Goals as goal

pub run_list-last-requires : goal.run_list-last-requires
run_list-last-requires c = (c.requires.0, lies_placed c.args.spare.now c.requires.1)

pub settle-requires : goal.settle-requires
settle-requires c =
    let run = c.run_list-last in
    (run.auto.sheet ∙ slice_length c.requires.1, placed_again run.ensures)

pub returns : goal.returns
returns c =
    let run = c.run_list-last in
    lies_given (placed_bytes run.ensures c.settle.ensures)
