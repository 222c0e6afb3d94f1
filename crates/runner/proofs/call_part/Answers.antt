-- What the pass wrote to a part is the start of the whole.
use mathlib.Core.Path.{sym}
use lib.ListN.{take}
use lib.Seq.{length-take-le}
use Rattle.claims.specs.Calls.{pass_gives}
use Rattle.semilinear.specs.Answers.{in_numbers}
use Rattle.runner.specs.Passes.{claimed}
use Rattle.runner.proofs.TurnLaws.{parted}
use Rattle.runner.proofs.call_part.Goals as goal

pub slice_bounds-make_call-end : goal.slice_bounds-make_call-end
slice_bounds-make_call-end c = sym (length-take-le c.args.used c.args.from.now c.requires.0)

pub slice_bounds-make_call-end-3 : goal.slice_bounds-make_call-end-3
slice_bounds-make_call-end-3 c = sym (length-take-le c.args.call.len c.args.to.now c.requires.1)

pub returns : goal.returns
returns c =
    let call = c.make_call in
    parted (pass_gives (claimed c.args.call.pass) (take c.args.used c.args.from.now)) c.args.call.len
    (in_numbers call.result) c.args.to.now call.new.out c.requires.1 call.auto.out call.ensures
