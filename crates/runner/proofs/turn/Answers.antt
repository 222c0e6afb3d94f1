-- A law for each slice and each answer.
use Rattle.std.specs.Prelude.{◌≡◌, Ok, Err}
use mathlib.Core.Path.{refl, sym, ◌∙◌}
use Rattle.base.proofs.RefusalLaws.{number_not}
use Rattle.semilinear.specs.Answers.{in_numbers}
use Rattle.runner.specs.Passes.{claimed_call}
use Rattle.runner.proofs.TurnLaws.{first_refused, first_accepted, second_refused, second_accepted}
use Rattle.runner.proofs.TurnLaws.{first_asks, second_asks}
use Rattle.runner.proofs.turn.Goals.{then-x, else-x}
use Rattle.runner.proofs.turn.Goals as goal

pub call_part-turned-requires : goal.call_part-turned-requires
call_part-turned-requires c = (first_asks c.if-x.true c.requires.2, c.requires.1)

pub call_part-turned-requires-else-x : goal.call_part-turned-requires-else-x
call_part-turned-requires-else-x c = (second_asks c.if-x.false c.requires.2, c.requires.0)

pub returns-in_default : goal.returns-in_default
returns-in_default c =
    elim c.if-x.branch [
      | then-x w ↦
          let call = w.call_part-turned in
          let e : call.result ≡ Err c.in_default.field-0 = sym w.turned-is ∙ c.in_default.is in
          rw (w.sheet-is, w.spare-is)
          (first_refused (claimed_call c.args.call) (in_numbers call.result) call.new.to w.if-x.true c.requires.2
          call.ensures (rw e (number_not _)))
      | else-x w ↦
          let call = w.call_part-turned-else-x in
          let e : call.result ≡ Err c.in_default.field-0 = sym w.turned-is ∙ c.in_default.is in
          rw (w.sheet-is, w.spare-is)
          (second_refused (claimed_call c.args.call) (in_numbers call.result) call.new.to w.if-x.false c.requires.2
          call.ensures (rw e (number_not _)))
    ]

pub returns : goal.returns
returns c =
    elim c.if-x.branch [
      | then-x w ↦
          let call = w.call_part-turned in
          let e : call.result ≡ Ok c.in-Ok.made = sym w.turned-is ∙ c.in-Ok.is in
          rw (w.sheet-is, w.spare-is)
          (first_accepted (claimed_call c.args.call) (in_numbers (Ok c.in-Ok.made)) call.new.to w.if-x.true c.requires.2
          (rw e at call.ensures) refl)
      | else-x w ↦
          let call = w.call_part-turned-else-x in
          let e : call.result ≡ Ok c.in-Ok.made = sym w.turned-is ∙ c.in-Ok.is in
          rw (w.sheet-is, w.spare-is)
          (second_accepted (claimed_call c.args.call) (in_numbers (Ok c.in-Ok.made)) call.new.to w.if-x.false c.requires.2
          (rw e at call.ensures) refl)
    ]
