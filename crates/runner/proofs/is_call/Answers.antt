-- Where there is a pass, the lengths decide.
use mathlib.Core.Path.{refl, sym}
use borrow.Author.Tests.{le-leb, lt-leb}
use Rattle.runner.proofs.ListLaws.{read_fits, read_none}
use Rattle.runner.proofs.is_call.Goals as goal

pub returns-in_default : goal.returns-in_default
returns-in_default c = sym (read_none c.args.a c.args.b c.args.words (rw c.in_default.is at c.read_call.ensures))

pub returns-then-call-a : goal.returns-then-call-a
returns-then-call-a c =
    let read = rw c.in-Some.is at c.read_call.ensures in
    rw (read_fits c.args.a c.args.b c.args.words c.in-Some.call read, le-leb _ _ c.if-call-a.true) refl

pub returns-else-call-a : goal.returns-else-call-a
returns-else-call-a c =
    let read = rw c.in-Some.is at c.read_call.ensures in
    rw (read_fits c.args.a c.args.b c.args.words c.in-Some.call read, lt-leb _ _ c.if-call-a.false) refl
