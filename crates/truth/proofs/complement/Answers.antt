-- `complement` meets its contract: by the test.
use Rattle.truth.proofs.complement.Goals as goal

pub returns-then-flip : goal.returns-then-flip
returns-then-flip c = simp c.if-flip.true
