-- `run_refusal` meets its contract: one law for each way.
use mathlib.Core.Path.{sym, ◌∙◌}
use native.Mathlib.Omega.{arith}
use Rattle.best_week.proofs.RefusalLaws.{records_are, run_long, run_odd, run_filled, run_falls, run_accepted}
use Rattle.best_week.proofs.run.run_refusal.Goals as goal

pub returns-then-len-gt-RUN_BYTES : goal.returns-then-len-gt-RUN_BYTES
returns-then-len-gt-RUN_BYTES c = sym (run_long c.args.run.now c.if-len-gt-RUN_BYTES.true)

pub returns-then-odd_bytes-ne0 : goal.returns-then-odd_bytes-ne0
returns-then-odd_bytes-ne0 c =
    sym (run_odd c.args.run.now (λ e. c.if-odd_bytes-ne0.true (c.odd_bytes.ensures ∙ e)))

pub returns-then-first_filled-n : goal.returns-then-first_filled-n
returns-then-first_filled-n c =
    let s = c.args.run.now in
    sym
    (run_filled s (records_are s c.number_of-n.ensures)
    (omega (arith, c.first_filled.ensures, c.if-first_filled-n.true)))

pub returns-then-first_fall-n : goal.returns-then-first_fall-n
returns-then-first_fall-n c =
    let s = c.args.run.now in
    sym
    (run_falls s (records_are s c.number_of-n.ensures)
    (omega (arith, c.if-len-gt-RUN_BYTES.false))
    (sym c.odd_bytes.ensures ∙ c.if-odd_bytes-ne0.false)
    (omega (arith, c.first_filled.ensures, c.if-first_filled-n.false))
    (omega (arith, c.first_fall.ensures, c.if-first_fall-n.true)))

pub returns : goal.returns
returns c =
    let s = c.args.run.now in
    sym
    (run_accepted s (records_are s c.number_of-n.ensures)
    (omega (arith, c.if-len-gt-RUN_BYTES.false))
    (sym c.odd_bytes.ensures ∙ c.if-odd_bytes-ne0.false)
    (omega (arith, c.first_filled.ensures, c.if-first_filled-n.false))
    (omega (arith, c.first_fall.ensures, c.if-first_fall-n.false)))
