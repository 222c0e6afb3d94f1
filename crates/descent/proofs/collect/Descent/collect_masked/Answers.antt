-- `collect_masked` meets its contract: the constant, then the And with the literal.
use Rattle.descent.proofs.PushLaws.{ready_literal, collects_literal}
use Rattle.descent.proofs.collect.Descent.collect_masked.Goals as goal

pub collect_literal_and-requires : goal.collect_literal_and-requires
collect_literal_and-requires c =
    let pre = c.requires in
    record {
      span = pre.span;
      ready = ready_literal _ c.args.file.now _ _ pre.ready _ _ _ c.add_constant.ensures;
      value_lt = pre.value_lt;
      variable = pre.variable;
    }

pub returns : goal.returns
returns c =
    collects_literal _ _ _ _ c.requires.ready _ _ _ c.add_constant.ensures _ _ _ _
    (rw (← c.and_coeff.ensures) c.collect_literal_and.ensures)
