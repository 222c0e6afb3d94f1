-- `normalize_by_rules` meets its contract: rules 1, rules 2, and 18 for others.
use mathlib.Core.Path.{◌∙◌}
use Rattle.atom_table.proofs.PassLaws.{gives_same}
use Rattle.rules_laws.proofs.RulesLaws.{ruled_one, rules_first, rules_second, rules_other}
use Rattle.semilinear.specs.Answers.{in_numbers}
use Rattle.semilinear.proofs.OutcomeLaws.{refused_gives}
use Rattle.semilinear_normalizer.proofs.normalize_by_rules.Goals as goal

pub returns-then-rules-eq1 : goal.returns-then-rules-eq1
returns-then-rules-eq1 c =
    gives_same (rules_first _ _ _ c.if-rules-eq1.true ∙ ruled_one _ _) _ (in_numbers c.normalize_to_semilinear.result)
    _ c.normalize_to_semilinear.ensures

pub returns-then-rules-eq2 : goal.returns-then-rules-eq2
returns-then-rules-eq2 c =
    gives_same (rules_second _ _ _ c.if-rules-eq2.true) _ (in_numbers c.normalize_by_two.result) _
    c.normalize_by_two.ensures

pub returns : goal.returns
returns c =
    gives_same (rules_other _ _ _ c.if-rules-eq1.false c.if-rules-eq2.false) _ (in_numbers c.refuse.result) _
    (refused_gives c.refuse.ensures)
