-- `atoms_ok` meets its contract: all atoms that the walk gives are as they must be.
use mathlib.Core.Path.{ap, ◌∙◌}
use Rattle.std.proofs.Common.{rules, tests}
use Rattle.std.proofs.lemmas.Iterator.Consumers.{YieldsList-from_shown}
use Rattle.std.proofs.lemmas.Iterator.Search.{all_from_yields_List}
use Rattle.std.specs.List.{list_all}
use Rattle.semilinear.specs.Atoms.{NextAtom, given_ok}
use Rattle.semilinear.proofs.ScanLaws.{oks, oks_done, oks_atom, all_oks}
use Rattle.semilinear.proofs.scan.atoms_ok.Goals as goal

pub returns : goal.returns
returns c =
    all_from_yields_List (λ b. b) _ _ _ c.all.ensures.ran
    (YieldsList-from_shown NextAtom (given_ok c.args.w) (oks c.args.w)
    (λ s t h. oks_done c.args.w s h.0)
    (λ s x t h. oks_atom c.args.w s x t h) _)
    (λ x b q k. search (rules, tests))
    ∙ ap (λ l. list_all (λ b. b) (oks c.args.w l)) c.of.ensures
    ∙ all_oks c.args.w c.args.f.now
