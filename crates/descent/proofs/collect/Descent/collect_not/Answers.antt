-- `collect_not` meets its contract: what `push_spot` does after `add_constant`.
use mathlib.Core.Path.{refl, ◌∙◌}
use Rattle.descent.specs.Spots.{not_atom}
use Rattle.descent.proofs.collect.Descent.collect_not.Goals as goal

pub returns : goal.returns
unfolding not_atom
returns c =
    let p = c.push_spot.ensures in
    record {
      state = p.state ∙ rw c.add_constant.ensures refl;
      written = p.written ∙ rw (c.add_constant.ensures, c.mod_neg.ensures) refl;
    }
