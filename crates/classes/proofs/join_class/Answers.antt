-- `join_class` meets its contract: the class that the search finds is joined, or the words of a new one are put.
use Prim.Native.Nat.{ℕ, ◌+◌, ◌*◌}
use mathlib.Core.List.{List}
use mathlib.Core.Path.{sym, ap, ◌∙◌}
use native.Mathlib.Omega.{arith}
use lib.ListN.{length}
use Rattle.base.specs.Put.{put}
use Rattle.classes.proofs.JoinLaws.{joins_old, joins_new}
use Rattle.classes.proofs.join_class.Goals as goal

pub returns-in-Some : goal.returns-in-Some
returns-in-Some c =
    joins_old _ _ _ _ c.requires.0 c.in-Some.ensures.0 c.in-Some.ensures.1 c.add_place.ensures

pub returns : goal.returns
returns c =
    let q = c.args.profile.now in
    let at = c.args.k * (length q + 1) in
    joins_new q c.args.out.now c.args.k c.args.p c.requires.0 (sym c.in_default.ensures) (omega arith) c.requires.1
    (c.put-2.ensures ∙ ap (λ (o : List ℕ). put o (at + 1) q) c.put.ensures)
