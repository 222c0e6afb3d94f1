-- `place_unlike` meets its contract: the sums of both forms, and the search over them.
use Rattle.judge.specs.Sums.{form_rows}
use Rattle.judge.specs.Found.{unlike_sums, unlike_rows}
use Rattle.judge.proofs.FoundLaws.{sums_rows, first_moved}
use Rattle.base.proofs.SearchLaws.{first_as}
use Rattle.base.specs.Loop.{first_in}
use mathlib.Core.Path.{ap, ◌∙◌}
use native.Mathlib.Omega.{arith}
use lib.ListN.{length}
use Prim.Native.Nat.{ℕ}
use Rattle.judge.proofs.place_unlike.Goals as goal

pub returns : goal.returns
returns c =
    let first = c.place_sums in
    let second = c.place_sums-2 in
    let x = first.new.sums in
    let y = second.new.sums in
    let w = c.args.w in
    let p = c.args.place in
    let vs = c.args.vars.now in
    let f = form_rows c.args.f.now in
    let g = form_rows c.args.g.now in
    let n = length c.args.x.now in
    record {
      index =
          first_moved (unlike_sums w p x y) (unlike_rows w vs f g p) first.ensures.long
          (ap (λ (k : ℕ). first_in (unlike_sums w p x y) 0 k) first.ensures.long
          ∙ first_as (unlike_sums w p x y) (unlike_rows w vs f g p) 0 n
          (λ i _. sums_rows w p c.requires.width vs f g x y n c.requires.some first.ensures.sum
          (λ j h. second.ensures.sum j (omega (arith, c.requires.alike))) i))
          c.first_unlike.result c.first_unlike.ensures;
      long_x = first.ensures.long;
      long_y = second.ensures.long;
    }
