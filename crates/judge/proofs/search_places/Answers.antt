-- The loop keeps that the test passes at no place before `p`.
use Rattle.judge.specs.Sums.{form_rows}
use Rattle.judge.specs.Found.{unlike_rows, IsFirst, nowhere}
use Rattle.judge.proofs.FoundLaws.{turn_found, turn_on, first_moved}
use Rattle.base.specs.Loop.{first_in}
use mathlib.Core.List.{List}
use Rattle.record.specs.Span.{body}
use mathlib.Core.Path.{refl, ap, ap₂, sym, ◌∙◌}
use native.Mathlib.Omega.{arith}
use lib.ListN.{length}
use Prim.Native.Nat.{ℕ}
use Rattle.std.specs.Prelude.{Some, None}
use Rattle.judge.proofs.search_places.Goals as goal

pub loop-p-init : goal.loop-p-init
loop-p-init c = λ q h. absurd (omega arith)

pub place_unlike-requires : goal.place_unlike-requires
place_unlike-requires c =
    let x-long = c.loop-p.auto.x in
    let y-long = c.loop-p.auto.y in
    record {
      width = c.requires.width;
      place_lt = omega arith;
      left = rw c.body-f.ensures c.requires.left;
      left_ends = c.terms_at-m.ensures;
      right = rw c.body-g.ensures c.requires.right;
      right_ends = c.terms_at-n.ensures;
      alike = x-long ∙ c.requires.alike ∙ sym y-long;
      some = omega (arith, x-long, c.requires.some);
      few = omega (arith, x-long, c.requires.few);
    }

pub returns-in-Some : goal.returns-in-Some
returns-in-Some c =
    let w = c.args.w in
    let vs = c.args.vars.now in
    let n = length c.args.x.now in
    let test = unlike_rows w vs (form_rows (body c.args.left.now))
    (form_rows (body c.args.right.now)) in
    let p = c.loop-p.p in
    let same =
    ap₂ (λ (f g : List ℕ). first_in (unlike_rows w vs (form_rows f) (form_rows g) p) 0
    (length c.loop-p.x)) c.body-f.ensures c.body-g.ensures
    ∙ ap (λ (k : ℕ). first_in (test p) 0 k) c.loop-p.auto.x in
    let first : IsFirst (test p) n (Some c.in-Some.i) =
    first_moved (unlike_rows w vs (form_rows c.body-f.result.now) (form_rows c.body-g.result.now) p) (test p)
    c.loop-p.auto.x same (Some c.in-Some.i) (rw c.in-Some.is at c.place_unlike.ensures.index) in
    turn_found test w n p _ first.1 c.loop-p.invariant (rw c.from.ensures at c.unlike.ensures) (omega arith) first.0

pub loop-p-preserved : goal.loop-p-preserved
loop-p-preserved c =
    let w = c.args.w in
    let vs = c.args.vars.now in
    let n = length c.args.x.now in
    let test = unlike_rows w vs (form_rows (body c.args.left.now))
    (form_rows (body c.args.right.now)) in
    let p = c.loop-p.p in
    let same =
    ap₂ (λ (f g : List ℕ). first_in (unlike_rows w vs (form_rows f) (form_rows g) p) 0
    (length c.loop-p.x)) c.body-f.ensures c.body-g.ensures
    ∙ ap (λ (k : ℕ). first_in (test p) 0 k) c.loop-p.auto.x in
    let none : IsFirst (test p) n None =
    first_moved (unlike_rows w vs (form_rows c.body-f.result.now) (form_rows c.body-g.result.now) p) (test p)
    c.loop-p.auto.x same None (rw c.in_default.is at c.place_unlike.ensures.index) in
    turn_on test w n p (first_in (test p) 0 n) refl c.loop-p.invariant (omega (arith, none))

pub returns : goal.returns
returns c = nowhere c.equal.ensures (λ q h j u. c.loop-p.invariant q (omega arith) j u)
