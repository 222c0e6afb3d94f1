-- `place_sums` meets its contract: the loop keeps that the sums so far and the rows left give the whole.
use Rattle.judge.proofs.SumsLaws.{summing_start, summing_with, summing_without, summing_end}
use Rattle.semilinear.proofs.WalkLaws.{row_sized}
use mathlib.Core.Path.{ap, sym, ◌∙◌}
use Prim.Native.Nat.{ℕ}
use native.Mathlib.Omega.{arith}
use lib.ListN.{length, replicate, length-replicate}
use Rattle.judge.proofs.sums.place_sums.Goals as goal

pub of-row-items-requires : goal.of-row-items-requires
of-row-items-requires c = c.requires.ends.inside

pub loop-row-init : goal.loop-row-init
loop-row-init c =
    let e = c.fill.ensures.after (λ _ e. e) in
    let size = ap length e ∙ length-replicate (length c.args.sums.now) 0 in
    rw (c.into_iter-row-iterator.ensures.into_iter_gives, c.of-row-items.ensures)
    (summing_start c.args.w c.args.place c.args.vars.now c.args.f.now _ c.args.terms c.requires.atoms_ok_lem
    c.requires.ends (e ∙ ap (λ (n : ℕ). replicate n 0) (sym size)))

pub rows_at-rows-requires : goal.rows_at-rows-requires
rows_at-rows-requires c = row_sized c.in-Some.ensures.steps c.args.w c.loop-row.invariant.atoms

pub add_coeff-requires : goal.add_coeff-requires
add_coeff-requires c = (c.requires.width, c.loop-row.invariant.fits)

pub loop-row-preserved-in-Some-coeff : goal.loop-row-preserved-in-Some-coeff
loop-row-preserved-in-Some-coeff c =
    let size = ap length (c.fill.ensures.after (λ _ e. e)) ∙ length-replicate (length c.args.sums.now) 0 in
    summing_with _ _ _ _ _ _ c.loop-row.invariant c.in-Some.ensures.steps c.in-Some-coeff.coeff c.in-Some-coeff.is
    (omega (arith, size, c.requires.few)) c.rows_at-rows.ensures c.add_coeff.ensures

pub loop-row-preserved : goal.loop-row-preserved
loop-row-preserved c = summing_without _ _ _ _ _ _ c.loop-row.invariant c.in-Some.ensures.steps c.in_default.is

pub returns : goal.returns
returns c =
    let size = ap length (c.fill.ensures.after (λ _ e. e)) ∙ length-replicate (length c.args.sums.now) 0 in
    record {
      long = c.loop-row.invariant.long ∙ size;
      sum =
          λ i h.
          summing_end _ _ _ _ _ c.loop-row.sums c.loop-row.invariant c.in-None.ensures.steps.0 i
          (omega (arith, size));
    }
