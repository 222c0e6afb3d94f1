-- `flatten_rows` meets its contract: the loop keeps that the rows so far are flattened.
use mathlib.Core.Path.{refl, sym, ap, ◌∙◌}
use Prim.Native.Nat.{ℕ}
use lib.ListN.{set}
use Rattle.semilinear.proofs.ValidLaws.{front_parts}
use Rattle.semilinear.proofs.WalkLaws.{row_sized, row_variable}
use Rattle.flatten.proofs.FlatTurnLaws.{turn_none, turn_put, turn_flat}
use Rattle.flatten.proofs.FlatWalkLaws.{walked_start, walked_number, walked_index, walked_row, walked_end}
use Rattle.flatten.proofs.flatten_rows.Goals as goal

pub loop-row-init : goal.loop-row-init
loop-row-init c =
    rw (c.into_iter-row-iterator.ensures.into_iter_gives, c.of-row-items.ensures)
    (walked_start _ _ _ _ (λ i. (c.type_inv.f i).fits) (front_parts _ _ c.requires.front_ok_lem) c.args.terms
    c.requires.ends _ _ _ c.requires.clear c.requires.held refl refl)

pub is_complex-requires : goal.is_complex-requires
is_complex-requires c =
    let h = c.loop-row.invariant in
    let g = c.in-Some.ensures.steps in
    (row_sized g c.args.w h.atoms, c.requires.width, row_variable g c.args.w h.atoms)

pub flatten_atom-requires : goal.flatten_atom-requires
flatten_atom-requires c =
    let h = c.loop-row.invariant in
    let g = c.in-Some.ensures.steps in (
      row_sized g c.args.w h.atoms,
      record {
        width = c.requires.width;
        within = walked_index _ _ _ _ _ _ _ _ h g (sym c.is_complex.ensures ∙ c.if-is_complex.true);
        room = h.room;
        more = (walked_number _ _ _ _ _ _ _ _ h g).1;
      },
    )

pub loop-row-preserved-then-is_complex : goal.loop-row-preserved-then-is_complex
loop-row-preserved-then-is_complex c =
    let h = c.loop-row.invariant in
    let g = c.in-Some.ensures.steps in
    walked_row _ _ _ _ _ _ _ _ h g _ _ _ _
    (turn_flat c.args.w g h.room _ c.loop-row.flag c.in-Some-coeff.coeff c.in-Some-coeff.is h.terms
    (sym c.is_complex.ensures ∙ c.if-is_complex.true) c.flatten_atom.ensures)

pub bounds-coeffs-row : goal.bounds-coeffs-row
bounds-coeffs-row c = (walked_number _ _ _ _ _ _ _ _ c.loop-row.invariant c.in-Some.ensures.steps).0

pub loop-row-preserved-else-is_complex : goal.loop-row-preserved-else-is_complex
loop-row-preserved-else-is_complex c =
    let h = c.loop-row.invariant in
    let g = c.in-Some.ensures.steps in
    walked_row _ _ _ _ _ _ _ _ h g _ _ _ _
    (turn_put c.args.w g h.room _ c.loop-row.flag c.in-Some-coeff.coeff c.in-Some-coeff.is h.terms
    (sym c.is_complex.ensures ∙ c.if-is_complex.false)
    (ap (λ (i : ℕ). set c.loop-row.coeffs i c.in-Some-coeff.coeff) g.number))

pub loop-row-preserved : goal.loop-row-preserved
loop-row-preserved c =
    let h = c.loop-row.invariant in
    let g = c.in-Some.ensures.steps in
    walked_row _ _ _ _ _ _ _ _ h g _ _ _ _ (turn_none c.args.w g h.room _ c.loop-row.flag c.in_default.is)

pub returns : goal.returns
returns c = walked_end _ _ _ _ _ _ _ _ _ c.loop-row.invariant c.in-None.ensures.steps.0
