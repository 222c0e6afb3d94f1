-- `read_views` meets its contract: the loop keeps what was read, and the rows that are left.
use mathlib.Core.Path.{ap, sym, ◌∙◌}
use Prim.Native.Nat.{ℕ, ◌+◌}
use native.Mathlib.Omega.{arith}
use Rattle.views.specs.Views.{kept_of}
use Rattle.views.proofs.ViewsLaws.{kept_here, kept_away}
use Rattle.views.proofs.ReadLaws.{reads_start, reads_row, reads_end, number_lt, end_inside, coeffs_long}
use Rattle.views.proofs.ReadLaws.{tree_accepted, tree_variable, row_tree_lem, row_coeff}
use Rattle.views.proofs.read_views.Goals as goal
use Rattle.views.proofs.read_views.Goals.{then-is_some, else-is_some}

pub of-row-items-requires : goal.of-row-items-requires
of-row-items-requires c = c.requires.ends.inside

pub loop-row-init : goal.loop-row-init
loop-row-init c =
    rw (c.into_iter-row-iterator.ensures.into_iter_gives, c.of-row-items.ensures)
    (reads_start _ _ _ _ _ c.args.terms c.requires.atoms_ok_lem c.requires.ends c.requires.views_room
    c.requires.coeffs_room)

pub overflow_add-end : goal.overflow_add-end
overflow_add-end c =
    omega (arith, end_inside _ _ _ _ _ _ _ _ _ _ c.loop-row.invariant c.in-Some.ensures.steps, c.len.ensures)

pub view_of-view-requires : goal.view_of-view-requires
view_of-view-requires c =
    let h = c.loop-row.invariant in
    let g = c.in-Some.ensures.steps in
    let e = ap (λ (n : ℕ). c.loop-row.at + n) c.len.ensures in
    record {
      width = c.requires.width;
      from_le = omega (arith, c.len.ensures);
      to_le = omega (arith, end_inside _ _ _ _ _ _ _ _ _ _ h g, c.len.ensures);
      accepted = tree_accepted c.args.w c.args.f.now c.loop-row.at g h.place e h.atoms;
      variable = tree_variable c.args.w c.args.f.now c.loop-row.at g h.place e h.atoms;
    }

pub bounds-views-number : goal.bounds-views-number
bounds-views-number c =
    omega (arith, number_lt _ _ _ _ _ _ _ _ _ _ c.loop-row.invariant c.in-Some.ensures.steps, c.loop-row.invariant.views_room)

pub bounds-coeffs-number : goal.bounds-coeffs-number
bounds-coeffs-number c =
    omega (
      arith,
      number_lt _ _ _ _ _ _ _ _ _ _ c.loop-row.invariant c.in-Some.ensures.steps,
      c.loop-row.invariant.coeffs_room,
      coeffs_long _ _ _ _ _ _ _ _ _ _ c.loop-row.invariant,
    )

pub loop-row-preserved : goal.loop-row-preserved
loop-row-preserved c =
    let h = c.loop-row.invariant in
    let g = c.in-Some.ensures.steps in
    let e = ap (λ (n : ℕ). c.loop-row.at + n) c.len.ensures in
    let coeff = row_coeff g ∙ sym c.unwrap_or-coeff.ensures in
    reads_row _ _ _ _ _ _ _ _ _ _ h g e c.view_of-view.result
    (c.view_of-view.ensures _ (row_tree_lem c.args.w c.args.f.now c.loop-row.at g h.place e) coeff)
    ((elim c.if-is_some.branch [
      | then-is_some w ↦ w.coeffs-is ∙ kept_away _ c.unwrap_or-coeff.result (sym c.is_some.ensures ∙ w.if-is_some.true)
      | else-is_some w ↦ w.coeffs-is ∙ kept_here _ c.unwrap_or-coeff.result (sym c.is_some.ensures ∙ w.if-is_some.false)
    ])
    ∙ ap (kept_of c.view_of-view.result) (sym coeff))

pub returns : goal.returns
returns c = reads_end _ _ _ _ _ _ _ _ _ _ c.loop-row.invariant c.in-None.ensures.steps.0
