-- `Group::gather_rows` meets its contract: the loop keeps the entries of the rows before i.
use mathlib.Core.Path.{ap, sym, ◌∙◌}
use native.Mathlib.Omega.{arith}
use Rattle.base.proofs.LoopLaws.{for_none, for_turn, for_done}
use Rattle.views.specs.declared.View.{View}
use Rattle.group.specs.Group.{push_entry}
use Rattle.group.specs.Gathered.{gather_at, gathered}
use Rattle.views.proofs.HasBasisLaws.{basis_grouped}
use Rattle.views.proofs.ViewsLaws.{view_some}
use Rattle.group.proofs.GatherLaws.{gather_same, gather_push, few_entries}
use Rattle.group.proofs.Group.gather_rows.Goals as goal
use Rattle.group.proofs.Group.gather_rows.Goals.{else-has_basis, then-has_basis}

pub loop-i-init : goal.loop-i-init
loop-i-init c = c.requires.0 ∙ sym (for_none _ 0 0 _ (omega arith))

pub offset_bounds-self-self : goal.offset_bounds-self-self
offset_bounds-self-self c = omega (arith, few_entries _ _ _ _ c.loop-i.i c.loop-i.invariant, c.requires.2)

pub unwrap-v-requires : goal.unwrap-v-requires
unwrap-v-requires c = basis_grouped _ _ _ _ (sym c.has_basis.ensures ∙ c.if-has_basis.true)

pub bounds-self-self : goal.bounds-self-self
bounds-self-self c = omega (arith, few_entries _ _ _ _ c.loop-i.i c.loop-i.invariant, c.requires.2)

pub overflow_add-self : goal.overflow_add-self
overflow_add-self c = omega (arith, few_entries _ _ _ _ c.loop-i.i c.loop-i.invariant, c.requires.2)

pub loop-i-preserved : goal.loop-i-preserved
unfolding push_entry
loop-i-preserved c =
    let a = c.args in
    let h = c.loop-i in
    for_turn (gather_at a.f.now a.views.now a.hash a.b.now) h.i _ h.invariant
    (elim c.if-has_basis.branch [
      | then-has_basis w ↦ w.self-is ∙ sym
          (gather_push a.f.now a.views.now a.hash a.b.now h.i h.self (sym c.has_basis.ensures ∙ w.if-has_basis.true)
          ∙ ap (λ (v : View). push_entry h.self v.coeff v.mask h.i) (view_some a.views.now h.i w.unwrap-v.ensures))
      | else-has_basis w ↦ w.self-is ∙ sym
          (gather_same a.f.now a.views.now a.hash a.b.now h.i h.self (sym c.has_basis.ensures ∙ w.if-has_basis.false))
    ])

pub returns : goal.returns
unfolding gathered
returns c =
    let a = c.args in
    for_done (gather_at a.f.now a.views.now a.hash a.b.now) _ (omega arith) (omega arith) c.loop-i.invariant
