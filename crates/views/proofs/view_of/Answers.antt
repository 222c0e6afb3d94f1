-- `view_of` meets its contract: no coefficient, no basis, a basis that does not count, or one that does.
use mathlib.Core.Path.{◌≡◌, refl, sym, ◌∙◌}
use Rattle.expr_refusal.proofs.RefusalLaws.{sized_accepted}
use Rattle.views.proofs.ViewLaws.{view_none}
use Rattle.views.proofs.ViewsLaws.{viewed_none}
use Rattle.views.proofs.SplitLaws.{viewed_no_basis, viewed_other, viewed_basis}
use Rattle.views.proofs.SplitLaws.{basis_sized, basis_big, counts_variable, counts_any}
use Rattle.views.proofs.view_of.Goals as goal
use Rattle.views.proofs.view_of.Goals.{else-only-via-then-only+else-kind, else-only-via-else-only}

pub returns-then-c-eq0 : goal.returns-then-c-eq0
returns-then-c-eq0 c =
    λ x et ec. viewed_none _ _ _ x (view_none _ _ x (ec ∙ c.if-c-eq0.true))

pub decompose_atom-requires : goal.decompose_atom-requires
decompose_atom-requires c =
    (sized_accepted _ _ c.requires.accepted, c.requires.width, c.requires.variable)

pub returns-in_default : goal.returns-in_default
returns-in_default c =
    λ x et ec.
    viewed_no_basis _ c.args.f.now _ c.in_default.ensures c.args.only x et (λ z. c.if-c-eq0.false (sym ec ∙ z))

pub kind-requires : goal.kind-requires
kind-requires c =
    basis_big _ c.args.f.now (λ i. (c.type_inv.f i).fits)
    c.args.from c.args.to
    c.requires.from_le c.requires.to_le c.requires.accepted c.in-Some.ensures
    refl

pub returns-then-kind : goal.returns-then-kind
returns-then-kind c =
    λ x et ec.
    viewed_other _ c.args.f.now (λ i. (c.type_inv.f i).fits)
    c.args.from c.args.to
    c.requires.from_le c.requires.to_le c.requires.accepted c.in-Some.ensures
    refl
    c.args.only x et (λ z. c.if-c-eq0.false (sym ec ∙ z)) c.if-only.true
    (λ k. c.if-kind.true (c.kind.ensures ∙ k))

pub structural_hash-requires : goal.structural_hash-requires
structural_hash-requires c =
    basis_sized _ c.args.f.now (λ i. (c.type_inv.f i).fits)
    c.args.from c.args.to
    c.requires.from_le c.requires.to_le c.requires.accepted c.in-Some.ensures
    refl

pub returns : goal.returns
returns c =
    λ x et ec.
    let n : x.coeff ≡ 0 → ⊥ = λ z. c.if-c-eq0.false (sym ec ∙ z) in
    viewed_basis _ c.args.f.now (λ i. (c.type_inv.f i).fits)
    c.args.from c.args.to
    c.requires.from_le c.requires.to_le c.requires.accepted c.in-Some.ensures
    refl
    c.args.only x et n c.structural_hash.ensures ec
    (elim c.else-only.branch [
      | else-only-via-then-only+else-kind w ↦ counts_variable _ c.args.f.now (λ i. (c.type_inv.f i).fits)
          c.args.from c.args.to c.requires.from_le c.requires.to_le c.requires.accepted c.in-Some.ensures
          refl c.args.only x et n w.if-only.true
          (sym w.kind.ensures ∙ w.if-kind.false)
      | else-only-via-else-only w ↦ counts_any _ c.args.f.now (λ i. (c.type_inv.f i).fits)
          c.args.from c.args.to c.requires.from_le c.requires.to_le c.requires.accepted c.in-Some.ensures
          refl c.args.only x et n w.if-only.false
    ])
