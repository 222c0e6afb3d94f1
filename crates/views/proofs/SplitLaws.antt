-- The view that the code makes of an atom's tree (specs/Views.antt): the basis is a part of the form's bytes, which
-- bases count, and that it is the row's view.
use mathlib.Core.Path.{◌≡◌, refl, ap, sym, ◌∙◌}
use Prim.Native.Nat.{ℕ, ◌+◌, ◌-◌, ◌≤◌}
use native.Mathlib.Omega.{arith}
use native.Mathlib.Decide.{ℕ_discrete}
use mathlib.Core.List.{List}
use mathlib.Core.Bool.{Bool, true, false}
use lib.ListN.{length, take, drop, length-take, length-drop}
use borrow.Author.Tests.{eq-eqb, ne_eqb}
use Rattle.std.specs.Prelude.{Some, None}
use Rattle.base.specs.Choice.{when}
use Rattle.base.proofs.PartLaws.{part_part}
use Rattle.record.specs.Fields.{kind, arity}
use Rattle.record.specs.Span.{sized}
use Rattle.record.specs.Tree.{IsBytes}
use Rattle.record.specs.Decode.{leaf, decode}
use Rattle.record.proofs.FieldsLaws.{arity_zero_of_lt, kind_of_arity_zero}
use Rattle.record.proofs.SizedLaws.{sized_big}
use Rattle.record.proofs.DecodeLaws.{decode_leaf, decode_one, decode_two}
use Rattle.record.proofs.BytesLaws.{bytes_take, bytes_drop}
use Rattle.expr_refusal.specs.Refusal.{tree_refusal}
use Rattle.expr.specs.Hash.{structural_hash}
use Rattle.expr_refusal.proofs.RefusalLaws.{sized_accepted}
use Rattle.expr.proofs.IsExprLaws.{expr_encodable}
use Rattle.expr.proofs.AcceptLaws.{accept_encode, accept_expr}
use Rattle.decompose.specs.declared.Basis as found
use Rattle.semilinear.specs.Form.{Row}
use Rattle.decompose.specs.Basis.{basis_span, BasisOf}
use Rattle.decompose.specs.Decompose.{no_basis, masked, decompose_atom}
use Rattle.views.specs.declared.View.{View}
use Rattle.views.specs.Grouping.{view_row, any_basis, variable_basis}
use Rattle.views.specs.Views.{basis_bytes, only_of, Viewed}
use Rattle.views.proofs.ViewLaws.{view_no_basis, view_only_lem}
use Rattle.views.proofs.ViewsLaws.{viewed_none, viewed_some}

-- ---- which bases count

pub only_any : only_of false ≡ any_basis
unfolding only_of
only_any = refl

pub only_variable : only_of true ≡ variable_basis
unfolding only_of
only_variable = refl

pub variable_kind : (b : List ℕ) → sized b ≡ true → kind b ≡ 1 → variable_basis (decode b) ≡ true
unfolding variable_basis leaf
variable_kind b ok e =
    let a : arity (kind b) ≡ 0 = arity_zero_of_lt (kind b) (omega arith) in
    rw (decode_leaf b ok refl a) (simp (ne_eqb (kind b) 0 (omega arith)))

pub other_kind : (b : List ℕ) → sized b ≡ true → (kind b ≡ 1 → ⊥) → variable_basis (decode b) ≡ false
unfolding variable_basis leaf
other_kind b ok n = go (ℕ_discrete (arity (kind b)) 0) (ℕ_discrete (arity (kind b)) 1)
  where
    go : Dec (arity (kind b) ≡ 0) → Dec (arity (kind b) ≡ 1) → variable_basis (decode b) ≡ false
    go (yes a) d =
        let z : kind b ≡ 0 = omega (arith, kind_of_arity_zero (kind b) a) in
        rw (decode_leaf b ok refl a) (simp (eq-eqb (kind b) 0 z))
    go (no p) (yes a) = rw (decode_one b ok refl a refl) refl
    go (no p) (no q) = rw (decode_two b ok refl p q refl refl) refl

-- ---- the view that the code makes of an atom's tree, which stands in f from `from` to `to`

module _ (w : ℕ) (f : List ℕ) (bytes : IsBytes f) (from to : ℕ) (le : from ≤ to) (inside : to ≤ length f)
    (ok : tree_refusal w (take (to - from) (drop from f)) ≡ 0) {r : found.Basis}
    (d : BasisOf w (take (to - from) (drop from f)) r) where
  abbrev t : List ℕ
  t = take (to - from) (drop from f)

  t_length : length t ≡ to - from
  t_length = length-take (to - from) (drop from f) ∙ omega (arith, length-drop from f)

  pub end_inside : from + r.end ≤ to
  end_inside = omega (arith, d.end_le, t_length)

  -- the basis in f
  pub basis_part : take (from + r.end - (from + r.start)) (drop (from + r.start) f) ≡ basis_span t r
  unfolding basis_span
  basis_part =
      sym (part_part f from (to - from) r.start r.end d.start_le (omega (arith, d.end_le, t_length)))

  module _ {b : List ℕ} (eb : b ≡ take (from + r.end - (from + r.start)) (drop (from + r.start) f)) where
    basis_accepted : tree_refusal w b ≡ 0
    basis_accepted = rw (eb, basis_part) (d.accepted ok)

    pub basis_sized : sized b ≡ true
    basis_sized = sized_accepted w b basis_accepted

    pub basis_big : 16 ≤ length b
    basis_big = sized_big b basis_sized

    basis_bytes_lem : IsBytes b
    basis_bytes_lem =
        rw eb (bytes_take (from + r.end - (from + r.start)) (drop (from + r.start) f)
        (bytes_drop (from + r.start) f bytes))

    view_tree : decompose_atom w (decode t) ≡ masked (decode b) r.mask
    view_tree = d.view ∙ ap (λ (l : List ℕ). masked (decode l) r.mask) (sym (eb ∙ basis_part))

    module _ (only : Bool) (x : Row) (et : x.tree ≡ decode t) (n : x.coeff ≡ 0 → ⊥) where
      row_view : view_row (only_of only) w x ≡ when (only_of only (decode b)) (λ _. masked (decode b) r.mask)
          (λ _. no_basis)
      row_view = view_only_lem (only_of only) w x n (ap (decompose_atom w) et ∙ view_tree)

      -- only variables count, and it is none
      counts_not : only ≡ true → (kind b ≡ 1 → ⊥) → only_of only (decode b) ≡ false
      unfolding only_of
      counts_not o k = rw o (other_kind b basis_sized k)

      pub viewed_other : only ≡ true → (kind b ≡ 1 → ⊥) → Viewed (only_of only) w f None x
      viewed_other o k = viewed_none (only_of only) w f x (row_view ∙ simp (counts_not o k))

      pub counts_variable : only ≡ true → kind b ≡ 1 → only_of only (decode b) ≡ true
      unfolding only_of
      counts_variable o k = rw o (variable_kind b basis_sized k)

      pub counts_any : only ≡ false → only_of only (decode b) ≡ true
      unfolding only_of any_basis
      counts_any o = rw o refl

      pub viewed_basis : {h : ℕ} → h ≡ structural_hash (decode b) → {c : ℕ} → x.coeff ≡ c → only_of only (decode b) ≡
          true
          → Viewed (only_of only) w f
          (Some (record { coeff = c; hash = h; start = from + r.start; end = from + r.end; mask = r.mask })) x
      unfolding basis_bytes
      viewed_basis {h} eh {c} ec counts =
          let v : View = record { coeff = c; hash = h; start = from + r.start; end = from + r.end; mask = r.mask } in
          let seen : when (only_of only (decode b)) (λ _. masked (decode b) r.mask) (λ _. no_basis)
          ≡ masked (decode b) r.mask = simp counts in
          viewed_some (only_of only) w f x v
          (record {
            start_le = omega (arith, d.start_le);
            end_le = omega (arith, end_inside);
            basis =
                record {
                  same = rw (← eb) (accept_encode w b basis_bytes_lem basis_accepted);
                  encodable = rw (← eb) (expr_encodable (decode b) (accept_expr w b basis_bytes_lem basis_accepted));
                  hashed = rw (← eb) eh;
                };
          })
          (sym ec) (row_view ∙ seen ∙ ap (λ (l : List ℕ). masked (decode l) r.mask) eb)

-- no basis at all
pub viewed_no_basis : (w : ℕ) (f t : List ℕ) → decompose_atom w (decode t) ≡ no_basis → (only : Bool) (x : Row)
    → x.tree ≡ decode t → (x.coeff ≡ 0 → ⊥) → Viewed (only_of only) w f None x
viewed_no_basis w f t none only x et n =
    viewed_none (only_of only) w f x (view_no_basis (only_of only) w x n (ap (decompose_atom w) et ∙ none))
