-- The tests of flattening as the code makes them (specs/Flattening.antt): a basis that is a variable is a root of kind
-- 1, and one variable is a first one without a second.
use mathlib.Core.Path.{◌≡◌, refl, ap, sym, ◌∙◌}
use Prim.Native.Nat.{ℕ, ◌+◌, ◌-◌, ◌≤◌, ◌<◌}
use native.Mathlib.Omega.{arith}
use native.Mathlib.Decide.{ℕ_discrete}
use mathlib.Core.List.{List, ◌∷◌}
use mathlib.Core.Bool.{Bool, true, false, not, ◌&&◌}
use lib.ListN.{length, take, drop}
use lib.Dec.{eqb}
use borrow.Author.Tests.{eq-eqb, ne_eqb}
use Rattle.record.specs.Fields.{kind}
use Rattle.record.specs.Tree.{Tree}
use Rattle.record.specs.Span.{sized}
use Rattle.record.specs.Decode.{decode}
use Rattle.record.proofs.SizedLaws.{sized_big}
use Rattle.expr_utils.specs.Utils.{has_shr}
use Rattle.expr.specs.Vars.{no_var, next_var, support}
use Rattle.expr.proofs.VarsLaws.{support_from, support_from_zero, support_from_next, support_from_end}
use Rattle.decompose.specs.declared.Basis.{Basis}
use Rattle.decompose.specs.Basis.{basis_span, BasisOf}
use Rattle.decompose.specs.Decompose.{no_basis, decompose_atom}
use Rattle.views.specs.Grouping.{variable_basis}
use Rattle.views.proofs.SplitLaws.{variable_kind, other_kind}
use Rattle.structure_laws.specs.FlattenComplexAtoms.{is_plain}
use Rattle.flatten.specs.Flattening.{complex_tree}

-- ---- plain atoms

kind_variable : (b : List ℕ) → sized b ≡ true → variable_basis (decode b) ≡ eqb (kind b) 1
kind_variable b ok = go (ℕ_discrete (kind b) 1)
  where
    go : Dec (kind b ≡ 1) → variable_basis (decode b) ≡ eqb (kind b) 1
    go (yes e) = variable_kind b ok e ∙ sym (eq-eqb (kind b) 1 e)
    go (no n) = other_kind b ok n ∙ sym (ne_eqb (kind b) 1 n)

pub plain_none : (w : ℕ) (s : List ℕ) → decompose_atom w (decode s) ≡ no_basis → false ≡ is_plain w (decode s)
unfolding is_plain
plain_none w s e = rw e refl

module _ (w : ℕ) (s : List ℕ) (r : Basis) (d : BasisOf w s r) where
  pub basis_big : 16 ≤ length (take (r.end - r.start) (drop r.start s))
  unfolding basis_span
  basis_big = sized_big (basis_span s r) d.ok

  pub plain_some : {k : ℕ} → k ≡ kind (take (r.end - r.start) (drop r.start s)) → eqb k 1 ≡ is_plain w (decode s)
  unfolding is_plain basis_span
  plain_some ek =
      ap (λ (n : ℕ). eqb n 1) ek ∙ sym (kind_variable (basis_span s r) d.ok) ∙ rw d.view refl

-- ---- complex atoms

module _ (w : ℕ) (t : Tree) where
  pub complex_plain : is_plain w t ≡ true → false ≡ complex_tree w t
  unfolding complex_tree
  complex_plain e = sym (simp e)

  pub complex_counted : is_plain w t ≡ false → {b : Bool} → eqb (length (support t)) 1 ≡ b
      → b && not (has_shr t) ≡ complex_tree w t
  unfolding complex_tree
  complex_counted p e = sym (simp (p, e))

-- how many variables there are, by the first and the second
module _ (t : Tree) {v : ℕ} (ev : v ≡ next_var 0 t) (low : v ≤ no_var) where
  pub count_none : v ≡ no_var → eqb (length (support t)) 1 ≡ false
  count_none z = ap (λ (l : List ℕ). eqb (length l) 1) (support_from_zero t ∙ support_from_end 0 t (sym ev ∙ z))

  module _ (some : v ≡ no_var → ⊥) where
    first : support t ≡ next_var 0 t ∷ support_from (next_var 0 t + 1) t
    first = support_from_zero t ∙ support_from_next 0 t (omega arith)

    pub count_one : next_var (v + 1) t ≡ no_var → eqb (length (support t)) 1 ≡ true
    count_one z =
        let z' : next_var (next_var 0 t + 1) t ≡ no_var = rw ev at z in
        let none = support_from_end (next_var 0 t + 1) t z' in
        eq-eqb (length (support t)) 1 (ap length first ∙ omega (arith, ap length none))

    pub count_more : next_var (v + 1) t ≤ no_var → (next_var (v + 1) t ≡ no_var → ⊥) → eqb (length (support t)) 1 ≡ false
    count_more le n =
        let lt : next_var (v + 1) t < no_var = omega arith in
        let lt' : next_var (next_var 0 t + 1) t < no_var = rw ev at lt in
        let next = support_from_next (next_var 0 t + 1) t lt' in
        ne_eqb (length (support t)) 1 (λ z. omega (arith, ap length first, ap length next, z))
