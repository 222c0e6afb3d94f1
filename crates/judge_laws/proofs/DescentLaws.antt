-- An expression without a non-zero shift over a variable that normalising finds linear: its value has, modulo 2 ^ w,
-- the same sum under two pairs of assignments of which at each place one has the bits of the other (SwapLaws). By the
-- descent of the normaliser, with the coefficient at which it arrives; the atoms' lowering is not looked at.
use mathlib.Core.Path.{◌≡◌, refl, ap, ap₂, sym, subst, ◌∙◌}
use Prim.Native.Nat.{ℕ, ◌+◌, ◌*◌, ◌^◌, ◌≤◌, ◌<◌}
use native.Mathlib.Nat.{zero-mul, mul_assoc, mul_comm}
use native.Mathlib.Omega.{arith}
use mathlib.Core.List.{List, []}
use mathlib.Core.Bool.{Bool, true, false, not, ◌&&◌, ◌||◌}
use lib.Dec.{eqb}
use borrow.Author.Tests.{eqb-true, eqb-false, not-true, not-false}
use Rattle.arith.specs.Congruence.{Eqm}
use Rattle.arith.specs.Width.{mod_mul, mod_neg}
use Rattle.arith.proofs.CongruenceLaws.{eqm_of_eq, eqm_sym, eqm_trans, eqm_add, eqm_mul_r}
use Rattle.arith.proofs.WidthLaws.{mod_mul_eqm, mod_mul_lt, mod_neg_lt}
use Rattle.record.specs.Tree.{Tree}
use Rattle.record.specs.Tree.Tree.{Constant, Variable, Unary, Binary}
use Rattle.base.proofs.BoolLaws.{false_true, or_false}
use Rattle.base.proofs.LoopLaws.{when_both}
use Rattle.expr_refusal.specs.Refusal.{is_expr}
use Rattle.expr_utils.specs.Utils.{has_var_dep, has_arith}
use Rattle.expr.specs.Value.{unary, binary, value}
use Rattle.expr.proofs.ValueLaws.{value_closed}
use Rattle.expr.proofs.IsExprLaws.{unary_of_expr, binary_of_expr}
use Rattle.truth.specs.Truth.{shifts_var}
use Rattle.truth.proofs.BitwiseLaws.{Bitwise}
use Rattle.semilinear.proofs.AtomLaws.{bitwise_one, sides, sides_atom}
use Rattle.semilinear.proofs.RowsLaws.{word_lt}
use Rattle.normalizer_laws.specs.Collect.{Collected, nonlinear, linear, join_collected, collect_terms}
use Rattle.normalizer_laws.proofs.RootLaws.{four, value_neg, value_add, value_mul}
use Rattle.judge_laws.proofs.SwapLaws.{Swapped, bitwise_swapped}

-- the descent did not end as nonlinear
unfoldable pub is_linear : Collected → Bool
is_linear nonlinear = false
is_linear (linear c l) = true

linear_join : (w : ℕ) (f g : Collected) → is_linear (join_collected w f g) ≡ true
    → (is_linear f ≡ true) × (is_linear g ≡ true)
unfolding is_linear join_collected
linear_join w nonlinear g e = false_true e
linear_join w (linear c l) nonlinear e = false_true e
linear_join w (linear c l) (linear d m) e = (refl, refl)

module _ (w : ℕ) (hw : w ≤ 64) (a b x y : List ℕ) (swap : Swapped w a b x y) where
  -- the coefficient times the tree has the same sum under both pairs
  abbrev Keeps : ℕ → Tree → Type 0
  Keeps c t = Eqm (2 ^ w) (c * value w a t + c * value w b t) (c * value w x t + c * value w y t)

  -- where it is linear
  abbrev KeepsIf : ℕ → Tree → Collected → Type 0
  KeepsIf c t o = is_linear o ≡ true → Keeps c t

  keeps_zero : (c : ℕ) (t : Tree) → c ≡ 0 → Keeps c t
  keeps_zero c t e =
      let none : (n : ℕ) → c * n ≡ 0 = λ n. ap (λ (k : ℕ). k * n) e ∙ zero-mul n in
      eqm_of_eq
      (omega (arith, none (value w a t), none (value w b t), none (value w x t), none (value w y t)))

  keeps_same : (c : ℕ) (t : Tree) → ((u v : List ℕ) → value w u t ≡ value w v t) → Keeps c t
  keeps_same c t e = eqm_of_eq (ap₂ (λ (m n : ℕ). c * m + c * n) (e a x) (e b y))

  keeps_bitwise : (c : ℕ) (t : Tree) → Bitwise t → Keeps c t
  keeps_bitwise c t h = eqm_of_eq (omega (arith, ap (λ (n : ℕ). c * n) (bitwise_swapped w t h a b x y swap)))

  -- one tree for another, and one coefficient for another
  keeps_for : (c d : ℕ) (t u : Tree) → ((vars : List ℕ) → Eqm (2 ^ w) (d * value w vars u) (c * value w vars t))
      → Keeps d u → Keeps c t
  keeps_for c d t u e h =
      eqm_trans (eqm_sym (eqm_add (e a) (e b))) (eqm_trans h (eqm_add (e x) (e y)))

  same_closed : (t : Tree) → has_var_dep t ≡ false → (u v : List ℕ) → value w u t ≡ value w v t
  same_closed t e u v = value_closed w u t e ∙ sym (value_closed w v t e)

  keeps_add : (c : ℕ) (l r : Tree) → Keeps c l → Keeps c r → Keeps c (Binary 2 l r)
  keeps_add c l r f g =
      eqm_trans (eqm_sym (eqm_add (value_add w a l r c) (value_add w b l r c)))
      (eqm_trans (eqm_of_eq (omega arith))
      (eqm_trans (eqm_add f g)
      (eqm_trans (eqm_of_eq (omega arith))
      (eqm_add (value_add w x l r c) (value_add w y l r c)))))

  -- a product whose side m has no variable
  factor : (c : ℕ) (m t : Tree) → has_var_dep m ≡ false → (vars : List ℕ)
      → Eqm (2 ^ w) (mod_mul c (value w [] m) w * value w vars t) (c * (value w vars m * value w vars t))
  factor c m t h vars =
      eqm_trans (eqm_mul_r (value w vars t) (mod_mul_eqm c (value w [] m) w hw))
      (eqm_of_eq
      (mul_assoc c (value w [] m) (value w vars t)
      ∙ ap (λ (n : ℕ). c * (n * value w vars t)) (sym (value_closed w vars m h))))

  keeps_mul_l : (c : ℕ) (l r : Tree) → has_var_dep l ≡ false → Keeps (mod_mul c (value w [] l) w) r
      → Keeps c (Binary 3 l r)
  keeps_mul_l c l r h =
      keeps_for c (mod_mul c (value w [] l) w) (Binary 3 l r) r
      (λ vars. eqm_trans (factor c l r h vars) (value_mul w vars l r c))

  keeps_mul_r : (c : ℕ) (l r : Tree) → has_var_dep r ≡ false → Keeps (mod_mul c (value w [] r) w) l
      → Keeps c (Binary 3 l r)
  keeps_mul_r c l r h =
      keeps_for c (mod_mul c (value w [] r) w) (Binary 3 l r) l
      (λ vars. eqm_trans (factor c r l h vars)
      (eqm_trans (eqm_of_eq (ap (λ (n : ℕ). c * n) (mul_comm (value w vars r) (value w vars l))))
      (value_mul w vars l r c)))

  -- ---- the descent

  Descends : Tree → Type 0
  Descends t = (c : ℕ) → c < 2 ^ 64 → KeepsIf c t (collect_terms w c t)

  descends_one : (k n : ℕ) (t : Tree) → is_expr (Unary k n t) ≡ true → shifts_var (Unary k n t) ≡ false → Descends t
      → Descends (Unary k n t)
  unfolding Descends collect_terms value is_linear
  descends_one k n t e s below c hc =
      when_both P (eqb c 0) _ _ (λ z _. keeps_zero c u (eqb-true c 0 z))
      (λ z. when_both P (not (has_var_dep t)) _ _
      (λ h _. keeps_same c u (λ f g. ap (unary w k n) (same_closed t (not-true _ h) f g)))
      (λ h. when_both P (eqb k 8) _ _
      (λ m i. subst (λ (j : ℕ). Keeps c (Unary j n t)) (sym (eqb-true k 8 m))
      (keeps_for c (mod_neg c w) (Unary 8 n t) t (λ vars. value_neg w vars n t c hw hc)
      (below (mod_neg c w) (word_lt w _ hw (mod_neg_lt c w hw)) i)))
      (λ m. when_both P (has_arith t) _ _ (λ p i. false_true i)
      (λ p _. keeps_bitwise c u
      (record {
        expr = e;
        no_arith = (bitwise_one k n t e (eqb-false k 8 m) (not-false _ h) p).plain;
        no_shift = s;
      })))))
    where
      u : Tree
      u = Unary k n t

      P : Collected → Type 0
      P = KeepsIf c u

  descends_two : (k : ℕ) (l r : Tree) → is_expr (Binary k l r) ≡ true → shifts_var (Binary k l r) ≡ false
      → Descends l → Descends r → Descends (Binary k l r)
  unfolding Descends collect_terms value is_linear
  descends_two k l r e s below-l below-r c hc =
      let q = binary_of_expr k l r e in
      when_both P (eqb c 0) _ _ (λ z _. keeps_zero c u (eqb-true c 0 z))
      (λ z. when_both P (not (has_var_dep l || has_var_dep r)) _ _
      (λ h _.
      let o = or_false (has_var_dep l) (has_var_dep r) (not-true _ h) in
      keeps_same c u (λ f g. ap₂ (binary w k) (same_closed l o.0 f g) (same_closed r o.1 f g)))
      (λ h. when_both P (eqb k 2) _ _
      (λ m i.
      let j = linear_join w (collect_terms w c l) (collect_terms w c r) i in
      of_kind (eqb-true k 2 m) (keeps_add c l r (below-l c hc j.0) (below-r c hc j.1)))
      (λ m. when_both P (eqb k 3) _ _
      (λ o. when_both P (not (has_var_dep l)) _ _
      (λ f i. of_kind (eqb-true k 3 o) (keeps_mul_l c l r (not-true _ f) (below-r _ (small l) i)))
      (λ f. when_both P (not (has_var_dep r)) _ _
      (λ g i. of_kind (eqb-true k 3 o) (keeps_mul_r c l r (not-true _ g) (below-l _ (small r) i)))
      (λ g i. false_true i)))
      (λ o. when_both P (has_arith l || has_arith r) _ _ (λ p i. false_true i)
      (λ p _. keeps_bitwise c u
      (record {
        expr = e;
        no_arith =
            (sides_atom k l r (four k q.low (eqb-false k 2 m) (eqb-false k 3 o)) q.high
            (sides l r q.child_l q.child_r (not-false _ h) p)).plain;
        no_shift = s;
      }))))))
    where
      u : Tree
      u = Binary k l r

      P : Collected → Type 0
      P = KeepsIf c u

      of_kind : {j : ℕ} → k ≡ j → Keeps c (Binary j l r) → Keeps c u
      of_kind f h = subst (λ (j : ℕ). Keeps c (Binary j l r)) (sym f) h

      small : (m : Tree) → mod_mul c (value w [] m) w < 2 ^ 64
      small m = word_lt w _ hw (mod_mul_lt c (value w [] m) w hw)

  pub descent : (t : Tree) → is_expr t ≡ true → shifts_var t ≡ false → (c : ℕ) → c < 2 ^ 64
      → is_linear (collect_terms w c t) ≡ true
      → Eqm (2 ^ w) (c * value w a t + c * value w b t) (c * value w x t + c * value w y t)
  unfolding Descends value shifts_var has_arith
  descent (Constant v) e s c hc i = keeps_same c (Constant v) (λ f g. refl)
  descent (Variable j) e s c hc i =
      keeps_bitwise c (Variable j) (record { expr = e; no_arith = refl; no_shift = refl })
  descent (Unary k n t) e s c hc i =
      let o = or_false (eqb k 9 && (not (eqb n 0) && has_var_dep t)) (shifts_var t) s in
      descends_one k n t e s (descent t (unary_of_expr k n t e).child o.1) c hc i
  descent (Binary k l r) e s c hc i =
      let q = binary_of_expr k l r e in
      let o = or_false (shifts_var l) (shifts_var r) s in
      descends_two k l r e s (descent l q.child_l o.0) (descent r q.child_r o.1) c hc i
