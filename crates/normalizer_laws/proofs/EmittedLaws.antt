-- What the descent collects of an expression: a constant of w bits, and atoms with a variable and without Add, Mul and
-- Neg, each with a coefficient of w bits.
use mathlib.Core.Path.{◌≡◌, refl}
use Prim.Native.Nat.{ℕ, ◌^◌, ◌≤◌, ◌<◌}
use native.Mathlib.Omega.{arith}
use mathlib.Core.List.{List, [], ◌∷◌, ◌++◌}
use mathlib.Core.Bool.{Bool, true, false, not, ◌&&◌, ◌||◌}
use lib.Dec.{eqb}
use lib.Pow.{pow_pos}
use borrow.Author.Tests.{eqb-false, not-true, not-false}
use Rattle.arith.specs.Width.{mod_mul, mod_neg}
use Rattle.arith.proofs.WidthLaws.{mod_add_lt, mod_mul_lt, mod_neg_lt}
use Rattle.base.specs.Choice.{when}
use Rattle.record.specs.Tree.{Tree}
use Rattle.record.specs.Tree.Tree.{Constant, Variable, Unary, Binary}
use Rattle.base.proofs.BoolLaws.{and_true}
use Rattle.expr_refusal.specs.Refusal.{is_expr}
use Rattle.expr_utils.specs.Utils.{has_kind, has_var_dep, has_arith}
use Rattle.expr.specs.Value.{value}
use Rattle.expr.proofs.ValueLaws.{value_lt}
use Rattle.expr.proofs.IsExprLaws.{unary_of_expr, binary_of_expr}
use Rattle.semilinear.proofs.AtomLaws.{Atom, bitwise_one, Sides, sides, sides_atom, left_atom, right_atom}
use Rattle.semilinear.proofs.AtomLaws.{literal_sides, masked_atom}
use Rattle.base.proofs.LoopLaws.{when_both}
use Rattle.semilinear.proofs.RowsLaws.{word_lt}
use Rattle.normalizer_laws.specs.Collect.{Emitted, Collected, nonlinear, linear, join_collected, collect_atom}
use Rattle.normalizer_laws.specs.Collect.{collect_constant, is_not, operand, collect_not, is_masked_not}
use Rattle.normalizer_laws.specs.Collect.{collect_and, and_coeff, collect_masked, collect_terms}
use Rattle.normalizer_laws.proofs.RootLaws.{four, operand_atom}

module _ (w : ℕ) (hw : w ≤ 64) where
  pub record GoodEmitted (e : Emitted) : Type 0 where
    pub atom : Atom e.tree
    pub fits : e.coeff < 2 ^ w

  unfoldable pub AllGood : List Emitted → Type 0
  AllGood [] = Unit {0}
  AllGood (e ∷ l) = GoodEmitted e × AllGood l

  unfoldable pub GoodCollected : Collected → Type 0
  GoodCollected nonlinear = Unit {0}
  GoodCollected (linear d l) = (d < 2 ^ w) × AllGood l

  all_append : (l m : List Emitted) → AllGood l → AllGood m → AllGood (l ++ m)
  unfolding AllGood
  all_append [] m h k = k
  all_append (e ∷ l) m h k = (h.0, all_append l m h.1 k)

  good_nonlinear : GoodCollected nonlinear
  unfolding GoodCollected
  good_nonlinear = tt

  good_none : GoodCollected (linear 0 [])
  unfolding GoodCollected AllGood
  good_none = (pow_pos w, tt)

  good_join : (x y : Collected) → GoodCollected x → GoodCollected y → GoodCollected (join_collected w x y)
  unfolding GoodCollected join_collected
  good_join nonlinear y h k = tt
  good_join (linear c l) nonlinear h k = tt
  good_join (linear c l) (linear d m) h k = (mod_add_lt c d w hw, all_append l m h.1 k.1)

  good_atom : (c : ℕ) (t : Tree) → c < 2 ^ w → Atom t → GoodCollected (collect_atom c t)
  unfolding GoodCollected AllGood collect_atom
  good_atom c t hc h = (pow_pos w, (record { atom = h; fits = hc }, tt))

  good_constant : (c : ℕ) (t : Tree) → GoodCollected (collect_constant w c t)
  unfolding GoodCollected AllGood collect_constant
  good_constant c t = (mod_mul_lt c (value w [] t) w hw, tt)

  good_not : (c : ℕ) (x : Tree) (k : ℕ) → k < 2 ^ w → Atom x → GoodCollected (collect_not w c x k)
  unfolding GoodCollected AllGood collect_not
  good_not c x k hk h =
      (mod_mul_lt c k w hw, (record { atom = masked_atom x k (word_lt w k hw hk) h; fits = mod_neg_lt c w hw }, tt))

  -- ---- the cases of the descent

  good_masked_not : (c : ℕ) (x y : Tree) → is_masked_not x y ≡ true → is_expr x ≡ true → has_arith x ≡ false
      → GoodCollected (collect_not w c (operand x) (value w [] y))
  unfolding is_masked_not
  good_masked_not c x y e hx p =
      let q = and_true (is_not x) (has_var_dep x && not (has_var_dep y)) e in
      let v = and_true (has_var_dep x) (not (has_var_dep y)) q.1 in
      good_not c (operand x) (value w [] y) (value_lt w [] y) (operand_atom x q.0 hx v.0 p)

  good_and : (c : ℕ) (l r : Tree) → c < 2 ^ w → Sides l r → GoodCollected (collect_and w c l r)
  unfolding collect_and
  good_and c l r hc s =
      when_both GoodCollected (eqb c 0) _ _ (λ e. good_none)
      (λ e. when_both GoodCollected (is_masked_not l r) _ _
      (λ f. good_masked_not c l r f s.expr_l s.plain_l)
      (λ f. when_both GoodCollected (is_masked_not r l) _ _
      (λ g. good_masked_not c r l g s.expr_r s.plain_r)
      (λ g. good_atom c (Binary 4 l r) hc (sides_atom 4 l r (omega arith) (omega arith) s))))

  and_coeff_lt : (k c : ℕ) → and_coeff w k c < 2 ^ w
  unfolding and_coeff
  and_coeff_lt k c = go (eqb k 6)
    where
      go : (b : Bool) → when b (λ _. mod_neg (mod_mul c 2 w) w) (λ _. mod_neg c w) < 2 ^ w
      go true = mod_neg_lt (mod_mul c 2 w) w hw
      go false = mod_neg_lt c w hw

  good_masked : (k c : ℕ) (x : Collected) (t m : Tree) → GoodCollected x → Atom t
      → GoodCollected (collect_masked w k c x t m)
  unfolding collect_masked
  good_masked k c x t m h a =
      good_join _ _ (good_join _ _ h (good_constant c m))
      (good_and (and_coeff w k c) t (Constant (value w [] m)) (and_coeff_lt k c)
      (literal_sides t (value w [] m) (word_lt w _ hw (value_lt w [] m)) a))

  -- ---- the descent

  CollectsGood : Tree → Type 0
  CollectsGood t = (c : ℕ) → c < 2 ^ w → GoodCollected (collect_terms w c t)

  none_when : (c : ℕ) (y : Collected) → GoodCollected y → GoodCollected (when (eqb c 0) (λ _. linear 0 []) (λ _. y))
  none_when c y h = when_both GoodCollected (eqb c 0) (linear 0 []) y (λ e. good_none) (λ e. h)

  kept_one : (k a : ℕ) (t : Tree) → is_expr (Unary k a t) ≡ true → CollectsGood t → CollectsGood (Unary k a t)
  unfolding CollectsGood collect_terms
  kept_one k a t e below c hc =
      none_when c _
      (when_both GoodCollected (not (has_var_dep t)) _ _ (λ h. good_constant c (Unary k a t))
      (λ h. when_both GoodCollected (eqb k 8) _ _ (λ n. below (mod_neg c w) (mod_neg_lt c w hw))
      (λ n. when_both GoodCollected (has_arith t) _ _ (λ p. good_nonlinear)
      (λ p. good_atom c (Unary k a t) hc (bitwise_one k a t e (eqb-false k 8 n) (not-false _ h) p)))))

  -- And, Or and Xor without Add, Mul and Neg
  kept_bitwise : (k : ℕ) (l r : Tree) (c : ℕ) → c < 2 ^ w → 4 ≤ k → k < 7 → Sides l r → CollectsGood l → CollectsGood r
      → GoodCollected
      (when (eqb k 4) (λ _. collect_and w c l r)
      (λ _. when (not (has_var_dep l)) (λ _. collect_masked w k c (collect_terms w c r) r l)
      (λ _. when (not (has_var_dep r)) (λ _. collect_masked w k c (collect_terms w c l) l r)
      (λ _. collect_atom c (Binary k l r)))))
  unfolding CollectsGood
  kept_bitwise k l r c hc low high s below-l below-r =
      when_both GoodCollected (eqb k 4) _ _ (λ e. good_and c l r hc s)
      (λ e. when_both GoodCollected (not (has_var_dep l)) _ _
      (λ f. good_masked k c (collect_terms w c r) r l (below-r c hc) (right_atom l r s (not-true _ f)))
      (λ f. when_both GoodCollected (not (has_var_dep r)) _ _
      (λ g. good_masked k c (collect_terms w c l) l r (below-l c hc) (left_atom l r s (not-false _ f)))
      (λ g. good_atom c (Binary k l r) hc (sides_atom k l r low high s))))

  kept_two : (k : ℕ) (l r : Tree) → is_expr (Binary k l r) ≡ true → CollectsGood l → CollectsGood r
      → CollectsGood (Binary k l r)
  unfolding CollectsGood collect_terms
  kept_two k l r e below-l below-r c hc =
      let b = binary_of_expr k l r e in
      none_when c _
      (when_both GoodCollected (not (has_var_dep l || has_var_dep r)) _ _ (λ h. good_constant c (Binary k l r))
      (λ h. when_both GoodCollected (eqb k 2) _ _ (λ n. good_join _ _ (below-l c hc) (below-r c hc))
      (λ n. when_both GoodCollected (eqb k 3) _ _
      (λ m. when_both GoodCollected (not (has_var_dep l)) _ _
      (λ f. below-r (mod_mul c (value w [] l) w) (mod_mul_lt c (value w [] l) w hw))
      (λ f. when_both GoodCollected (not (has_var_dep r)) _ _
      (λ g. below-l (mod_mul c (value w [] r) w) (mod_mul_lt c (value w [] r) w hw)) (λ g. good_nonlinear)))
      (λ m. when_both GoodCollected (has_arith l || has_arith r) _ _ (λ p. good_nonlinear)
      (λ p. kept_bitwise k l r c hc (four k b.low (eqb-false k 2 n) (eqb-false k 3 m)) b.high
      (sides l r b.child_l b.child_r (not-false _ h) p) below-l below-r)))))

  -- what is collected of an expression is good
  pub collect_good : (t : Tree) → is_expr t ≡ true → (c : ℕ) → c < 2 ^ w → GoodCollected (collect_terms w c t)
  unfolding CollectsGood collect_terms has_kind has_arith
  collect_good (Constant u) e c hc = none_when c _ (good_constant c (Constant u))
  collect_good (Variable i) e c hc =
      none_when c _ (good_atom c (Variable i) hc (record { expr = e; variable = refl; plain = refl }))
  collect_good (Unary k a t) e c hc = kept_one k a t e (collect_good t (unary_of_expr k a t e).child) c hc
  collect_good (Binary k l r) e c hc =
      let b = binary_of_expr k l r e in
      kept_two k l r e (collect_good l b.child_l) (collect_good r b.child_r) c hc
