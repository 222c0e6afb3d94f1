-- The value of a root from its children's, times a coefficient, modulo 2 ^ w: what each case of the descent rests on.
use mathlib.Core.Path.{◌≡◌, refl, ap, sym, ◌∙◌}
use Prim.Native.Nat.{ℕ, ◌+◌, ◌-◌, ◌*◌, ◌^◌, ◌≤◌, ◌<◌}
use native.Mathlib.Omega.{arith}
use native.Mathlib.Nat.{mod-eq_of_lt, zero-mul, add-mul}
use native.Mathlib.Decide.{ℕ_discrete}
use mathlib.Core.Logic.{◌⊎◌, inl, inr}
use mathlib.Core.List.{List, []}
use mathlib.Core.Bool.{Bool, true, false}
use lib.Dec.{eqb}
use borrow.Author.Tests.{ne_eqb}
use lib.Bits.{bit_and, bit_or, bit_xor, or_comm, xor_comm}
use Rattle.arith.specs.Congruence.{Eqm}
use Rattle.arith.specs.Width.{mod_mul, mod_neg}
use Rattle.arith.proofs.CongruenceLaws.{eqm_intro, eqm_of_eq, eqm_refl, eqm_sym, eqm_trans, eqm_mod, eqm_add, eqm_mul_r}
use Rattle.arith.proofs.CongruenceLaws.{eqm_mul_l, eqm_cancel}
use Rattle.arith.proofs.WidthLaws.{mod_mul_eqm, mod_mul_lt, mod_neg_eqm, mod_neg_lt}
use Rattle.arith.proofs.MaskLaws.{or_minus, xor_minus}
use Rattle.base.specs.Choice.{when}
use Rattle.record.specs.Tree.{Tree}
use Rattle.record.specs.Tree.Tree.{Constant, Variable, Unary, Binary}
use Rattle.base.proofs.BoolLaws.{false_true, or_false}
use Rattle.expr_refusal.specs.Refusal.{is_expr}
use Rattle.expr_utils.specs.Utils.{has_kind, has_var_dep, is_arith, has_arith}
use Rattle.expr.specs.Value.{unary, binary, value}
use Rattle.expr.proofs.IsExprLaws.{unary_of_expr}
use Rattle.expr.proofs.ValueLaws.{value_lt, value_closed}
use Rattle.semilinear.proofs.AtomLaws.{Atom}
use Rattle.semilinear.proofs.RowsLaws.{word_lt}
use Rattle.normalizer_laws.specs.Collect.{is_not, operand, and_coeff}

-- ---- tests and kinds

pub five_six : (k : ℕ) → 4 ≤ k → k < 7 → (k ≡ 4 → ⊥) → (k ≡ 5) ⊎ (k ≡ 6)
five_six k low high n = go (ℕ_discrete k 5)
  where
    go : Dec (k ≡ 5) → (k ≡ 5) ⊎ (k ≡ 6)
    go (yes e) = inl e
    go (no e) = inr (omega arith)

pub four : (k : ℕ) → 2 ≤ k → (k ≡ 2 → ⊥) → (k ≡ 3 → ⊥) → 4 ≤ k
four k low n m = omega arith

-- ---- variable-free trees

-- the literal of its value
pub literal_value : (w : ℕ) (vars : List ℕ) (m : Tree) → has_var_dep m ≡ false
    → value w vars (Constant (value w [] m)) ≡ value w vars m
unfolding value
literal_value w vars m hm = mod-eq_of_lt (value_lt w [] m) ∙ sym (value_closed w vars m hm)

-- ---- the coefficient of a literal mask

-- an Or or Xor of kind k
abbrev pub or_xor : ℕ → ℕ → ℕ → ℕ
or_xor k x y = when (eqb k 6) (λ _. bit_xor x y) (λ _. bit_or x y)

pub or_xor_comm : (k x y : ℕ) → or_xor k x y ≡ or_xor k y x
or_xor_comm k x y = go (eqb k 6)
  where
    go : (b : Bool) → when b (λ _. bit_xor x y) (λ _. bit_or x y) ≡ when b (λ _. bit_xor y x) (λ _. bit_or y x)
    go true = xor_comm x y
    go false = or_comm x y

module _ (w : ℕ) (hw : w ≤ 64) where
  -- c·x + c·y and the coefficient of x & y make c times the Or or Xor of x and y
  pub and_coeff_lem : (k c : ℕ) (x y : ℕ) → c < 2 ^ 64
      → (and_coeff w k c < 2 ^ 64) × Eqm (2 ^ w) (c * x + c * y + and_coeff w k c * bit_and x y) (c * or_xor k x y)
  unfolding and_coeff
  and_coeff_lem k c x y hc = go (eqb k 6)
    where
      double : Eqm (2 ^ w) (mod_neg (mod_mul c 2 w) w + 2 * c) 0
      double =
          eqm_trans
          (eqm_add (eqm_refl (mod_neg (mod_mul c 2 w) w))
          (eqm_sym (eqm_trans (mod_mul_eqm c 2 w hw) (eqm_of_eq (omega arith)))))
          (mod_neg_eqm (mod_mul c 2 w) w hw (word_lt w _ hw (mod_mul_lt c 2 w hw)))

      go : (b : Bool)
          → (when b (λ _. mod_neg (mod_mul c 2 w) w) (λ _. mod_neg c w) < 2 ^ 64)
          × Eqm (2 ^ w) (c * x + c * y + when b (λ _. mod_neg (mod_mul c 2 w) w) (λ _. mod_neg c w) * bit_and x y)
          (c * when b (λ _. bit_xor x y) (λ _. bit_or x y))
      go true = (
        word_lt w _ hw (mod_neg_lt (mod_mul c 2 w) w hw),
        eqm_sym (xor_minus (2 ^ w) c x y (mod_neg (mod_mul c 2 w) w) double),
      )
      go false = (
        word_lt w _ hw (mod_neg_lt c w hw),
        eqm_sym (or_minus (2 ^ w) c x y (mod_neg c w) (mod_neg_eqm c w hw hc)),
      )

-- ---- roots

module _ (w : ℕ) (vars : List ℕ) where
  abbrev v : Tree → ℕ
  v = value w vars

  pub not_value : (x : Tree) → is_not x ≡ true → v x ≡ 2 ^ w - 1 - v (operand x)
  unfolding is_not operand value unary
  not_value (Constant u) e = false_true e
  not_value (Variable i) e = false_true e
  not_value (Unary k a t) e = simp e
  not_value (Binary k l r) e = false_true e

  pub value_neg : (a : ℕ) (t : Tree) (c : ℕ) → w ≤ 64 → c < 2 ^ 64
      → Eqm (2 ^ w) (mod_neg c w * v t) (c * v (Unary 8 a t))
  unfolding value unary
  value_neg a t c hw hc =
      eqm_cancel (c * v t)
      (eqm_trans (eqm_of_eq (sym (add-mul (mod_neg c w) c (v t))))
      (eqm_trans (eqm_mul_r (v t) (mod_neg_eqm c w hw hc))
      (eqm_trans (eqm_of_eq (zero-mul (v t)))
      (eqm_sym
      (eqm_trans (eqm_add (eqm_mul_l c (eqm_mod (2 ^ w) (2 ^ w - v t))) (eqm_refl (c * v t)))
      (eqm_intro 0 c (whole c (v t) (2 ^ w) (value_lt w vars t))))))))
    where
      whole : (c x m : ℕ) → x < m → c * (m - x) + c * x + 0 * m ≡ 0 + c * m
      whole c x m h = let e : m - x + x ≡ m = omega arith in omega (arith, ap (λ (y : ℕ). c * y) e)

  pub value_add : (l r : Tree) (c : ℕ) → Eqm (2 ^ w) (c * v l + c * v r) (c * v (Binary 2 l r))
  unfolding value binary
  value_add l r c =
      eqm_trans (eqm_of_eq (omega arith)) (eqm_mul_l c (eqm_sym (eqm_mod (2 ^ w) (v l + v r))))

  pub value_mul : (l r : Tree) (c : ℕ) → Eqm (2 ^ w) (c * (v l * v r)) (c * v (Binary 3 l r))
  unfolding value binary
  value_mul l r c = eqm_mul_l c (eqm_sym (eqm_mod (2 ^ w) (v l * v r)))

  pub value_or_xor : (k : ℕ) (l r : Tree) → (k ≡ 5) ⊎ (k ≡ 6) → v (Binary k l r) ≡ or_xor k (v l) (v r)
  unfolding value binary
  value_or_xor k l r (inl e) = rw e
  value_or_xor k l r (inr e) = rw e

  pub value_and : (k : ℕ) (l r : Tree) → k ≡ 4 → bit_and (v l) (v r) ≡ v (Binary k l r)
  unfolding value binary
  value_and k l r e = rw e

-- the operand of a Not that is an atom
pub operand_atom : (x : Tree) → is_not x ≡ true → is_expr x ≡ true → has_var_dep x ≡ true → has_arith x ≡ false
    → Atom (operand x)
unfolding is_not operand has_kind has_arith
operand_atom (Constant v) n e h p = false_true n
operand_atom (Variable i) n e h p = false_true n
operand_atom (Unary k a t) n e h p =
    let u = unary_of_expr k a t e in
    record {
      expr = u.child;
      variable = simp (ne_eqb k 1 (omega (arith, u.low))) at h;
      plain = (or_false (is_arith k) (has_arith t) p).1;
    }
operand_atom (Binary k l r) n e h p = false_true n
