-- The equations of the descent (rules_laws/specs/Descend.antt), with the rule for Not or without it: under the
-- coefficient 0, at a tree without a variable, and at each kind of root with one.
use mathlib.Core.Path.{◌≡◌, sym, ◌∙◌}
use Prim.Native.Nat.{ℕ, ◌≤◌}
use native.Mathlib.Omega.{arith}
use mathlib.Core.List.{[]}
use mathlib.Core.Bool.{Bool, true, false, ◌&&◌, ◌||◌}
use lib.Dec.{eqb}
use borrow.Author.Tests.{eq-eqb, ne_eqb}
use Rattle.arith.specs.Width.{mod_mul, mod_neg}
use Rattle.record.specs.Tree.{Tree}
use Rattle.record.specs.Tree.Tree.{Variable, Unary, Binary, Constant}
use Rattle.base.proofs.BoolLaws.{false_true, or_false}
use Rattle.expr_utils.specs.Utils.{has_kind, has_var_dep, is_arith, has_arith}
use Rattle.expr.specs.Value.{value}
use Rattle.normalizer_laws.specs.Collect.{Collected, join_collected, collect_constant, collect_masked}
use Rattle.normalizer_laws.specs.Collect.{linear}
use Rattle.rules_laws.specs.Descend.{descend}
use Rattle.ways.specs.Sides.{collect_literal, collect_whole}
use Rattle.normalizer_laws.proofs.JoinLaws.{join_assoc}

-- ---- what a root has from its children

pub not_arith : (k : ℕ) → (k ≡ 2 → ⊥) → (k ≡ 3 → ⊥) → (k ≡ 8 → ⊥) → is_arith k ≡ false
unfolding is_arith
not_arith k a b c = simp (ne_eqb k 2 a, ne_eqb k 3 b, ne_eqb k 8 c)

pub variable_one : (k a : ℕ) (t : Tree) → 2 ≤ k → has_var_dep (Unary k a t) ≡ has_var_dep t
unfolding has_kind
variable_one k a t h = simp (ne_eqb k 1 (omega arith))

pub variable_two : (k : ℕ) (l r : Tree) → 2 ≤ k → has_var_dep (Binary k l r) ≡ has_var_dep l || has_var_dep r
unfolding has_kind
variable_two k l r h = simp (ne_eqb k 1 (omega arith))

pub arith_one : (k a : ℕ) (t : Tree) → is_arith k ≡ false → has_arith (Unary k a t) ≡ has_arith t
unfolding has_arith
arith_one k a t h = simp h

arith_two : (k : ℕ) (l r : Tree) → is_arith k ≡ false → has_arith (Binary k l r) ≡ has_arith l || has_arith r
unfolding has_arith
arith_two k l r h = simp h

arith_mul : (k : ℕ) (l r : Tree) → k ≡ 3 → has_arith (Binary k l r) ≡ true
unfolding has_arith is_arith
arith_mul k l r e = simp e

-- the side of a root with a variable whose other side has none
pub other_right : {a b : Bool} → a || b ≡ true → a ≡ false → b ≡ true
other_right {a} {b} h e = simp e at h

-- ---- the descent

pub terms_zero : (nots : Bool) (w c : ℕ) (t : Tree) → c ≡ 0 → descend nots w c t ≡ linear 0 []
unfolding descend
terms_zero nots w c (Constant v) e = simp (eq-eqb c 0 e)
terms_zero nots w c (Variable i) e = simp (eq-eqb c 0 e)
terms_zero nots w c (Unary k a t) e = simp (eq-eqb c 0 e)
terms_zero nots w c (Binary k l r) e = simp (eq-eqb c 0 e)

pub terms_constant : (nots : Bool) (w c : ℕ) (t : Tree) → eqb c 0 ≡ false → has_var_dep t ≡ false
    → descend nots w c t ≡ linear (mod_mul c (value w [] t) w) []
unfolding descend collect_constant has_kind
terms_constant nots w c (Constant v) e h = simp e
terms_constant nots w c (Variable i) e h = false_true (sym h)
terms_constant nots w c (Unary k a t) e h =
    let q : has_var_dep t ≡ false = (or_false (eqb k 1) (has_var_dep t) h).1 in
    simp (e, q)
terms_constant nots w c (Binary k l r) e h =
    let q : has_var_dep l || has_var_dep r ≡ false = (or_false (eqb k 1) (has_var_dep l || has_var_dep r) h).1 in
    simp (e, q)

pub terms_add : (nots : Bool) (w c : ℕ) (l r : Tree) → eqb c 0 ≡ false → has_var_dep (Binary 2 l r) ≡ true
    → descend nots w c (Binary 2 l r) ≡ join_collected w (descend nots w c l) (descend nots w c r)
unfolding descend
terms_add nots w c l r e h =
    let q : has_var_dep l || has_var_dep r ≡ true = sym (variable_two 2 l r (omega arith)) ∙ h in
    simp (e, q)

-- x | k and x ^ k as x and the rest
masked_literal : (w k c : ℕ) (x : Collected) (t m : Tree)
    → collect_masked w k c x t m ≡ join_collected w x (collect_literal w k c t (value w [] m))
unfolding collect_masked collect_literal collect_constant
masked_literal w k c x t m = join_assoc w x (collect_constant w c m) _

module _ (nots : Bool) (w c : ℕ) (hc : eqb c 0 ≡ false) where
  pub terms_variable : (i : ℕ) → descend nots w c (Variable i) ≡ collect_whole w c (Variable i)
  unfolding descend collect_whole
  terms_variable i = simp hc

  pub terms_neg : (k a : ℕ) (t : Tree) → has_var_dep t ≡ true → k ≡ 8
      → descend nots w c (Unary k a t) ≡ descend nots w (mod_neg c w) t
  unfolding descend
  terms_neg k a t h e = simp (hc, h, eq-eqb k 8 e)

  pub terms_one : (k a : ℕ) (t : Tree) → has_var_dep t ≡ true → 7 ≤ k → (k ≡ 8 → ⊥)
      → nots && (eqb k 7 && has_arith t) ≡ false → descend nots w c (Unary k a t) ≡ collect_whole w c (Unary k a t)
  unfolding descend collect_whole
  terms_one k a t h low n off =
      simp (hc, h, ne_eqb k 8 n, off, arith_one k a t (not_arith k (omega arith) (omega arith) n))

  -- a Not that is turned
  pub terms_not : (k a : ℕ) (t : Tree) → has_var_dep t ≡ true → (k ≡ 8 → ⊥) → nots && (eqb k 7 && has_arith t) ≡ true
      → descend nots w c (Unary k a t)
      ≡ join_collected w (linear (mod_neg c w) []) (descend nots w (mod_neg c w) t)
  unfolding descend
  terms_not k a t h n on = simp (hc, h, ne_eqb k 8 n, on)

  module _ (k : ℕ) (l r : Tree) (add : eqb k 2 ≡ false) where
    abbrev root : Tree
    root = Binary k l r

    pub mul_right : k ≡ 3 → has_var_dep l ≡ false → has_var_dep r ≡ true
        → descend nots w c root ≡ descend nots w (mod_mul c (value w [] l) w) r
    unfolding descend
    mul_right e hl hr = simp (hc, hl, hr, add, eq-eqb k 3 e)

    pub mul_left : k ≡ 3 → has_var_dep l ≡ true → has_var_dep r ≡ false
        → descend nots w c root ≡ descend nots w (mod_mul c (value w [] r) w) l
    unfolding descend
    mul_left e hl hr = simp (hc, hl, hr, add, eq-eqb k 3 e)

    pub mul_both : k ≡ 3 → has_var_dep l ≡ true → has_var_dep r ≡ true → descend nots w c root ≡ collect_whole w c root
    unfolding descend collect_whole
    mul_both e hl hr = simp (hc, hl, hr, add, eq-eqb k 3 e, arith_mul k l r e)

    pub and_whole : k ≡ 4 → has_var_dep l || has_var_dep r ≡ true → descend nots w c root ≡ collect_whole w c root
    unfolding descend collect_whole
    and_whole e hv =
        let plain : is_arith k ≡ false = not_arith k (omega arith) (omega arith) (omega arith) in
        simp (hc, hv, add, ne_eqb k 3 (omega arith), eq-eqb k 4 e, arith_two k l r plain)

    -- an Or or Xor
    module _ (plain : is_arith k ≡ false) (hm : eqb k 3 ≡ false) (ha : eqb k 4 ≡ false) where
      pub arith_whole : has_var_dep l || has_var_dep r ≡ true → has_arith root ≡ true
          → descend nots w c root ≡ collect_whole w c root
      unfolding descend collect_whole
      arith_whole hv h = simp (hc, hv, add, hm, h, sym (arith_two k l r plain) ∙ h)

      pub both_whole : has_var_dep l ≡ true → has_var_dep r ≡ true → has_arith root ≡ false
          → descend nots w c root ≡ collect_whole w c root
      unfolding descend collect_whole
      both_whole hl hr h = simp (hc, hl, hr, add, hm, ha, h, sym (arith_two k l r plain) ∙ h)

      pub masked_right : has_var_dep l ≡ false → has_var_dep r ≡ true → has_arith root ≡ false
          → descend nots w c root
          ≡ join_collected w (descend nots w c r) (collect_literal w k c r (value w [] l))
      unfolding descend
      masked_right hl hr h =
          simp (hc, hl, hr, add, hm, ha, sym (arith_two k l r plain) ∙ h)
          (masked_literal w k c (descend nots w c r) r l)

      pub masked_left : has_var_dep l ≡ true → has_var_dep r ≡ false → has_arith root ≡ false
          → descend nots w c root
          ≡ join_collected w (descend nots w c l) (collect_literal w k c l (value w [] r))
      unfolding descend
      masked_left hl hr h =
          simp (hc, hl, hr, add, hm, ha, sym (arith_two k l r plain) ∙ h)
          (masked_literal w k c (descend nots w c l) l r)
