-- Laws of `bit_of` (specs/Truth.antt): it is the bit of the value at a place, for bitwise trees whose non-zero shifts
-- stand over no variable; it depends on the bits of the variables that occur, and on width and place only through the
-- literals.
use mathlib.Core.Path.{◌≡◌, refl, ap, ap₂, sym, ◌∙◌}
use Prim.Native.Nat.{ℕ, ◌+◌, ◌-◌, ◌^◌, ◌≤◌, ◌<◌, min, max}
use native.Mathlib.Omega.{arith}
use native.Mathlib.Decide.{ℕ_discrete, dec_lt}
use mathlib.Core.Logic.{◌⊎◌, inl, inr}
use mathlib.Core.List.{List}
use mathlib.Core.Bool.{Bool, true, false, ◌||◌}
use lib.ListN.{get_or}
use lib.Dec.{eqb, ltb}
use lib.Bits.{differ}
use borrow.Author.Tests.{eq-eqb, ne_eqb, lt-ltb, le-ltb}
use Rattle.arith.specs.Bit.{bit_at}
use Rattle.arith.proofs.BitLaws.{bit_lt, bit_past, bit_shr, bit_and_lem, bit_or_lem, bit_xor_lem, bit_not, bit_mod, differ_lt}
use Rattle.base.specs.Choice.{when}
use Rattle.record.specs.Tree.{Tree}
use Rattle.record.specs.Tree.Tree.{Constant, Variable, Unary, Binary}
use Rattle.base.proofs.BoolLaws.{false_true, or_of_l, or_of_r, or_false}
use Rattle.expr_utils.specs.Utils.{has_kind, has_var_dep, has_literal}
use Rattle.expr.specs.Value.{unary, binary, value}
use Rattle.expr.specs.Vars.{occurs}
use Rattle.expr.proofs.ValueLaws.{value_lt}
use Rattle.expr.proofs.SupportLaws.{has_var_of_occurs}
use Rattle.truth.specs.Truth.{bit_binary, bit_of}
use Rattle.truth.proofs.BitwiseLaws.{Bitwise, unary_bits, binary_bits}

-- ---- the bit at a root with one child

module _ (w p : ℕ) (b : ℕ → ℕ) (k a : ℕ) (t : Tree) where
  pub bit_of_not : k ≡ 7 → bit_of w p b (Unary k a t) ≡ 1 - bit_of w p b t
  unfolding bit_of
  bit_of_not e = simp (eq-eqb k 7 e)

  -- a shift reads place p + a, and 0 from w on
  pub bit_of_shift : (k ≡ 7 → ⊥) → p + a < w → bit_of w p b (Unary k a t) ≡ bit_of w (p + a) b t
  unfolding bit_of
  bit_of_shift d h = simp (ne_eqb k 7 d, lt-ltb (p + a) w h)

  pub bit_of_past : (k ≡ 7 → ⊥) → w ≤ p + a → bit_of w p b (Unary k a t) ≡ 0
  unfolding bit_of
  bit_of_past d h = simp (ne_eqb k 7 d, le-ltb (p + a) w h)

-- ---- what a bit depends on

-- on the bits of the variables that occur
pub bit_of_agree : (w p : ℕ) (b c : ℕ → ℕ) (t : Tree) → ((i : ℕ) → occurs i t ≡ true → b i ≡ c i)
    → bit_of w p b t ≡ bit_of w p c t
unfolding bit_of occurs
bit_of_agree w p b c (Constant v) e = refl
bit_of_agree w p b c (Variable i) e = e i (eq-eqb i i refl)
bit_of_agree w p b c (Unary k a t) e =
    ap₂ (λ (x y : ℕ). when (eqb k 7) (λ _. 1 - x) (λ _. when (ltb (p + a) w) (λ _. y) (λ _. 0)))
    (bit_of_agree w p b c t e) (bit_of_agree w (p + a) b c t e)
bit_of_agree w p b c (Binary k l r) e =
    ap₂ (bit_binary k) (bit_of_agree w p b c l (λ i h. e i (or_of_l (occurs i l) (occurs i r) h)))
    (bit_of_agree w p b c r (λ i h. e i (or_of_r (occurs i l) (occurs i r) h)))

-- a tree without literals has a variable
var_of_no_literal : (t : Tree) → has_literal t ≡ false → has_var_dep t ≡ true
unfolding has_kind
var_of_no_literal (Constant v) e = false_true (sym e)
var_of_no_literal (Variable i) e = refl
var_of_no_literal (Unary k a t) e =
    or_of_r (eqb k 1) (has_var_dep t) (var_of_no_literal t (or_false (eqb k 0) (has_literal t) e).1)
var_of_no_literal (Binary k l r) e =
    let n = or_false (has_literal l) (has_literal r) (or_false (eqb k 0) (has_literal l || has_literal r) e).1 in
    or_of_r (eqb k 1) (has_var_dep l || has_var_dep r) (or_of_l (has_var_dep l) (has_var_dep r) (var_of_no_literal l n.0))

-- on width and place only through the literals
pub bit_of_place : (w v p q : ℕ) → p < w → q < v → (b : ℕ → ℕ) (t : Tree) → Bitwise t → has_literal t ≡ false
    → bit_of w p b t ≡ bit_of v q b t
unfolding bit_of has_kind
bit_of_place w v p q hp hq b (Constant c) bits e = false_true (sym e)
bit_of_place w v p q hp hq b (Variable i) bits e = refl
bit_of_place w v p q hp hq b (Unary k a t) bits e =
    let u = unary_bits k a t bits in
    let n = (or_false (eqb k 0) (has_literal t) e).1 in
    go n u.kinds (bit_of_place w v p q hp hq b t u.child n)
    (λ hp hq. bit_of_place w v (p + a) (q + a) hp hq b t u.child n)
  where
    zero_of : has_literal t ≡ false → (a ≡ 0) ⊎ (has_var_dep t ≡ false) → a ≡ 0
    zero_of n (inl z) = z
    zero_of n (inr z) = false_true (sym z ∙ var_of_no_literal t n)

    go : has_literal t ≡ false → (k ≡ 7) ⊎ ((k ≡ 9) × ((a ≡ 0) ⊎ (has_var_dep t ≡ false)))
        → bit_of w p b t ≡ bit_of v q b t
        → (p + a < w → q + a < v → bit_of w (p + a) b t ≡ bit_of v (q + a) b t)
        → bit_of w p b (Unary k a t) ≡ bit_of v q b (Unary k a t)
    go n (inl k7) here there =
        bit_of_not w p b k a t k7 ∙ ap (λ (x : ℕ). 1 - x) here ∙ sym (bit_of_not v q b k a t k7)
    go n (inr (k9, o)) here there =
        let z = zero_of n o in
        let hw : p + a < w = omega arith in
        let hv : q + a < v = omega arith in
        bit_of_shift w p b k a t (λ k7. omega arith) hw
        ∙ there hw hv
        ∙ sym (bit_of_shift v q b k a t (λ k7. omega arith) hv)
bit_of_place w v p q hp hq b (Binary k l r) bits e =
    let u = binary_bits k l r bits in
    let n = or_false (has_literal l) (has_literal r) (or_false (eqb k 0) (has_literal l || has_literal r) e).1 in
    ap₂ (bit_binary k) (bit_of_place w v p q hp hq b l u.child_l n.0)
    (bit_of_place w v p q hp hq b r u.child_r n.1)

bit_binary_lt : (k x y : ℕ) → x < 2 → y < 2 → bit_binary k x y < 2
unfolding bit_binary
bit_binary_lt k x y hx hy = go (eqb k 4) (eqb k 5)
  where
    go : (a o : Bool) → when a (λ _. min x y) (λ _. when o (λ _. max x y) (λ _. differ x y)) < 2
    go true o = omega arith
    go false true = omega arith
    go false false = differ_lt x y hx hy

pub bit_of_lt : (w p : ℕ) (b : ℕ → ℕ) (t : Tree) → ((i : ℕ) → b i < 2) → bit_of w p b t < 2
unfolding bit_of
bit_of_lt w p b (Constant v) h = bit_lt v p
bit_of_lt w p b (Variable i) h = h i
bit_of_lt w p b (Unary k a t) h = go (eqb k 7) (ltb (p + a) w) (bit_of_lt w (p + a) b t h)
  where
    go : (n s : Bool) → bit_of w (p + a) b t < 2
        → when n (λ _. 1 - bit_of w p b t) (λ _. when s (λ _. bit_of w (p + a) b t) (λ _. 0)) < 2
    go true s l = omega arith
    go false true l = l
    go false false l = omega arith
bit_of_lt w p b (Binary k l r) h =
    bit_binary_lt k (bit_of w p b l) (bit_of w p b r) (bit_of_lt w p b l h) (bit_of_lt w p b r h)

-- ---- the bit of a value

bit_binary_lem : (w p k x y : ℕ) → 4 ≤ k → k < 7 → bit_at (binary w k x y) p ≡ bit_binary k (bit_at x p) (bit_at y p)
unfolding binary bit_binary
bit_binary_lem w p k x y low high = go (ℕ_discrete k 4) (ℕ_discrete k 5)
  where
    go : Dec (k ≡ 4) → Dec (k ≡ 5) → bit_at (binary w k x y) p ≡ bit_binary k (bit_at x p) (bit_at y p)
    go (yes e) d = rw e (bit_and_lem x y p)
    go (no n) (yes e) = rw e (bit_or_lem x y p)
    go (no n) (no m) = let e : k ≡ 6 = omega arith in rw e (bit_xor_lem x y p)

-- of a Not, and of a shift
bit_inverted : (w p k a x : ℕ) → p < w → x < 2 ^ w → k ≡ 7 → bit_at (unary w k a x) p ≡ 1 - bit_at x p
unfolding unary
bit_inverted w p k a x hp hx e = rw e (bit_not w x p hx hp)

bit_shifted : (w p k a x : ℕ) → k ≡ 9 → bit_at (unary w k a x) p ≡ bit_at x (p + a)
unfolding unary
bit_shifted w p k a x e = rw e (bit_shr x a p ∙ ap (bit_at x) (omega arith))

-- the bit at place p of a bitwise tree's value is its `bit_of`, of the bits of the variables at p
pub bit_value : (w p : ℕ) → p < w → (vars : List ℕ) (t : Tree) → Bitwise t
    → bit_at (value w vars t) p ≡ bit_of w p (λ i. bit_at (get_or vars i 0) p) t
unfolding value bit_of
bit_value w p hp vars (Constant v) b = bit_mod v w p hp
bit_value w p hp vars (Variable i) b = bit_mod (get_or vars i 0) w p hp
bit_value w p hp vars (Unary k a t) b =
    let u = unary_bits k a t b in
    go u.kinds (bit_value w p hp vars t u.child) (λ h. bit_value w (p + a) h vars t u.child)
  where
    x : ℕ
    x = value w vars t

    at : ℕ → ℕ → ℕ
    at q i = bit_at (get_or vars i 0) q

    same : (a ≡ 0) ⊎ (has_var_dep t ≡ false) → (i : ℕ) → occurs i t ≡ true → at (p + a) i ≡ at p i
    same (inl z) i o = ap (bit_at (get_or vars i 0)) (omega arith)
    same (inr z) i o = false_true (sym z ∙ has_var_of_occurs i t o)

    shifted : k ≡ 9 → (a ≡ 0) ⊎ (has_var_dep t ≡ false) → (p + a < w → bit_at x (p + a) ≡ bit_of w (p + a) (at (p + a)) t)
        → Dec (p + a < w) → bit_at x (p + a) ≡ bit_of w p (at p) (Unary k a t)
    shifted k9 o there (yes h) =
        there h
        ∙ bit_of_agree w (p + a) (at (p + a)) (at p) t (same o)
        ∙ sym (bit_of_shift w p (at p) k a t (λ k7. omega arith) h)
    shifted k9 o there (no h) =
        bit_past x w (p + a) (value_lt w vars t) (omega arith)
        ∙ sym (bit_of_past w p (at p) k a t (λ k7. omega arith) (omega arith))

    go : (k ≡ 7) ⊎ ((k ≡ 9) × ((a ≡ 0) ⊎ (has_var_dep t ≡ false))) → bit_at x p ≡ bit_of w p (at p) t
        → (p + a < w → bit_at x (p + a) ≡ bit_of w (p + a) (at (p + a)) t)
        → bit_at (unary w k a x) p ≡ bit_of w p (at p) (Unary k a t)
    go (inl k7) here there =
        bit_inverted w p k a x hp (value_lt w vars t) k7
        ∙ ap (λ (y : ℕ). 1 - y) here
        ∙ sym (bit_of_not w p (at p) k a t k7)
    go (inr (k9, o)) here there = bit_shifted w p k a x k9 ∙ shifted k9 o there (dec_lt (p + a) w)
bit_value w p hp vars (Binary k l r) b =
    let u = binary_bits k l r b in
    bit_binary_lem w p k (value w vars l) (value w vars r) u.low u.high
    ∙ ap₂ (bit_binary k) (bit_value w p hp vars l u.child_l) (bit_value w p hp vars r u.child_r)
