-- Laws of specs/Value.antt: a value has w bits, and depends on the variables that occur, at w bits.
use Rattle.std.proofs.Common.{◌≡◌, ℕ, ◌+◌, ◌-◌, ◌*◌, ◌/◌, ◌%◌, ◌^◌, ◌<◌, ◌≤◌, Bool, true, false, ◌||◌, eqb, List, [], ◌++◌, length, get_or, replicate, sym, refl, ap, ◌∙◌, ap₂, lt_of_le_of_lt, mod-lt, arith, get_or-append-add, pow_pos, eq-eqb}
use lib.Pow.{ones_sub-lt, shr_le}
use lib.ListN.{length-replicate, get_or-replicate, get_or-append}
use lib.Bits.{bit_and, bit_or, bit_xor, and_le_l, or_lt, xor_lt}
use Rattle.base.specs.Choice.{when}
use Rattle.record.specs.Tree.{Tree}
use Rattle.record.specs.Tree.Tree.{Constant, Variable, Unary, Binary}
use Rattle.base.proofs.BoolLaws.{false_true, or_of_l, or_of_r, or_false}
use Rattle.expr_utils.specs.Utils.{has_kind, has_var_dep}
use Rattle.expr.specs.Value.{unary, binary, value}
use Rattle.expr.specs.Vars.{occurs}

-- the assignment vars behind `from` zeros: a word among the zeros, and one behind them
pub zeros_below : (vars : List ℕ) (from i : ℕ) → i < from → get_or (replicate from 0 ++ vars) i 0 ≡ 0
zeros_below vars from i h =
    get_or-append (replicate from 0) vars 0 i (rw length-replicate h) ∙ get_or-replicate from i 0 0 h

pub zeros_from : (vars : List ℕ) (from i : ℕ) → from ≤ i → get_or (replicate from 0 ++ vars) i 0 ≡ get_or vars (i - from) 0
zeros_from vars from i h =
    let n : length {A = ℕ} (replicate from 0) ≡ from = length-replicate from 0 in
    let e : i ≡ length {A = ℕ} (replicate from 0) + (i - from) = omega arith in
    ap (λ (k : ℕ). get_or (replicate from 0 ++ vars) k 0) e ∙ get_or-append-add (replicate from 0) vars (i - from) 0

unary_lt : (w k a x : ℕ) → x < 2 ^ w → unary w k a x < 2 ^ w
unfolding unary
unary_lt w k a x h = go (eqb k 7) (eqb k 8) (eqb k 9)
  where
    go : (p q r : Bool)
        → when p (λ _. 2 ^ w - 1 - x)
        (λ _. when q (λ _. (2 ^ w - x) % 2 ^ w) (λ _. when r (λ _. x / 2 ^ a) (λ _. 0))) < 2 ^ w
    go true q r = ones_sub-lt w x
    go false true r = mod-lt (2 ^ w - x) (pow_pos w)
    go false false true = lt_of_le_of_lt (shr_le x a) h
    go false false false = pow_pos w

binary_lt : (w k x y : ℕ) → x < 2 ^ w → y < 2 ^ w → binary w k x y < 2 ^ w
unfolding binary
binary_lt w k x y h i = go (eqb k 2) (eqb k 3) (eqb k 4) (eqb k 5) (eqb k 6)
  where
    go : (a m b c d : Bool)
        → when a (λ _. (x + y) % 2 ^ w)
        (λ _. when m (λ _. x * y % 2 ^ w)
        (λ _. when b (λ _. bit_and x y)
        (λ _. when c (λ _. bit_or x y) (λ _. when d (λ _. bit_xor x y) (λ _. 0))))) < 2 ^ w
    go true m b c d = mod-lt (x + y) (pow_pos w)
    go false true b c d = mod-lt (x * y) (pow_pos w)
    go false false true c d = lt_of_le_of_lt (and_le_l x y) h
    go false false false true d = or_lt w x y h i
    go false false false false true = xor_lt w x y h i
    go false false false false false = pow_pos w

pub value_lt : (w : ℕ) (vars : List ℕ) (t : Tree) → value w vars t < 2 ^ w
unfolding value
value_lt w vars (Constant v) = mod-lt v (pow_pos w)
value_lt w vars (Variable i) = mod-lt (get_or vars i 0) (pow_pos w)
value_lt w vars (Unary k a t) = unary_lt w k a (value w vars t) (value_lt w vars t)
value_lt w vars (Binary k l r) =
    binary_lt w k (value w vars l) (value w vars r) (value_lt w vars l) (value_lt w vars r)

-- two assignments that agree, at w bits, on every variable that occurs give the same value
pub value_occurs : (w : ℕ) (a b : List ℕ) (t : Tree)
    → ((i : ℕ) → occurs i t ≡ true → get_or a i 0 % 2 ^ w ≡ get_or b i 0 % 2 ^ w) → value w a t ≡ value w b t
unfolding value occurs
value_occurs w a b (Constant v) h = refl
value_occurs w a b (Variable i) h = h i (eq-eqb i i refl)
value_occurs w a b (Unary k n t) h = ap (unary w k n) (value_occurs w a b t h)
value_occurs w a b (Binary k l r) h =
    ap₂ (binary w k) (value_occurs w a b l (λ i e. h i (or_of_l (occurs i l) (occurs i r) e)))
    (value_occurs w a b r (λ i e. h i (or_of_r (occurs i l) (occurs i r) e)))

-- a variable-free tree has one value
pub value_closed : (w : ℕ) (vars : List ℕ) (t : Tree) → has_var_dep t ≡ false → value w vars t ≡ value w [] t
unfolding value has_kind
value_closed w vars (Constant v) e = refl
value_closed w vars (Variable i) e = false_true (sym e)
value_closed w vars (Unary k a t) e =
    ap (unary w k a) (value_closed w vars t (or_false (eqb k 1) (has_var_dep t) e).1)
value_closed w vars (Binary k l r) e =
    let p = or_false (has_var_dep l) (has_var_dep r) (or_false (eqb k 1) (has_var_dep l || has_var_dep r) e).1 in
    ap₂ (binary w k) (value_closed w vars l p.0) (value_closed w vars r p.1)
