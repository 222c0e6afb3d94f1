-- Expressions by rules 1 beside rules 2 (request #109): its own examples, and cases that are easy to get wrong. Kinds:
-- Add 2, Mul 3, And 4, Or 5, Xor 6, Not 7, Neg 8, Shr 9.
use Rattle.std.specs.Prelude.{ℕ, ◌-◌, ◌^◌, List, [], ◌∷◌, Bool, true, false, ◌&&◌, eqb}
use Rattle.base.specs.Lists.{eq_list}
use Rattle.base.specs.Outcome.{Outcome, accepted, refused}
use Rattle.record.specs.Tree.{Tree}
use Rattle.record.specs.Tree.Tree.{Constant, Variable, Unary, Binary}
use Rattle.semilinear.specs.Form.{Row, new_row}
use Rattle.semilinear.specs.Outcome.{form_outcome}
use Rattle.normalizer_laws.specs.Normalize.{normalize_tree}
use Rattle.rules_laws.specs.Rules.{ruled_tree}

-- what normalising gives: a constant and the rows of the table, or a refusal
pub data Answer : Type 0 where
  gives : ℕ → List Row → Answer
  refuses : ℕ → Answer

-- a tree at a width, with its answers by rules 1 and by rules 2
pub data Example : Type 0 where
  becomes : ℕ → Tree → Answer → Answer → Example

unfoldable pub is_answer : ℕ → Outcome → Answer → Bool
is_answer w (refused n) (gives c l) = false
is_answer w (refused n) (refuses k) = eqb n k
is_answer w (accepted b ns) (refuses k) = false
is_answer w (accepted b ns) (gives c l) = same (form_outcome (record { bitwidth = w; constant = c; rows = l }) false)
  where
    same : Outcome → Bool
    same (accepted m ks) = eq_list b m && eq_list ns ks
    same (refused k) = false

unfoldable pub holds : Example → Bool
holds (becomes w t one two) =
    is_answer w (normalize_tree w (ruled_tree false w t)) one && is_answer w (normalize_tree w (ruled_tree true w t)) two

unfoldable pub all_hold : List Example → Bool
all_hold [] = true
all_hold (x ∷ l) = holds x && all_hold l

-- ---- how the examples are written

abbrev pub a : Tree
a = Variable 0

abbrev pub b : Tree
b = Variable 1

abbrev pub n : ℕ → Tree
n = Constant

abbrev pub add : Tree → Tree → Tree
add = Binary 2

abbrev pub mul : Tree → Tree → Tree
mul = Binary 3

abbrev pub conj : Tree → Tree → Tree
conj = Binary 4

abbrev pub disj : Tree → Tree → Tree
disj = Binary 5

abbrev pub xor : Tree → Tree → Tree
xor = Binary 6

abbrev pub compl : Tree → Tree
compl = Unary 7 0

abbrev pub neg : Tree → Tree
neg = Unary 8 0

abbrev pub shr : ℕ → Tree → Tree
shr = Unary 9

-- 1 + 2
abbrev pub three : Tree
three = add (n 1) (n 2)

-- c·(a & m)
abbrev pub low : ℕ → ℕ → Row
low m c = new_row (conj a (n m)) c

-- the same by either rules
abbrev pub stays : Tree → Answer → Example
stays t x = becomes 8 t x x

-- refused by rules 1 with 8
abbrev pub opens : Tree → ℕ → List Row → Example
opens t c l = becomes 8 t (refuses 8) (gives c l)

-- ---- the examples

abbrev pub rules_two : List Example
rules_two =
    -- literals below a bitwise operator: a ^ (-1), at 8, 1 and 64 bits; a ^ (3 & (1 + 2)); a | (1 + 2)
    opens (xor a (neg (n 1))) 255 (new_row a 1 ∷ low 255 254 ∷ [])
    ∷ becomes 1 (xor a (neg (n 1))) (refuses 8) (gives 1 (new_row a 1 ∷ []))
    ∷ becomes 64 (xor a (neg (n 1))) (refuses 8)
    (gives (2 ^ 64 - 1) (new_row a 1 ∷ low (2 ^ 64 - 1) (2 ^ 64 - 2) ∷ []))
    ∷ opens (xor a (conj (n 3) three)) 3 (new_row a 1 ∷ low 3 254 ∷ [])
    ∷ opens (disj a three) 3 (new_row a 1 ∷ low 3 255 ∷ [])
    -- cut to w bits: a & 271; (a & 271) + (a & 15)
    ∷ becomes 8 (conj a (n 271)) (gives 0 (low 271 1 ∷ [])) (gives 0 (low 15 1 ∷ []))
    ∷ becomes 8 (add (conj a (n 271)) (conj a (n 15))) (gives 0 (low 271 1 ∷ low 15 1 ∷ [])) (gives 0 (low 15 2 ∷ []))
    -- the largest variable-free subtree becomes one literal: a & (271 & ~3); a & ((1 + 2) >> 1)
    ∷ becomes 8 (conj a (conj (n 271) (compl (n 3)))) (gives 0 (new_row (conj a (conj (n 271) (compl (n 3)))) 1 ∷ []))
    (gives 0 (low 12 1 ∷ []))
    ∷ opens (conj a (shr 1 three)) 0 (low 1 1 ∷ [])
    -- what stands below no bitwise operator: 5; 271 × a; (1 + 2) × a; 3 & (1 + 2), of which 3 and the sum do; a + 271
    ∷ stays (n 5) (gives 5 [])
    ∷ stays (mul (n 271) a) (gives 0 (new_row a 15 ∷ []))
    ∷ stays (mul three a) (gives 0 (new_row a 3 ∷ []))
    ∷ stays (conj (n 3) three) (gives 3 [])
    ∷ stays (add a (n 271)) (gives 15 (new_row a 1 ∷ []))
    -- a Not over sums, products and negatives: ~(a + b); ~(3 × a); ~(-a); 128 × ~(a + b)
    ∷ opens (compl (add a b)) 255 (new_row a 255 ∷ new_row b 255 ∷ [])
    ∷ opens (compl (mul (n 3) a)) 255 (new_row a 253 ∷ [])
    ∷ opens (compl (neg a)) 255 (new_row a 1 ∷ [])
    ∷ opens (mul (n 128) (compl (add a b))) 128 (new_row a 128 ∷ new_row b 128 ∷ [])
    -- a Not over a Not: ~~(a + 1); ~(~a + b), whose inner one stays an atom
    ∷ opens (compl (compl (add a (n 1)))) 1 (new_row a 1 ∷ [])
    ∷ opens (compl (add (compl a) b)) 255 (new_row (compl a) 255 ∷ new_row b 255 ∷ [])
    -- a factor 0 below it, and above it: ~(0 × (a × b)); 0 × ~(a × b)
    ∷ opens (compl (mul (n 0) (mul a b))) 255 []
    ∷ stays (mul (n 0) (compl (mul a b))) (gives 0 [])
    -- no other Not: ~a; ~(a >> 1); ~((1 + 2) & a), where no sum is left below
    ∷ stays (compl a) (gives 0 (new_row (compl a) 1 ∷ []))
    ∷ stays (compl (shr 1 a)) (gives 0 (new_row (compl (shr 1 a)) 1 ∷ []))
    ∷ opens (compl (conj three a)) 0 (new_row (compl (conj (n 3) a)) 1 ∷ [])
    -- what stays refused: ~(a × b); a & ~(b + 1); ~(a + b) & 15; ~(a + b) >> 1; ~(a & (b + 1))
    ∷ stays (compl (mul a b)) (refuses 8)
    ∷ stays (conj a (compl (add b (n 1)))) (refuses 8)
    ∷ stays (conj (compl (add a b)) (n 15)) (refuses 8)
    ∷ stays (shr 1 (compl (add a b))) (refuses 8)
    ∷ stays (compl (conj a (add b (n 1)))) (refuses 8)
    ∷ []
