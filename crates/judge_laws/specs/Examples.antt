-- Pairs with their verdicts (request #102): its own sentences, and cases that are easy to get wrong. Kinds: Add 2, Mul
-- 3, And 4, Or 5, Xor 6, Not 7, Neg 8, Shr 9.
use Rattle.std.specs.Prelude.{ℕ, List, [], ◌∷◌, Bool, true, ◌&&◌, eqb}
use Rattle.record.specs.Tree.{Tree, encode}
use Rattle.record.specs.Tree.Tree.{Constant, Variable, Unary, Binary}
use Rattle.semilinear.specs.Form.{Row, new_row, encode_form}
use Rattle.judge_laws.specs.declared.Verdict.{Verdict}
use Rattle.judge_laws.specs.Judge.{judge_of, judge_forms}

-- two expressions or two semilinear forms, with refusal, equal, place and index
pub data Example : Type 0 where
  exprs : List ℕ → List ℕ → ℕ → ℕ → ℕ → ℕ → Example
  forms : List ℕ → List ℕ → ℕ → ℕ → ℕ → ℕ → Example

unfoldable pub is_verdict : Verdict → ℕ → ℕ → ℕ → ℕ → Bool
is_verdict v n e p i = eqb v.refusal n && (eqb v.equal e && (eqb v.place p && eqb v.index i))

unfoldable pub holds : Example → Bool
holds (exprs l r n e p i) = is_verdict (judge_of l r) n e p i
holds (forms l r n e p i) = is_verdict (judge_forms l r) n e p i

unfoldable pub all_hold : List Example → Bool
all_hold [] = true
all_hold (x ∷ l) = holds x && all_hold l

-- ---- how the examples are written

abbrev pub a : Tree
a = Variable 0

abbrev pub b : Tree
b = Variable 1

abbrev pub lit : ℕ → Tree
lit = Constant

abbrev pub add : Tree → Tree → Tree
add = Binary 2

abbrev pub mul : Tree → Tree → Tree
mul = Binary 3

abbrev pub conj : Tree → Tree → Tree
conj = Binary 4

abbrev pub disj : Tree → Tree → Tree
disj = Binary 5

abbrev pub xor : Tree → Tree → Tree
xor = Binary 6

abbrev pub flip : Tree → Tree
flip = Unary 7 0

abbrev pub neg : Tree → Tree
neg = Unary 8 0

abbrev pub shr : ℕ → Tree → Tree
shr = Unary 9

-- v0 + .. + v5, and v0 & .. & v5
abbrev pub six_sum : Tree
six_sum = add (add (add a b) (add (Variable 2) (Variable 3))) (add (Variable 4) (Variable 5))

abbrev pub six_atom : Tree
six_atom = conj (conj (conj a b) (conj (Variable 2) (Variable 3))) (conj (Variable 4) (Variable 5))

-- two trees of width w
abbrev pub pair : ℕ → Tree → Tree → ℕ → ℕ → ℕ → ℕ → Example
pair w l r = exprs (encode w l) (encode w r)

-- the bytes of a form of width w
abbrev pub form : ℕ → ℕ → List Row → List ℕ
form w c l = encode_form (record { bitwidth = w; constant = c; rows = l })

-- one atom times 1
abbrev pub atom : Tree → List Row
atom t = new_row t 1 ∷ []

-- ---- two expressions

abbrev pub verdicts : List Example
verdicts =
    -- a ^ b and a + b - 2 × (a & b); a | b and a + b; a and a + 1; a & 15 and a & 31; a and b
    pair 8 (xor a b) (add (add a b) (neg (mul (lit 2) (conj a b)))) 0 1 0 0
    ∷ pair 8 (disj a b) (add a b) 0 0 0 3
    ∷ pair 8 a (add a (lit 1)) 0 0 0 0
    ∷ pair 8 (conj a (lit 15)) (conj a (lit 31)) 0 0 4 1
    ∷ pair 8 a b 0 0 0 1
    -- the place counts: 128 × (a ^ b) and 128 × (a + b) are equal at width 8
    ∷ pair 8 (mul (lit 128) (xor a b)) (mul (lit 128) (add a b)) 0 1 0 0
    -- all zeros differ at a high bit only: place 0 and index 0
    ∷ pair 8 a (add a (lit 128)) 0 0 0 0
    -- the highest place alone
    ∷ pair 64 a (conj a (lit 9223372036854775807)) 0 0 63 1
    -- place 0 with index 3 comes before place 4 with index 1
    ∷ pair 8 (add (conj (conj a b) (lit 1)) (conj a (lit 16))) (lit 0) 0 0 0 3
    -- a shift of literals, and one by 0
    ∷ pair 8 (conj a (shr 1 (flip (lit 3)))) (conj a (lit 126)) 0 1 0 0
    ∷ pair 8 (shr 0 a) a 0 1 0 0
    -- ~a and -a - 1 at 64 bits; a ^ 1 and a + 1 at one bit
    ∷ pair 64 (flip a) (add (neg a) (lit 18446744073709551615)) 0 1 0 0
    ∷ pair 1 (xor a (lit 1)) (add a (lit 1)) 0 1 0 0
    -- the index goes by the joint variables: b and b + 0 × a, then b and 2 × b beside 0 × a
    ∷ pair 8 b (add b (mul (lit 0) a)) 0 1 0 0
    ∷ pair 8 b (add (mul (lit 2) b) (mul (lit 0) a)) 0 0 0 2
    -- v0 and v256 are two variables
    ∷ pair 8 a (Variable 256) 0 0 0 1
    ∷ pair 8 (add a (Variable 256)) (mul (lit 2) a) 0 0 0 1
    -- five variables are judged
    ∷ pair 8 (add (add a b) (Variable 2))
    (add (add b a) (add (Variable 2) (mul (lit 0) (add (Variable 3) (Variable 4))))) 0 1 0 0
    -- without a variable
    ∷ pair 8 (lit 256) (lit 0) 0 1 0 0
    ∷ pair 8 (lit 3) (lit 4) 0 0 0 0
    ∷ []

abbrev pub refusals : List Example
refusals =
    -- 13 under a factor 0, and on the right alone; a & (a >> 1) and 0 agree under all assignments of one place
    pair 8 (mul (lit 0) (shr 1 a)) (lit 0) 13 0 0 0
    ∷ pair 8 (lit 0) (conj a (shr 1 a)) 13 0 0 0
    -- 12 under a factor 0, and of the two together
    ∷ pair 8 (add a (mul (lit 0) six_sum)) a 12 0 0 0
    ∷ pair 8 (add (add a b) (Variable 2)) (add (add (Variable 3) (Variable 4)) (Variable 5)) 12 0 0 0
    -- 11 before 12 and 13, 12 before 13
    ∷ exprs (encode 8 (shr 1 a)) (encode 9 six_sum) 11 0 0 0
    ∷ pair 8 (shr 1 a) six_sum 12 0 0 0
    ∷ pair 8 (add (add a b) (Variable 2)) (add (Variable 65535) (shr 1 (Variable 7))) 13 0 0 0
    -- the left's refusal before the right's, though the right's is lower; the right's before 11
    ∷ exprs (encode 8 (mul a b)) [] 8 0 0 0
    ∷ exprs [] (encode 8 (mul a b)) 1 0 0 0
    ∷ exprs (encode 8 a) (encode 9 (mul a b)) 8 0 0 0
    ∷ []

-- ---- two semilinear forms

abbrev pub sheets : List Example
sheets =
    -- a ^ 15 as one atom and as normalising lowers it; a ^ 15 and a; a & 15 and a & 31
    forms (form 8 0 (atom (xor a (lit 15)))) (form 8 15 (new_row a 1 ∷ new_row (conj a (lit 15)) 254 ∷ [])) 0 1 0 0
    ∷ forms (form 8 0 (atom (xor a (lit 15)))) (form 8 0 (atom a)) 0 0 0 0
    ∷ forms (form 8 0 (atom (conj a (lit 15)))) (form 8 0 (atom (conj a (lit 31)))) 0 0 4 1
    -- a + b and (a ^ b) + 2 × (a & b); an atom without a term adds nothing
    ∷ forms (form 64 0 (new_row a 1 ∷ new_row b 1 ∷ []))
    (form 64 0 (new_row (xor a b) 1 ∷ new_row (conj a b) 2 ∷ [])) 0 1 0 0
    ∷ forms (form 8 7 (new_row b 0 ∷ new_row a 1 ∷ [])) (form 8 7 (atom a)) 0 1 0 0
    -- its variable counts for the index: here b is the joint variable 1
    ∷ forms (form 8 0 (new_row a 0 ∷ new_row b 1 ∷ [])) (form 8 0 (new_row b 2 ∷ [])) 0 0 0 2
    -- the constants alone
    ∷ forms (form 8 3 []) (form 8 3 []) 0 1 0 0
    ∷ forms (form 8 3 []) (form 8 4 []) 0 0 0 0
    -- every atom of the table counts: 13 by the last one, 13 and 12 by an atom without a term; 11 before both
    ∷ forms (form 8 0 (new_row a 1 ∷ new_row (conj a (shr 1 a)) 1 ∷ [])) (form 8 0 (atom a)) 13 0 0 0
    ∷ forms (form 8 0 (new_row (shr 1 a) 0 ∷ [])) (form 8 0 []) 13 0 0 0
    ∷ forms (form 8 0 []) (form 8 0 (new_row six_atom 0 ∷ new_row (shr 1 a) 0 ∷ [])) 12 0 0 0
    ∷ forms (form 9 0 []) (form 8 0 (new_row six_atom 0 ∷ new_row (shr 1 a) 0 ∷ [])) 11 0 0 0
    -- the left's refusal before the right's; an expression is no form
    ∷ forms (encode 8 a) [] 10 0 0 0
    ∷ forms [] (encode 8 a) 1 0 0 0
    ∷ forms (form 9 0 []) (encode 8 a) 10 0 0 0
    ∷ []
