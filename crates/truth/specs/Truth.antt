-- The bit of a bitwise tree at one place, from the bits of its variables there, and the tables made of it (document 01,
-- "Hint columns"; semilinear.rs 109-169, bit_partitioner.rs 29-103). A shift reads a higher place, as in the Rust; a
-- variable below it is given one bit for all places. The Rust's tables for sharing have w bits a row; they are equal
-- exactly when those at width 1 and place 0 are (proofs/WordTableLaws.antt).
use Rattle.std.specs.Prelude.{ℕ, zero, suc, ◌+◌, ◌-◌, ◌*◌, ◌^◌, min, max, List, [], ◌∷◌, Bool, false, not, ◌&&◌, ◌||◌, eqb, ltb}
use Rattle.std.specs.Int.Bits.{differ}
use Rattle.arith.specs.Bit.{bit_at}
use Rattle.base.specs.Choice.{when}
use Rattle.record.specs.Tree.{Tree}
use Rattle.record.specs.Tree.Tree.{Constant, Variable, Unary, Binary}
use Rattle.expr_utils.specs.Utils.{has_var_dep}

-- a shift by an amount other than 0 occurs
unfoldable pub has_shift : Tree → Bool
has_shift (Constant v) = false
has_shift (Variable i) = false
has_shift (Unary k a t) = (eqb k 9 && not (eqb a 0)) || has_shift t
has_shift (Binary k l r) = has_shift l || has_shift r

-- a shift by an amount other than 0 stands over a variable
unfoldable pub shifts_var : Tree → Bool
shifts_var (Constant v) = false
shifts_var (Variable i) = false
shifts_var (Unary k a t) = (eqb k 9 && (not (eqb a 0) && has_var_dep t)) || shifts_var t
shifts_var (Binary k l r) = shifts_var l || shifts_var r

-- And, Or and Xor of two bits
unfoldable pub bit_binary : ℕ → ℕ → ℕ → ℕ
bit_binary k x y = when (eqb k 4) (λ _. min x y) (λ _. when (eqb k 5) (λ _. max x y) (λ _. differ x y))

-- the tree's bit at place p of w, where variable i has bit b i; a shift reads place p + a, and 0 from w on
unfoldable pub bit_of : ℕ → ℕ → (ℕ → ℕ) → Tree → ℕ
bit_of w p b (Constant v) = bit_at v p
bit_of w p b (Variable i) = b i
bit_of w p b (Unary k a t) =
    when (eqb k 7) (λ _. 1 - bit_of w p b t) (λ _. when (ltb (p + a) w) (λ _. bit_of w (p + a) b t) (λ _. 0))
bit_of w p b (Binary k l r) = bit_binary k (bit_of w p b l) (bit_of w p b r)

-- the place of the first v in the list, its length where there is none
unfoldable pub place_of : ℕ → List ℕ → ℕ
place_of v [] = 0
place_of v (x ∷ l) = when (eqb x v) (λ _. 0) (λ _. place_of v l + 1)

-- the assignment number i: the j-th variable of the list, from `place` on, has bit j of i; the others have 0
unfoldable pub row_bits : ℕ → List ℕ → ℕ → ℕ → ℕ
row_bits place [] i v = 0
row_bits place (x ∷ l) i v = when (eqb x v) (λ _. bit_at i place) (λ _. row_bits (place + 1) l i v)

-- the number of the assignment that gives the variables of the list the bits b: bit j is that of the j-th variable
unfoldable pub row_number : (ℕ → ℕ) → List ℕ → ℕ
row_number b [] = 0
row_number b (x ∷ l) = b x + 2 * row_number b l

-- the n low rows of the tree's table at place p of w, over the variables vs: bit i is the tree's under assignment i
unfoldable pub table_f : ℕ → ℕ → ℕ → List ℕ → Tree → ℕ
table_f zero w p vs t = 0
table_f (suc n) w p vs t = table_f n w p vs t + 2 ^ n * bit_of w p (row_bits 0 vs n) t

-- the whole table of n variables
unfoldable pub table : ℕ → ℕ → List ℕ → ℕ → Tree → ℕ
table w p vs n t = table_f (2 ^ n) w p vs t
