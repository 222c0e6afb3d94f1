-- The value of a tree under an assignment, at w bits (document 01, "The tangle file").
use Rattle.std.specs.Prelude.{ℕ, ◌+◌, ◌-◌, ◌*◌, ◌/◌, ◌%◌, ◌^◌, List, ◌==◌, bit_and, bit_or, bit_xor, slice_index}
use Rattle.base.specs.Choice.{when}
use Rattle.record.specs.Tree.{Tree}
use Rattle.record.specs.Tree.Tree.{Constant, Variable, Unary, Binary}

-- Not, Neg and Shr by a, of a child's value x below 2 ^ w
unfoldable pub unary : ℕ → ℕ → ℕ → ℕ → ℕ
unary w k a x =
    when (k == 7) (λ _. 2 ^ w - 1 - x)
    (λ _. when (k == 8) (λ _. (2 ^ w - x) % 2 ^ w)
    (λ _. when (k == 9) (λ _. x / 2 ^ a) (λ _. 0)))

-- Add, Mul, And, Or and Xor of the children's values
unfoldable pub binary : ℕ → ℕ → ℕ → ℕ → ℕ
binary w k x y =
    when (k == 2) (λ _. (x + y) % 2 ^ w)
    (λ _. when (k == 3) (λ _. x * y % 2 ^ w)
    (λ _. when (k == 4) (λ _. bit_and x y)
    (λ _. when (k == 5) (λ _. bit_or x y)
    (λ _. when (k == 6) (λ _. bit_xor x y) (λ _. 0)))))

-- the value at w bits; variable i is word i of the assignment modulo 2 ^ w, 0 beyond its end
unfoldable pub value : ℕ → List ℕ → Tree → ℕ
value w vars (Constant v) = v % 2 ^ w
value w vars (Variable i) = slice_index vars i % 2 ^ w
value w vars (Unary k a t) = unary w k a (value w vars t)
value w vars (Binary k l r) = binary w k (value w vars l) (value w vars r)
