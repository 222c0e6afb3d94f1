-- Expression trees (expr.rs 12-38) and their bytes: children before parent, left before right, root last
-- (document 01, "The tangle file"). Kinds are document 01's numbers.
use Rattle.std.specs.Prelude.{ℕ, ◌+◌, ◌/◌, ◌%◌, ◌^◌, ◌<◌, ◌≡◌, List, [], ◌∷◌, ◌++◌, get_or}
use Rattle.record.specs.Fields.{arity}
use Rattle.base.specs.Limits.{var_limit}

-- a literal; a variable by its number; one child, with kind and amount; two children, with kind
pub data Tree : Type 0 where
  Constant : ℕ → Tree
  Variable : ℕ → Tree
  Unary : ℕ → ℕ → Tree → Tree
  Binary : ℕ → Tree → Tree → Tree

-- the records of a tree
unfoldable pub size_of : Tree → ℕ
size_of (Constant v) = 1
size_of (Variable i) = 1
size_of (Unary k a t) = size_of t + 1
size_of (Binary k l r) = size_of l + size_of r + 1

-- the bytes of one record other than a variable's: kind, byte 1, size, width, literal
unfoldable pub record_bytes : ℕ → ℕ → ℕ → ℕ → ℕ → List ℕ
record_bytes k a n w v =
    k ∷ a ∷ n % 256 ∷ n / 2 ^ 8 ∷ w ∷ 0 ∷ 0 ∷ 0 ∷ v % 256 ∷ v / 2 ^ 8 % 256 ∷ v / 2 ^ 16 % 256
    ∷ v / 2 ^ 24 % 256 ∷ v / 2 ^ 32 % 256 ∷ v / 2 ^ 40 % 256 ∷ v / 2 ^ 48 % 256 ∷ v / 2 ^ 56 % 256 ∷ []

-- the bytes of a variable's record: its number's low byte in byte 1, the high byte in byte 5
unfoldable pub variable_bytes : ℕ → ℕ → List ℕ
variable_bytes w i =
    1 ∷ i % 256 ∷ 1 ∷ 0 ∷ w ∷ i / 2 ^ 8 ∷ 0 ∷ 0 ∷ 0 ∷ 0 ∷ 0 ∷ 0 ∷ 0 ∷ 0 ∷ 0 ∷ 0 ∷ []

-- the bytes of a tree of width w
unfoldable pub encode : ℕ → Tree → List ℕ
encode w (Constant v) = record_bytes 0 0 1 w v
encode w (Variable i) = variable_bytes w i
encode w (Unary k a t) = encode w t ++ record_bytes k a (size_of t + 1) w 0
encode w (Binary k l r) = (encode w l ++ encode w r) ++ record_bytes k 0 (size_of l + size_of r + 1) w 0

-- every element is a byte
abbrev pub IsBytes : List ℕ → Type 0
IsBytes s = (i : ℕ) → get_or s i 0 < 256

-- the trees that bytes can hold: each kind has its number of children, and literals and variables fit
unfoldable pub Encodable : Tree → Type 0
Encodable (Constant v) = v < 2 ^ 64
Encodable (Variable i) = i < var_limit
Encodable (Unary k a t) = (arity k ≡ 1) × Encodable t
Encodable (Binary k l r) = (arity k ≡ 2) × Encodable l × Encodable r
