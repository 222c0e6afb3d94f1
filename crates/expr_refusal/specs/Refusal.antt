-- The refusals of an expression (document 01, "Refusals", 1 and 3 to 6): the lowest that applies over the whole file.
-- Differences 5 and 6 from the Rust.
use Rattle.std.specs.Prelude.{ℕ, ◌*◌, ◌%◌, ◌^◌, min, List, Bool, not, ◌&&◌, ◌||◌, length, eqb, ltb, leb}
use Rattle.base.specs.Choice.{when}
use Rattle.record.specs.Fields.{kind, byte1, size, width, amount, literal, spare_high, spare}
use Rattle.record.specs.Span.{fold}
use Rattle.record.specs.Tree.{Tree}
use Rattle.record.specs.Tree.Tree.{Constant, Variable, Unary, Binary}
use Rattle.base.specs.Limits.{record_length, var_limit}

-- the lower of two refusals; 0 is none
unfoldable pub lowest : ℕ → ℕ → ℕ
lowest a b = when (eqb a 0) (λ _. b) (λ _. when (eqb b 0) (λ _. a) (λ _. min a b))

-- the kinds whose byte 1 says something: a variable, a shift and the casts
unfoldable pub uses_byte1 : ℕ → Bool
uses_byte1 k = eqb k 1 || (ltb 8 k && ltb k 13)

-- byte 1 and the literal are 0 where the kind has no use for them
unfoldable pub fields_ok : ℕ → ℕ → ℕ → Bool
fields_ok k a v = (eqb k 0 || eqb v 0) && (uses_byte1 k || eqb a 0)

-- those of bytes 5 to 7 that the root's kind has no use for: a variable uses byte 5
unfoldable pub unused : List ℕ → ℕ
unused s = when (eqb (kind s) 1) (λ _. spare_high s) (λ _. spare s)

-- the size field of a root is right: the records of its span, and 1 for a leaf
unfoldable pub size_ok : List ℕ → Bool
size_ok s = eqb (size s * record_length) (length s) && (not (ltb (kind s) 2) || eqb (length s) record_length)

-- refusal 3 does not apply to the root
unfoldable pub form_ok : List ℕ → Bool
form_ok s = leb (kind s) 13 && (size_ok s && (eqb (unused s) 0 && fields_ok (kind s) (byte1 s) (literal s)))

-- the root's width v is 1 to 64, and the file's
unfoldable pub width_ok : ℕ → ℕ → Bool
width_ok w v = not (eqb v 0) && (leb v 64 && eqb v w)

-- the lowest refusal that applies to the root, in a file of width w
unfoldable pub root_refusal : ℕ → List ℕ → ℕ
root_refusal w s =
    when (not (form_ok s)) (λ _. 3)
    (λ _. when (not (width_ok w (width s))) (λ _. 4)
    (λ _. when (ltb 9 (kind s)) (λ _. 5)
    (λ _. when (eqb (kind s) 9 && ltb 63 (amount s)) (λ _. 6) (λ _. 0))))

-- the lowest refusal that applies to a record of the span; a span without a root has a wrong size above it
abbrev pub tree_refusal : ℕ → List ℕ → ℕ
tree_refusal w =
    fold 3 (root_refusal w) (λ s x. lowest (root_refusal w s) x) (λ s x y. lowest (root_refusal w s) (lowest x y))

-- the lowest refusal of an expression file, 0 where it is accepted; its width is the root's
unfoldable pub expr_refusal : List ℕ → ℕ
expr_refusal s =
    when (eqb (length s) 0) (λ _. 1)
    (λ _. when (ltb (2 ^ 14) (length s)) (λ _. 1)
    (λ _. when (not (eqb (length s % record_length) 0)) (λ _. 1)
    (λ _. tree_refusal (width s) s)))

-- the trees that an accepted file holds: no cast, no Concat, shift counts up to 63
unfoldable pub is_expr : Tree → Bool
is_expr (Constant v) = ltb v (2 ^ 64)
is_expr (Variable i) = ltb i var_limit
is_expr (Unary k a t) = ((eqb a 0 && (eqb k 7 || eqb k 8)) || (eqb k 9 && ltb a 64)) && is_expr t
is_expr (Binary k l r) = (ltb 1 k && ltb k 7) && (is_expr l && is_expr r)
