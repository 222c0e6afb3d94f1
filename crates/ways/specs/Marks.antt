-- What the descent asks of every subtree, as one number for each record, the subtree's root, in the order of the
-- records.
use Rattle.std.specs.Prelude.{ℕ, ◌+◌, ◌%◌, ◌≤◌, ◌≡◌, List, [], ◌∷◌, ◌++◌, Bool, true, length, eqb, ltb}
use Rattle.std.specs.Int.Bits.{bit_or}
use Rattle.base.specs.Choice.{when}
use Rattle.record.specs.Fields.{size}
use Rattle.record.specs.Span.{sized}
use Rattle.record.specs.Tree.{Tree}
use Rattle.record.specs.Tree.Tree.{Constant, Variable, Unary, Binary}
use Rattle.base.specs.Put.{put}
use Rattle.expr_utils.specs.Utils.{has_var_dep, is_arith, has_arith}

-- 1 for a variable, and 2 more for an Add, a Mul or a Neg
unfoldable pub mark_number : Bool → Bool → ℕ
mark_number variable arith = when variable (λ _. 1) (λ _. 0) + when arith (λ _. 2) (λ _. 0)

-- the mark of a tree's root
unfoldable pub mark_of : Tree → ℕ
mark_of t = mark_number (has_var_dep t) (has_arith t)

-- the mark of a root of kind k over children whose marks have the bits of m
unfoldable pub root_mark : ℕ → ℕ → ℕ
root_mark k m = when (is_arith k) (λ _. bit_or m 2) (λ _. m)

-- the mark says that there is a variable
unfoldable pub mark_variable : ℕ → Bool
mark_variable m = eqb (m % 2) 1

-- the mark says that there is an Add, a Mul or a Neg
unfoldable pub mark_arith : ℕ → Bool
mark_arith m = ltb 1 m

-- the marks of a tree's records
unfoldable pub marks_of : Tree → List ℕ
marks_of (Constant v) = mark_of (Constant v) ∷ []
marks_of (Variable i) = mark_of (Variable i) ∷ []
marks_of (Unary k a t) = marks_of t ++ (mark_of (Unary k a t) ∷ [])
marks_of (Binary k l r) = (marks_of l ++ marks_of r) ++ (mark_of (Binary k l r) ∷ [])

-- what `mark_traits` asks: the bytes of a tree, and room for a mark of each record from `at` on
pub record MarkRoom (t : List ℕ) (at : ℕ) (marks : List ℕ) : Type 0 where
  pub whole : sized t ≡ true
  pub room : at + size t ≤ length marks

-- the marks of the tree t are put from `at` on, and r is its own
pub record Marked (t : Tree) (at : ℕ) (before after : List ℕ) (r : ℕ) : Type 0 where
  pub own : r ≡ mark_of t
  pub written : after ≡ put before at (marks_of t)
