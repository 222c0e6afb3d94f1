-- What is claimed of the split of an atom into basis and mask (request #108), without the recursion of its definition.
use Rattle.std.specs.Prelude.{◌≡◌, ℕ, ◌^◌, ◌<◌, List, [], Bool, true, false, not, ◌&&◌, ◌||◌, eqb}
use Rattle.std.specs.Int.Bits.{bit_and}
use Rattle.record.specs.Tree.{Tree}
use Rattle.record.specs.Tree.Tree.{Constant, Variable, Unary, Binary}
use Rattle.expr_utils.specs.Utils.{is_constant_subtree}
use Rattle.expr.specs.Value.{value}
use Rattle.decompose.specs.Decompose.{Decomposed, no_basis, masked, decompose_atom}
use Rattle.views.specs.Grouping.{variable_basis}

-- one side alone has a variable
unfoldable pub one_free : Tree → Tree → Bool
one_free l r = is_constant_subtree r && not (is_constant_subtree l) || is_constant_subtree l && not (is_constant_subtree r)

-- a tree under a mask: an And with one variable-free side
unfoldable pub is_masked : Tree → Bool
is_masked (Constant v) = false
is_masked (Variable i) = false
is_masked (Unary k a t) = false
is_masked (Binary k l r) = eqb k 4 && one_free l r

-- t is split at w bits into the basis b and the mask m
pub record SplitInto (w : ℕ) (t b : Tree) (m : ℕ) : Type 0 where
  pub value_is : (vars : List ℕ) → value w vars t ≡ bit_and (value w vars b) m
  pub mask_lt : m < 2 ^ w
  -- it goes on to the end
  pub ends : is_masked b ≡ false

-- t is l under one mask more, of value m: where l is no tree under a mask, the split is l and m, as in the Rust; where
-- it is split into b and n, the masks are joined
pub record OneMore (w : ℕ) (t l : Tree) (m : ℕ) : Type 0 where
  pub once : is_masked l ≡ false → decompose_atom w t ≡ masked l m
  pub joined : (b : Tree) (n : ℕ) → decompose_atom w l ≡ masked b n → decompose_atom w t ≡ masked b (bit_and m n)

-- all that is claimed of the split of t
pub record IsSplit (w : ℕ) (t : Tree) : Type 0 where
  pub into : (b : Tree) (m : ℕ) → decompose_atom w t ≡ masked b m → SplitInto w t b m
  -- there is none just where t is neither a variable nor under a mask
  pub none : decompose_atom w t ≡ no_basis → variable_basis t || is_masked t ≡ false
  pub only_none : variable_basis t || is_masked t ≡ false → decompose_atom w t ≡ no_basis
