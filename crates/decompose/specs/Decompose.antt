-- An atom seen as `basis & mask` (semilinear.rs 223-259). Difference 3: the mask is read at w bits. Difference 9: masks
-- upon masks are joined, where the Rust takes one step.
use Rattle.std.specs.Prelude.{ℕ, ◌-◌, ◌^◌, [], not, ◌&&◌, eqb}
use Rattle.std.specs.Int.Bits.{bit_and}
use Rattle.base.specs.Choice.{when}
use Rattle.record.specs.Tree.{Tree}
use Rattle.record.specs.Tree.Tree.{Constant, Variable, Unary, Binary}
use Rattle.expr_utils.specs.Utils.{is_constant_subtree}
use Rattle.expr.specs.Value.{value}

-- no such view, or a basis and a mask
pub data Decomposed : Type 0 where
  no_basis : Decomposed
  masked : Tree → ℕ → Decomposed

-- what a tree t, itself seen as d, is under the mask m: masks are joined, and a tree without a view is a basis
unfoldable pub under_mask : ℕ → Tree → Decomposed → Decomposed
under_mask m t no_basis = masked t m
under_mask m t (masked b n) = masked b (bit_and m n)

-- the two sides of an And, seen as x and y: one of them variable-free, the other not
unfoldable pub decompose_and : ℕ → Tree → Tree → Decomposed → Decomposed → Decomposed
decompose_and w l r x y =
    when (is_constant_subtree r && not (is_constant_subtree l)) (λ _. under_mask (value w [] r) l x)
    (λ _. when (is_constant_subtree l && not (is_constant_subtree r)) (λ _. under_mask (value w [] l) r y) (λ _. no_basis))

-- goes on while the basis is an And with one variable-free side; a variable is its own basis under the full mask
unfoldable pub decompose_atom : ℕ → Tree → Decomposed
decompose_atom w (Constant v) = no_basis
decompose_atom w (Variable i) = masked (Variable i) (2 ^ w - 1)
decompose_atom w (Unary k a t) = no_basis
decompose_atom w (Binary k l r) =
    when (eqb k 4) (λ _. decompose_and w l r (decompose_atom w l) (decompose_atom w r)) (λ _. no_basis)
