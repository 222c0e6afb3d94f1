-- What `decompose_atom` returns: a part of the atom's tree as basis, and a mask.
use Rattle.std.specs.Prelude.{◌≡◌, ℕ, ◌-◌, ◌^◌, ◌<◌, ◌≤◌, List, Option, Some, None, MatchOption, true, length, take, drop, eqb}
use Rattle.std.specs.Int.Bits.{bit_and}
use Rattle.base.specs.Choice.{when}
use Rattle.record.specs.Fields.{kind}
use Rattle.record.specs.Span.{sized}
use Rattle.record.specs.Tree.{Tree}
use Rattle.record.specs.Decode.{decode}
use Rattle.expr_utils.specs.Utils.{is_constant_subtree, has_var_dep}
use Rattle.expr_refusal.specs.Refusal.{tree_refusal}
use Rattle.decompose.specs.declared.Basis.{Basis}
use Rattle.decompose.specs.declared.Side.{Side}
use Rattle.decompose.specs.declared.Side.TheVariants.{Left, Right}
use Rattle.decompose.specs.Decompose.{Decomposed, no_basis, masked, under_mask, decompose_atom}

-- the part of s that r names
unfoldable pub basis_span : List ℕ → Basis → List ℕ
basis_span s r = take (r.end - r.start) (drop r.start s)

-- r is the basis and the mask of the tree of s at w bits, and its part is a tree's span, accepted where s is
pub record BasisOf (w : ℕ) (s : List ℕ) (r : Basis) : Type 0 where
  pub view : decompose_atom w (decode s) ≡ masked (decode (basis_span s r)) r.mask
  pub start_le : r.start ≤ r.end
  pub end_le : r.end ≤ length s
  pub ok : sized (basis_span s r) ≡ true
  pub accepted : tree_refusal w s ≡ 0 → tree_refusal w (basis_span s r) ≡ 0

-- r is the view of the tree of s at w bits
abbrev pub IsDecomposed : ℕ → List ℕ → Option Basis → Type 0
IsDecomposed w s r = MatchOption r (decompose_atom w (decode s) ≡ no_basis) (BasisOf w s)

-- the side of an And that has no variable, the left one first
unfoldable pub free_side : Tree → Tree → Option Side
free_side l r =
    when (is_constant_subtree l) (λ _. Some Left) (λ _. when (is_constant_subtree r) (λ _. Some Right) (λ _. None))

-- the part that x names is a tree's span with a variable, accepted where s is, and the mask is one of w bits
pub record Part (w : ℕ) (s : List ℕ) (x : Basis) : Type 0 where
  pub start_le : x.start ≤ x.end
  pub end_le : x.end ≤ length s
  pub ok : sized (basis_span s x) ≡ true
  pub accepted : tree_refusal w s ≡ 0 → tree_refusal w (basis_span s x) ≡ 0
  pub variable : has_var_dep (decode (basis_span s x)) ≡ true
  pub mask_lt : x.mask < 2 ^ w

-- the view of a tree that is no And with one variable-free side: a variable's, or none
unfoldable pub unsplit_view : ℕ → List ℕ → Decomposed
unsplit_view w s = when (eqb (kind s) 1) (λ _. masked (decode s) (2 ^ w - 1)) (λ _. no_basis)

-- one step on from x: y has a shorter part, and the mask v joined to its own
pub record SplitTo (w : ℕ) (s : List ℕ) (x y : Basis) : Type 0 where
  pub part : Part w s y
  pub less : y.end - y.start < x.end - x.start
  pub by : ℕ
  pub by_lt : by < 2 ^ w
  pub mask : y.mask ≡ bit_and x.mask by
  pub view : decompose_atom w (decode (basis_span s x))
      ≡ under_mask by (decode (basis_span s y)) (decompose_atom w (decode (basis_span s y)))

-- there is a step, or x has no more
abbrev pub Splits : ℕ → List ℕ → Basis → Option Basis → Type 0
Splits w s x r =
    MatchOption r (decompose_atom w (decode (basis_span s x)) ≡ unsplit_view w (basis_span s x)) (SplitTo w s x)
