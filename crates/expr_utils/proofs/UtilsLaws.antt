-- Laws of specs/Utils.antt: what a tree holds, from what its children hold.
use mathlib.Core.Path.{◌≡◌, refl}
use Prim.Native.Nat.{ℕ, ◌≤◌}
use mathlib.Core.List.{List}
use mathlib.Core.Bool.{Bool, true, false, not}
use lib.Dec.{eqb}
use native.Mathlib.Omega.{arith}
use borrow.Author.Tests.{ne_eqb}
use Rattle.base.specs.Choice.{when}
use Rattle.record.specs.Fields.{kind, var_index, literal}
use Rattle.record.specs.Decode.{leaf}
use Rattle.record.specs.Tree.{Tree}
use Rattle.record.specs.Tree.Tree.{Constant, Variable, Unary, Binary}
use Rattle.expr_utils.specs.declared.Traits.{Traits}
use Rattle.expr_utils.specs.Utils.{has_kind, traits_of, join_traits, node_traits}

pub traits_one : (k a : ℕ) (t : Tree) → 2 ≤ k → node_traits k (traits_of t) ≡ traits_of (Unary k a t)
unfolding traits_of node_traits has_kind
traits_one k a t h = simp (ne_eqb k 1 (omega arith), ne_eqb k 0 (omega arith))

pub traits_two : (k : ℕ) (l r : Tree) → 2 ≤ k
    → node_traits k (join_traits (traits_of l) (traits_of r)) ≡ traits_of (Binary k l r)
unfolding traits_of node_traits join_traits has_kind
traits_two k l r h = simp (ne_eqb k 1 (omega arith), ne_eqb k 0 (omega arith))

-- a root without children: a literal or a variable
abbrev pub leaf_found : Bool → Traits
leaf_found b = record { variable = not b; literal = b; shr = false }

pub traits_leaf : (s : List ℕ) → leaf_found (eqb (kind s) 0) ≡ traits_of (leaf s)
unfolding traits_of leaf has_kind
traits_leaf s =
    elim (eqb (kind s) 0) as (λ b. leaf_found b ≡ traits_of (when b (λ _. Constant (literal s)) (λ _. Variable (var_index s)))) [ true ↦ refl | false ↦ refl ]
