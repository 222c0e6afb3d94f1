-- Tests of a tree (expr_utils.rs 9-45; structure_recovery.rs 27-32).
use Rattle.std.specs.Prelude.{ℕ, Bool, false, not, ◌||◌, eqb}
use Rattle.expr_utils.specs.declared.Traits.{Traits}
use Rattle.record.specs.Tree.{Tree}
use Rattle.record.specs.Tree.Tree.{Constant, Variable, Unary, Binary}

-- a record of kind k occurs in the tree
unfoldable pub has_kind : ℕ → Tree → Bool
has_kind k (Constant v) = eqb 0 k
has_kind k (Variable i) = eqb 1 k
has_kind k (Unary j a t) = eqb j k || has_kind k t
has_kind k (Binary j l r) = eqb j k || (has_kind k l || has_kind k r)

-- the tree holds a variable, a literal, a Shr (count 0 included)
abbrev pub has_var_dep : Tree → Bool
has_var_dep = has_kind 1

abbrev pub has_literal : Tree → Bool
has_literal = has_kind 0

abbrev pub has_shr : Tree → Bool
has_shr = has_kind 9

abbrev pub is_constant_subtree : Tree → Bool
is_constant_subtree t = not (has_var_dep t)

-- Add, Mul and Neg
unfoldable pub is_arith : ℕ → Bool
is_arith k = eqb k 2 || (eqb k 3 || eqb k 8)

-- the tree holds an Add, a Mul or a Neg
unfoldable pub has_arith : Tree → Bool
has_arith (Constant v) = false
has_arith (Variable i) = false
has_arith (Unary k a t) = is_arith k || has_arith t
has_arith (Binary k l r) = is_arith k || (has_arith l || has_arith r)

-- a variable, a literal and a Shr at once, as one walk finds them
unfoldable pub traits_of : Tree → Traits
traits_of t =
    record {
      variable = has_var_dep t;
      literal = has_literal t;
      shr = has_shr t;
    }

-- what two children hold together
unfoldable pub join_traits : Traits → Traits → Traits
join_traits x y =
    record {
      variable = x.variable || y.variable;
      literal = x.literal || y.literal;
      shr = x.shr || y.shr;
    }

-- what a root of kind k adds to what its children hold
unfoldable pub node_traits : ℕ → Traits → Traits
node_traits k x =
    record {
      variable = x.variable;
      literal = x.literal;
      shr = eqb k 9 || x.shr;
    }
