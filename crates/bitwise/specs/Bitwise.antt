-- What one walk finds of a tree that should have no Add, Mul and Neg: its refusals, its variables and its hash together
-- (the tests of an atom's tree, document 01, "The sheet").
use Rattle.std.specs.Prelude.{ℕ, List, Option, Some, None, Bool, not, ◌&&◌, ◌||◌, eqb}
use Rattle.base.specs.Choice.{when}
use Rattle.record.specs.Fields.{kind, arity}
use Rattle.record.specs.Span.{body, right}
use Rattle.record.specs.Decode.{leaf, decode}
use Rattle.bitwise.specs.declared.Checked.{Checked}
use Rattle.expr_refusal.specs.Refusal.{root_refusal, tree_refusal}
use Rattle.expr_utils.specs.Utils.{is_arith, has_arith, has_var_dep}
use Rattle.expr.specs.Hash.{mix_hash, tag_hash, structural_hash}

-- no refusal applies to the tree, and it has no Add, Mul and Neg
unfoldable pub bitwise_ok : ℕ → List ℕ → Bool
bitwise_ok w t = eqb (tree_refusal w t) 0 && not (has_arith (decode t))

abbrev pub passing : Bool → ℕ → Checked
passing v h = record { variable = v; hash = h }

unfoldable pub checked : ℕ → List ℕ → Option Checked
checked w t =
    when (bitwise_ok w t) (λ _. Some (passing (has_var_dep (decode t)) (structural_hash (decode t)))) (λ _. None)

-- ---- step by step

unfoldable pub root_ok : ℕ → List ℕ → Bool
root_ok w t = eqb (root_refusal w t) 0 && not (is_arith (kind t))

-- the span of the only child, or of the right one
unfoldable pub last_child : List ℕ → List ℕ
last_child s = when (eqb (arity (kind s)) 1) (λ _. body s) (λ _. right s)

unfoldable pub leaf_checked : List ℕ → Checked
leaf_checked t = passing (eqb (kind t) 1) (structural_hash (leaf t))

unfoldable pub one_checked : ℕ → ℕ → Checked → Checked
one_checked k a x = passing x.variable (mix_hash (tag_hash k a) x.hash)

unfoldable pub two_checked : ℕ → Checked → Checked → Checked
two_checked k x y = passing (x.variable || y.variable) (mix_hash (mix_hash k x.hash) y.hash)
