-- Sharing by truth table: which trees may be shared, which have the same table, and the key of a tree (semilinear.rs
-- 25-30, semilinear_normalizer.rs 26-31). Two that may be shared have the same table exactly when their keys are equal.
use Rattle.std.specs.Prelude.{ℕ, ◌-◌, ◌^◌, List, ◌∷◌, Bool, not, ◌&&◌, length, replicate, eqb, leb}
use Rattle.base.specs.Choice.{when}
use Rattle.record.specs.Tree.{Tree}
use Rattle.expr_utils.specs.Utils.{has_literal, has_shr}
use Rattle.expr.specs.Vars.{support, same_vars, first_vars}
use Rattle.truth.specs.Truth.{table}

-- the most variables of an atom that is shared by its truth table
abbrev pub shared_vars : ℕ
shared_vars = 5

-- the tree may be shared by its truth table: no literal, no Shr, and few variables
unfoldable pub is_pure : Tree → Bool
is_pure t = not (has_literal t) && (not (has_shr t) && leb (length (support t)) shared_vars)

-- the same function of the same variables; without literal and Shr the tables are the same at every place and width
unfoldable pub same_table : Tree → Tree → Bool
same_table t u =
    is_pure t
    && (is_pure u
    && (same_vars t u
    && eqb (table 1 0 (support t) (length (support t)) t) (table 1 0 (support t) (length (support t)) u)))

-- the first word of the key of a tree that is not so shared; no table has this number
abbrev pub not_pure : ℕ
not_pure = 2 ^ 64 - 1

-- the table at width 1 and place 0, and six variables, no_var where there are fewer
unfoldable pub key_of : Tree → List ℕ
key_of t =
    when (is_pure t) (λ _. table 1 0 (support t) (length (support t)) t ∷ first_vars 6 0 t)
    (λ _. not_pure ∷ replicate 6 0)
