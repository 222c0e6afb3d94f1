-- Laws of the tree of a root without children (`leaf` of specs/Decode.antt): a literal or a variable.
use mathlib.Core.Path.{◌≡◌, sym, ◌∙◌}
use Prim.Native.Nat.{ℕ}
use mathlib.Core.List.{List}
use mathlib.Core.Bool.{Bool, true, false}
use lib.Dec.{eqb}
use borrow.Author.Tests.{eq-eqb, ne_eqb}
use Rattle.base.specs.Choice.{when}
use Rattle.record.specs.Fields.{kind, var_index, literal}
use Rattle.record.specs.Tree.{Tree}
use Rattle.record.specs.Tree.Tree.{Constant, Variable}
use Rattle.record.specs.Decode.{leaf}

-- what holds of a literal and of a variable holds of it
pub leaf_both : (P : Tree → Type 0) (s : List ℕ) → P (Constant (literal s)) → P (Variable (var_index s)) → P (leaf s)
unfolding leaf
leaf_both P s c v = go (eqb (kind s) 0)
  where
    go : (b : Bool) → P (when b (λ _. Constant (literal s)) (λ _. Variable (var_index s)))
    go true = c
    go false = v

-- k is the root's kind
module _ (s : List ℕ) {k : ℕ} (hk : k ≡ kind s) where
  pub leaf_constant : k ≡ 0 → leaf s ≡ Constant (literal s)
  unfolding leaf
  leaf_constant e = simp (eq-eqb (kind s) 0 (sym hk ∙ e))

  pub leaf_variable : (k ≡ 0 → ⊥) → leaf s ≡ Variable (var_index s)
  unfolding leaf
  leaf_variable d = simp (ne_eqb (kind s) 0 (λ e. d (hk ∙ e)))
