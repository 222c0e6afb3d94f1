-- An And of the file by the side that has a variable (ways/specs/Sides.antt, OneSide): a complement there is taken
-- apart, and any other And is an atom as it stands.
use mathlib.Core.Path.{◌≡◌, refl, ap, sym, ◌∙◌}
use Prim.Native.Nat.{ℕ, ◌^◌, ◌<◌}
use mathlib.Core.List.{List, []}
use mathlib.Core.Bool.{Bool, true, false, ◌||◌}
use lib.Dec.{eqb}
use Rattle.record.specs.Tree.{Tree}
use Rattle.record.specs.Tree.Tree.{Binary}
use Rattle.expr_utils.specs.Utils.{has_kind, has_var_dep}
use Rattle.expr.proofs.ValueLaws.{value_lt}
use Rattle.ways.specs.declared.side.Side.{Side}
use Rattle.normalizer_laws.specs.Collect.{collect_atom, is_not, operand, collect_not, collect_and}
use Rattle.ways.specs.Sides.{SideAt, side_tree, OneSide, at_right, at_left, is_binary}
use Rattle.ways.specs.Sides.{left_of, right_of, IsAnd}
use Rattle.normalizer_laws.proofs.AndLaws.{and_not_left, and_not_right, and_plain_left, and_plain_right}
use Rattle.normalizer_laws.proofs.AndLaws.{and_both}

-- a variable of an And is on one of its sides
pub and_variable : (t : Tree) → IsAnd t → has_var_dep t ≡ true → has_var_dep (left_of t) || has_var_dep (right_of t) ≡ true
unfolding has_kind
and_variable t e h = sym (ap has_var_dep e) ∙ h

-- both sides have a variable
pub and_no_side : (w c : ℕ) (l r : Tree) → eqb c 0 ≡ false → has_var_dep l ≡ true → has_var_dep r ≡ true
    → collect_and w c l r ≡ collect_atom c (Binary 4 l r)
and_no_side w c l r some hl hr = and_both w c l r some hl hr

-- one of them has
module _ (w : ℕ) (file marks : List ℕ) {start : ℕ} (l r : Tree) (b : Side) (of : OneSide w file marks start l r b) where
  abbrev Here : Type 0
  Here = OneSide w file marks start l r b

  pub side_at : SideAt w file marks start b
  side_at = go of
    where
      go : Here → SideAt w file marks start b
      go (at_right hl t v a) = a
      go (at_left hl hr t v a) = a

  pub side_value_lt : b.value < 2 ^ w
  side_value_lt = go of
    where
      go : Here → b.value < 2 ^ w
      go (at_right hl t v a) = rw v (value_lt w [] l)
      go (at_left hl hr t v a) = rw v (value_lt w [] r)

  module _ (c : ℕ) (some : eqb c 0 ≡ false) where
    pub and_plain_side : is_not (side_tree file b) ≡ false → collect_and w c l r ≡ collect_atom c (Binary 4 l r)
    and_plain_side n = go of
      where
        go : Here → collect_and w c l r ≡ collect_atom c (Binary 4 l r)
        go (at_right hl t v a) = and_plain_right w c l r some (sym (ap is_not t) ∙ n) hl
        go (at_left hl hr t v a) = and_plain_left w c l r some (sym (ap is_not t) ∙ n) hr

    pub and_not_side : is_not (side_tree file b) ≡ true → has_var_dep l || has_var_dep r ≡ true
        → collect_and w c l r ≡ collect_not w c (operand (side_tree file b)) b.value
    and_not_side n h = go of
      where
        go : Here → collect_and w c l r ≡ collect_not w c (operand (side_tree file b)) b.value
        go (at_right hl t v a) =
            let hr : has_var_dep r ≡ true = sym (ap (λ (x : Bool). x || has_var_dep r) hl) ∙ h in
            and_not_right w c l r some (sym (ap is_not t) ∙ n) hl hr ∙ rw (t, v) refl
        go (at_left hl hr t v a) =
            and_not_left w c l r some (sym (ap is_not t) ∙ n) hl hr ∙ rw (t, v) refl

pub and_binary : (t : Tree) → IsAnd t → is_binary t ≡ true
unfolding is_binary
and_binary t e = ap is_binary e
