-- Laws of what the columns ask of a tree: whether it has a shift (`has_shift`), and its edges (`edges_of` of
-- specs/Edges.antt), as the code finds them.
use mathlib.Core.Path.{◌≡◌, refl, sym, ◌∙◌}
use Prim.Native.Nat.{ℕ, ◌*◌, ◌%◌, ◌^◌}
use mathlib.Core.List.{List}
use mathlib.Core.Bool.{Bool, true, false, not, ◌&&◌, ◌||◌}
use lib.Dec.{eqb}
use lib.Bits.{bit_or, bit_xor}
use Rattle.record.specs.Fields.{kind, literal}
use Rattle.record.specs.Tree.{Tree}
use Rattle.record.specs.Tree.Tree.{Unary, Binary}
use Rattle.record.specs.Decode.{leaf}
use Rattle.record.proofs.LeafLaws.{leaf_both, leaf_constant, leaf_variable}
use Rattle.truth.specs.Truth.{has_shift}
use Rattle.profile.specs.Edges.{edges_of}

-- ---- shifts

pub shift_leaf : (s : List ℕ) → false ≡ has_shift (leaf s)
unfolding has_shift
shift_leaf s = leaf_both (λ t. false ≡ has_shift t) s refl refl

pub shift_one : (k a : ℕ) (t : Tree) → (eqb k 9 && not (eqb a 0)) || has_shift t ≡ has_shift (Unary k a t)
unfolding has_shift
shift_one k a t = refl

-- two children: one with a shift on the left, and what the right one has where the left has none
module _ (k : ℕ) (l r : Tree) {x : Bool} (hx : x ≡ has_shift l) where
  pub shift_left : x ≡ true → true ≡ has_shift (Binary k l r)
  unfolding has_shift
  shift_left e = rw (sym hx ∙ e) refl

  pub shift_right : x ≡ false → has_shift r ≡ has_shift (Binary k l r)
  unfolding has_shift
  shift_right e = rw (sym hx ∙ e) refl

-- ---- edges

-- a root without children; k is its kind
module _ (s : List ℕ) {k : ℕ} (hk : k ≡ kind s) where
  pub edges_constant : k ≡ 0 → {v : ℕ} → v ≡ literal s → bit_xor v (v * 2 ^ 1 % 2 ^ 64) ≡ edges_of (leaf s)
  unfolding edges_of
  edges_constant e hv = rw (leaf_constant s hk e, hv)

  pub edges_variable : (k ≡ 0 → ⊥) → 0 ≡ edges_of (leaf s)
  unfolding edges_of
  edges_variable e = rw (leaf_variable s hk e)

pub edges_one : (k a : ℕ) (t : Tree) → edges_of t ≡ edges_of (Unary k a t)
unfolding edges_of
edges_one k a t = refl

pub edges_two : (k : ℕ) (l r : Tree) → bit_or (edges_of l) (edges_of r) ≡ edges_of (Binary k l r)
unfolding edges_of
edges_two k l r = refl
