-- The split of an atom is as claimed (specs/Split.antt).
use mathlib.Core.Path.{◌≡◌, refl, ap, sym, subst, ◌∙◌}
use Prim.Native.Nat.{ℕ, ◌-◌, ◌^◌, ◌<◌}
use mathlib.Core.List.{List, []}
use mathlib.Core.Bool.{Bool, true, false, not, ◌&&◌, ◌||◌}
use lib.Bits.{bit_and}
use lib.Dec.{eqb}
use Rattle.base.specs.Choice.{when}
use Rattle.base.proofs.BoolLaws.{false_true}
use Rattle.arith.proofs.MaskLaws.{and_full}
use Rattle.record.specs.Tree.{Tree}
use Rattle.record.specs.Tree.Tree.{Constant, Variable, Unary, Binary}
use Rattle.expr_utils.specs.Utils.{is_constant_subtree}
use Rattle.expr.specs.Value.{value}
use Rattle.expr.proofs.ValueLaws.{value_lt}
use Rattle.semilinear.proofs.AtomLaws.{Atom}
use Rattle.decompose.specs.Decompose.{Decomposed, no_basis, masked, under_mask, decompose_and, decompose_atom}
use Rattle.views.specs.Grouping.{variable_basis}
use Rattle.views.proofs.ViewLaws.{Seen, View, seen}
use Rattle.claims.specs.Split.{one_free, is_masked, SplitInto, OneMore, IsSplit}

-- ---- whether there is a split

Known : Bool → Decomposed → Type 0
Known true no_basis = ⊥
Known true (masked b m) = Unit {0}
Known false no_basis = Unit {0}
Known false (masked b m) = ⊥

known_under : (m : ℕ) (t : Tree) (d : Decomposed) → Known true (under_mask m t d)
unfolding Known under_mask
known_under m t no_basis = tt
known_under m t (masked b n) = tt

known_and : (w : ℕ) (l r : Tree) (x y : Decomposed) → Known (one_free l r) (decompose_and w l r x y)
unfolding Known one_free decompose_and
known_and w l r x y = go (is_constant_subtree r) (is_constant_subtree l)
  where
    go : (p q : Bool)
        → Known (p && not q || q && not p)
        (when (p && not q) (λ _. under_mask (value w [] r) l x)
        (λ _. when (q && not p) (λ _. under_mask (value w [] l) r y) (λ _. no_basis)))
    go true true = tt
    go true false = known_under (value w [] r) l x
    go false true = known_under (value w [] l) r y
    go false false = tt

known : (w : ℕ) (t : Tree) → Known (variable_basis t || is_masked t) (decompose_atom w t)
unfolding Known variable_basis is_masked decompose_atom
known w (Constant v) = tt
known w (Variable i) = tt
known w (Unary k a t) = tt
known w (Binary k l r) = go (eqb k 4)
  where
    go : (p : Bool)
        → Known (p && one_free l r)
        (when p (λ _. decompose_and w l r (decompose_atom w l) (decompose_atom w r)) (λ _. no_basis))
    go true = known_and w l r (decompose_atom w l) (decompose_atom w r)
    go false = tt

none_of : (p : Bool) (d : Decomposed) → Known p d → d ≡ no_basis → p ≡ false
unfolding Known
none_of true no_basis h e = absurd h
none_of false no_basis h e = refl
none_of true (masked b m) h e = absurd (subst (Known true) e h)
none_of false (masked b m) h e = refl

only_none_of : (p : Bool) (d : Decomposed) → Known p d → p ≡ false → d ≡ no_basis
unfolding Known
only_none_of false no_basis h e = refl
only_none_of false (masked b m) h e = absurd h
only_none_of true d h e = false_true (sym e)

-- ---- that it goes on to the end

Ended : Decomposed → Type 0
Ended no_basis = Unit {0}
Ended (masked b m) = is_masked b ≡ false

-- where l has no split, it is not under a mask
ended_under : (w m : ℕ) (l : Tree) (d : Decomposed) → decompose_atom w l ≡ d → Ended d → Ended (under_mask m l d)
unfolding Ended under_mask
ended_under w m l no_basis e h =
    or_right (variable_basis l) (is_masked l)
    (none_of (variable_basis l || is_masked l) no_basis (subst (Known _) e (known w l)) refl)
  where
    or_right : (p q : Bool) → p || q ≡ false → q ≡ false
    or_right true q e = false_true (sym e)
    or_right false q e = e
ended_under w m l (masked b n) e h = h

ended_and : (w : ℕ) (l r : Tree) → Ended (decompose_atom w l) → Ended (decompose_atom w r)
    → Ended (decompose_and w l r (decompose_atom w l) (decompose_atom w r))
unfolding Ended decompose_and
ended_and w l r hl hr = go (is_constant_subtree r) (is_constant_subtree l)
  where
    go : (p q : Bool)
        → Ended (when (p && not q) (λ _. under_mask (value w [] r) l (decompose_atom w l))
        (λ _. when (q && not p) (λ _. under_mask (value w [] l) r (decompose_atom w r)) (λ _. no_basis)))
    go true true = tt
    go true false = ended_under w (value w [] r) l (decompose_atom w l) refl hl
    go false true = ended_under w (value w [] l) r (decompose_atom w r) refl hr
    go false false = tt

ended_binary : (w : ℕ) (l r : Tree) → Ended (decompose_atom w l) → Ended (decompose_atom w r) → (p : Bool)
    → Ended (when p (λ _. decompose_and w l r (decompose_atom w l) (decompose_atom w r)) (λ _. no_basis))
unfolding Ended
ended_binary w l r hl hr true = ended_and w l r hl hr
ended_binary w l r hl hr false = tt

ended : (w : ℕ) (t : Tree) → Ended (decompose_atom w t)
unfolding Ended decompose_atom is_masked
ended w (Constant v) = tt
ended w (Variable i) = refl
ended w (Unary k a t) = tt
ended w (Binary k l r) = ended_binary w l r (ended w l) (ended w r) (eqb k 4)

-- ---- the claims

pub is_split : (w : ℕ) (t : Tree) → Atom t → IsSplit w t
unfolding Seen Ended
is_split w t h =
    record {
      into = λ b m e.
          let v : View w t b m = subst (Seen w t) e (seen w t h) in
          record { value_is = v.value_is; mask_lt = v.mask_lt; ends = subst Ended e (ended w t) };
      none = none_of (variable_basis t || is_masked t) (decompose_atom w t) (known w t);
      only_none = only_none_of (variable_basis t || is_masked t) (decompose_atom w t) (known w t);
    }

-- a tree with a variable that is not under a mask, under m: the split is as in the Rust
under_once : (w m : ℕ) (l : Tree) → m < 2 ^ w → is_masked l ≡ false → under_mask m l (decompose_atom w l) ≡ masked l m
unfolding under_mask decompose_atom variable_basis
under_once w m (Constant v) lt e = refl
under_once w m (Variable i) lt e = ap (masked (Variable i)) (and_full w m lt)
under_once w m (Unary k a t) lt e = refl
under_once w m (Binary k l r) lt e =
    ap (under_mask m (Binary k l r))
    (only_none_of (is_masked (Binary k l r)) (decompose_atom w (Binary k l r)) (known w (Binary k l r)) e)

under_joined : (m : ℕ) (l b : Tree) (n : ℕ) (d : Decomposed) → d ≡ masked b n → under_mask m l d ≡ masked b (bit_and m n)
unfolding under_mask
under_joined m l b n d e = ap (under_mask m l) e

-- the mask on the right, and on the left
module _ (w : ℕ) (l r : Tree) where
  one_more : (t s : Tree) (m : ℕ) → m < 2 ^ w → decompose_atom w t ≡ under_mask m s (decompose_atom w s) → OneMore w t s m
  one_more t s m lt e =
      record {
        once = λ h. e ∙ under_once w m s lt h;
        joined = λ b n f. e ∙ under_joined m s b n (decompose_atom w s) f;
      }

  pub mask_right : is_constant_subtree l ≡ false → is_constant_subtree r ≡ true → OneMore w (Binary 4 l r) l (value w [] r)
  unfolding decompose_atom decompose_and
  mask_right hl hr = one_more (Binary 4 l r) l (value w [] r) (value_lt w [] r) (simp (hl, hr))

  pub mask_left : is_constant_subtree l ≡ true → is_constant_subtree r ≡ false → OneMore w (Binary 4 l r) r (value w [] l)
  unfolding decompose_atom decompose_and
  mask_left hl hr = one_more (Binary 4 l r) r (value w [] l) (value_lt w [] l) (simp (hl, hr))
