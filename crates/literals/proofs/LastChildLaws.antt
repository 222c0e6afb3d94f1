-- What `fold_literals` knows at the last child of a root, the only one or the right one of two, and writes behind it.
use mathlib.Core.Path.{◌≡◌, refl, sym, ◌∙◌}
use Prim.Native.Nat.{ℕ, ◌-◌, ◌%◌, ◌≤◌, ◌<◌}
use native.Mathlib.Omega.{arith}
use native.Mathlib.Decide.{ℕ_discrete}
use mathlib.Core.List.{List}
use mathlib.Core.Bool.{Bool, true}
use lib.ListN.{length, take, drop}
use Rattle.record.specs.Fields.{kind, byte1, size, arity}
use Rattle.record.specs.Span.{cut, right, sized}
use Rattle.record.specs.Decode.{decode}
use Rattle.record.proofs.FieldsLaws.{arity_two}
use Rattle.record.proofs.PlaceLaws.{right_whole}
use Rattle.literals.specs.Folding.{FoldRoom, Folded, RootRoom, RootPut}
use Rattle.literals.proofs.OneChildLaws.{OneChild, cut_one, one_falls, one_number_le, one_room, one_root}
use Rattle.literals.proofs.OneChildLaws.{folded_one}
use Rattle.literals.proofs.TwoChildrenLaws.{TwoChildren, number_le, right_falls, first_length, right_room}
use Rattle.literals.proofs.TwoChildrenLaws.{two_root, folded_two}

-- ---- roots with a child

pub arity_one : (k : ℕ) → (arity k ≡ 0 → ⊥) → (arity k ≡ 2 → ⊥) → arity k ≡ 1
arity_one k p q = go (ℕ_discrete (arity k) 1)
  where
    go : Dec (arity k ≡ 1) → arity k ≡ 1
    go (yes e) = e
    go (no h) = absurd (q (arity_two k p h))

-- the last child begins at a whole record
pub last_whole : (s : List ℕ) → sized s ≡ true → {n : ℕ} → n ≡ arity (kind s) → (n ≡ 0 → ⊥) → {i : ℕ} → i ≡ cut s
    → i % 16 ≡ 0
last_whole s ok {n} e p {i} ei = go (ℕ_discrete n 1)
  where
    go : Dec (n ≡ 1) → i % 16 ≡ 0
    go (yes h) = omega (arith, ei, cut_one s ok (sym e ∙ h))
    go (no h) = right_whole s ok e p h ei

-- ---- the last child

-- a root that is no literal, with its last child, r, still to be folded: `number` says how many records stand before r,
-- and g is what is written, to i
pub record LastChild (w : ℕ) (s marks : List ℕ) (at : ℕ) (d : List ℕ) (below deeper : Bool) (r : List ℕ) (number : ℕ)
    (g : List ℕ) (i : ℕ) : Type 0 where
  -- the child is smaller and accepted, and its marks stand between those of the records before it and the root's
  pub falls : size r < size s
  pub count_le : number ≤ length marks - 1
  pub room : (m : List ℕ) (last : ℕ) → last ≡ length marks - 1 → m ≡ take (last - number) (drop number marks)
      → FoldRoom w r m i g
  pub long : length g ≡ length d
  -- when it is folded, to j, the root has room behind it, and there it makes up the folded tree
  pub root : (o : List ℕ) (j : ℕ) → Folded w deeper (decode r) i g o j → RootRoom at j o
  pub folded : (o : List ℕ) (j : ℕ) → Folded w deeper (decode r) i g o j
      → (k a : ℕ) → k ≡ kind s → a ≡ byte1 s → (f : List ℕ) (n : ℕ) → RootPut k a at j w o f n
      → Folded w below (decode s) at d f n

module _ {w : ℕ} {s marks : List ℕ} {at : ℕ} {d : List ℕ} {below deeper : Bool} {r : List ℕ} {number : ℕ} where
  -- the only child: nothing is written yet
  pub last_one : OneChild w s marks at d below deeper r number → LastChild w s marks at d below deeper r number d at
  last_one x =
      record {
        falls = one_falls x;
        count_le = one_number_le x;
        room = λ m last el em. one_room x el em;
        long = refl;
        root = λ o j only. one_root x only;
        folded = λ o j only k a ek ea f n put. folded_one x only ek ea put;
      }

  -- the right one of two: the left one, l, is folded
  pub last_two : {l : List ℕ} → TwoChildren w s marks at d below deeper l number → {g : List ℕ} {i : ℕ}
      → Folded w deeper (decode l) at d g i → r ≡ right s → LastChild w s marks at d below deeper r number g i
  last_two x first er =
      record {
        falls = right_falls x er;
        count_le = number_le x;
        room = λ m last el em. right_room x first er el em;
        long = first_length x first er;
        root = λ o j second. two_root x first er second;
        folded = λ o j second k a ek ea f n put. folded_two x first er second ek ea put;
      }

  -- the same of numbers and bytes that are equal
  pub last_met : {g h : List ℕ} {i j : ℕ} → h ≡ g → j ≡ i → LastChild w s marks at d below deeper r number g i
      → LastChild w s marks at d below deeper r number h j
  last_met eh ej x = rw (eh, ej) x
