-- A part of a list, `take n (drop k l)`: as the end of a front, in a longer front, and in another part.
use mathlib.Core.Path.{◌≡◌, refl, ap, sym, ◌∙◌}
use Prim.Native.Nat.{ℕ, zero, suc, ◌+◌, ◌-◌, ◌≤◌}
use native.Mathlib.Omega.{arith}
use native.Mathlib.Nat.{zero-add, suc-add}
use mathlib.Core.List.{List, [], ◌∷◌}
use lib.ListN.{take, drop}
use lib.Seq.{take-nil, take-take, drop-drop}

pub drop_take : (k n : ℕ) (l : List ℕ) → drop k (take (k + n) l) ≡ take n (drop k l)
drop_take zero n l = rw zero-add refl
drop_take (suc k) n [] = rw (take-nil n, take-nil (suc k + n)) refl
drop_take (suc k) n (x ∷ l) = rw suc-add (drop_take k n l)

-- a part that ends within the first m elements is one of these
pub part_take : (l : List ℕ) (k n m : ℕ) → k + n ≤ m → take n (drop k (take m l)) ≡ take n (drop k l)
part_take l k n m h = sym (drop_take k n (take m l)) ∙ ap (drop k) (take-take (k + n) m l h) ∙ drop_take k n l

-- a part of a part is a part of the list
pub part_part : (l : List ℕ) (a n s e : ℕ) → s ≤ e → e ≤ n
    → take (e - s) (drop s (take n (drop a l))) ≡ take (a + e - (a + s)) (drop (a + s) l)
part_part l a n s e h k =
    let m : a + e - (a + s) ≡ e - s = omega arith in
    part_take (drop a l) s (e - s) n (omega arith) ∙ rw (m, drop-drop s a l) refl
