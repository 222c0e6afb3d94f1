-- Laws of the part of a list from one place to another (`span_of` of specs/Spans.antt): its length and elements,
-- parts of parts, and parts that another list shares.
use mathlib.Core.Path.{◌≡◌, ap, sym, ◌∙◌}
use Prim.Native.Nat.{ℕ, ◌+◌, ◌-◌, ◌≤◌, ◌<◌}
use native.Mathlib.Omega.{arith}
use mathlib.Core.List.{List}
use lib.ListN.{length, get_or, take, drop, set, length-take, length-drop}
use lib.Seq.{take-take, get_or-take, get_or-drop, take-set-le, drop-set-lt}
use Rattle.base.proofs.PartLaws.{part_take, part_part}
use Rattle.ways.specs.Spans.{span_of}

pub length_span : (l : List ℕ) (s e : ℕ) → e ≤ length l → length (span_of l s e) ≡ e - s
unfolding span_of
length_span l s e h = length-take (e - s) (drop s l) ∙ rw (length-drop s l) (omega arith)

pub get_or_span : (l : List ℕ) (s e i : ℕ) → i < e - s → get_or (span_of l s e) i 0 ≡ get_or l (s + i) 0
unfolding span_of
get_or_span l s e i h = get_or-take (e - s) (drop s l) i 0 h ∙ get_or-drop s l i 0

-- ---- parts of parts

-- a part that starts and ends before n is one of the first n elements
span_take : (l : List ℕ) (s e n : ℕ) → s ≤ e → e ≤ n → span_of (take n l) s e ≡ span_of l s e
unfolding span_of
span_take l s e n h k = part_take l s (e - s) n (omega arith)

-- a part of a part is a part of the list
pub span_span : (l : List ℕ) (s e i j : ℕ) → i ≤ j → s + j ≤ e → span_of (span_of l s e) i j ≡ span_of l (s + i) (s + j)
unfolding span_of
span_span l s e i j h k = part_part l s (e - s) i j h (omega arith)

pub take_span : (l : List ℕ) (s e j m : ℕ) → s + j ≤ e → s + j ≡ m → take j (span_of l s e) ≡ span_of l s m
unfolding span_of
take_span l s e j m h f =
    let n : j ≡ m - s = omega arith in
    take-take j (e - s) (drop s l) (omega arith) ∙ ap (λ (i : ℕ). take i (drop s l)) n

-- ---- two lists

-- lists with the same first n elements have the same elements and parts before n
module _ (l m : List ℕ) (n : ℕ) (same : take n m ≡ take n l) where
  pub get_or_same : (i : ℕ) → i < n → get_or m i 0 ≡ get_or l i 0
  get_or_same i h = sym (get_or-take n m i 0 h) ∙ ap (λ (x : List ℕ). get_or x i 0) same ∙ get_or-take n l i 0 h

  pub span_same : (s e : ℕ) → s ≤ e → e ≤ n → span_of m s e ≡ span_of l s e
  span_same s e h k = sym (span_take m s e n h k) ∙ ap (λ (x : List ℕ). span_of x s e) same ∙ span_take l s e n h k

-- one element set before a part or behind it
pub span_set_before : (l : List ℕ) (i a s e : ℕ) → i < s → span_of (set l i a) s e ≡ span_of l s e
unfolding span_of
span_set_before l i a s e h = ap (take (e - s)) (drop-set-lt s l i a h)

pub span_set_behind : (l : List ℕ) (i a s e : ℕ) → s ≤ e → e ≤ i → span_of (set l i a) s e ≡ span_of l s e
span_set_behind l i a s e h k = span_same l (set l i a) e (take-set-le e l i a k) s e h (omega arith)
