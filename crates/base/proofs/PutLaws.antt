-- Laws of specs/Put.antt: what stands before a piece, in it and behind it; puts that follow each other, and what is put
-- behind the bytes of a slice that is zero there.
use mathlib.Core.Path.{◌≡◌, refl, ap, sym, ◌∙◌}
use Prim.Native.Nat.{ℕ, zero, suc, ◌+◌, ◌-◌, ◌≤◌, ◌<◌}
use native.Mathlib.Omega.{arith}
use native.Mathlib.Nat.{add_assoc, suc-sub-suc, sub-zero, zero-sub}
use mathlib.Core.List.{List, [], ◌++◌, append_assoc}
use lib.ListN.{length, get_or, take, drop, replicate, length-append, length-take, length-drop, length-replicate}
use borrow.Rule.Slice.PartMut.{put_mid}
use lib.Seq.{paste, take_at, drop_at, drop-drop, take-length, length-take-le, get_or-take, get_or-append-add}
use Rattle.base.specs.Put.{put, padded}
use Rattle.base.proofs.PartLaws.{part_take}

module _ (d : List ℕ) (at : ℕ) (s : List ℕ) (fits : at + length s ≤ length d) where
  head_length : length (take at d ++ s) ≡ at + length s
  head_length = simp (length-append, length-take) (omega arith)

  pub length_put : length (put d at s) ≡ length d
  unfolding put
  length_put = simp (length-append, length-take, length-drop) (omega arith)

  -- what stands up to the end of the piece
  pub take_put : take (at + length s) (put d at s) ≡ take at d ++ s
  unfolding put
  take_put = take_at (take at d ++ s) (drop (at + length s) d) (at + length s) head_length

  -- and what stands after it
  pub drop_put : drop (at + length s) (put d at s) ≡ drop (at + length s) d
  unfolding put
  drop_put = drop_at (take at d ++ s) (drop (at + length s) d) (at + length s) head_length

  front_length : length (take at d) ≡ at
  front_length = length-take-le at d (omega arith)

  -- what stands before the piece, and from it on
  pub take_put_front : take at (put d at s) ≡ take at d
  unfolding put
  take_put_front = rw append_assoc (take_at (take at d) (s ++ drop (at + length s) d) at front_length)

  pub drop_put_front : drop at (put d at s) ≡ s ++ drop (at + length s) d
  unfolding put
  drop_put_front = rw append_assoc (drop_at (take at d) (s ++ drop (at + length s) d) at front_length)

  -- a part before the piece, and the piece as a part
  pub part_put_before : (k n : ℕ) → k + n ≤ at → take n (drop k (put d at s)) ≡ take n (drop k d)
  part_put_before k n h =
      sym (part_take (put d at s) k n at h)
      ∙ ap (λ (l : List ℕ). take n (drop k l)) take_put_front
      ∙ part_take d k n at h

  pub part_put : (n : ℕ) → n ≡ length s → take n (drop at (put d at s)) ≡ s
  part_put n e = ap (take n) drop_put_front ∙ take_at s (drop (at + length s) d) n (sym e)

  -- an element before the piece, and one of the piece
  pub get_or_put_before : (i : ℕ) → i < at → get_or (put d at s) i 0 ≡ get_or d i 0
  get_or_put_before i h =
      sym (get_or-take at (put d at s) i 0 h)
      ∙ ap (λ (l : List ℕ). get_or l i 0) take_put_front
      ∙ get_or-take at d i 0 h

  pub get_or_put_in : (i : ℕ) → i < length s → get_or (put d at s) (at + i) 0 ≡ get_or s i 0
  get_or_put_in i h =
      sym (get_or-take (at + length s) (put d at s) (at + i) 0 (omega arith))
      ∙ ap (λ (l : List ℕ). get_or l (at + i) 0) take_put
      ∙ ap (λ (n : ℕ). get_or (take at d ++ s) (n + i) 0) (sym (length-take-le at d (omega arith)))
      ∙ get_or-append-add (take at d) s i 0

  drop_put_more : (n : ℕ) → drop (at + length s + n) (put d at s) ≡ drop (at + (length s + n)) d
  drop_put_more n =
      sym (drop-drop n (at + length s) (put d at s))
      ∙ ap (drop n) drop_put
      ∙ drop-drop n (at + length s) d
      ∙ ap (λ (k : ℕ). drop k d) (add_assoc at (length s) n)

  -- a second piece after the first
  pub put_put : (r : List ℕ) → put (put d at s) (at + length s) r ≡ put d at (s ++ r)
  unfolding put
  put_put r = rw (take_put, drop_put_more (length r), length-append, append_assoc (take at d) s r)

-- a second piece, with its place as the code has it
pub put_then : (d : List ℕ) (at : ℕ) (l x : List ℕ) (i : ℕ) → at + length l ≤ length d → at + length l ≡ i
    → put (put d at l) i x ≡ put d at (l ++ x)
put_then d at l x i h e = rw (← e) (put_put d at l h x)

-- and a third
pub put_then_then : (d : List ℕ) (at : ℕ) (l r x : List ℕ) (i j : ℕ) → at + length l + length r ≤ length d
    → at + length l ≡ i → at + length l + length r ≡ j
    → put (put (put d at l) i r) j x ≡ put d at ((l ++ r) ++ x)
put_then_then d at l r x i j h e f =
    let n : length (l ++ r) ≡ length l + length r = length-append l r in
    let g : at + length (l ++ r) ≡ j = omega arith in
    rw (put_then d at l r i (omega arith) e) (put_then d at (l ++ r) x j (omega arith) g)

-- all of a piece is copied
pub put_all : {A : Type 0} (d : List A) (at : ℕ) (s : List A) → paste d at s (length s) ≡ put d at s
unfolding put
put_all d at s = rw take-length

-- a piece written between two places
pub put_mid_is : {A : Type 0} (d s t : List A) (at : ℕ) → t ≡ s
    → put_mid at (at + length s - at) d t ≡ put d at s
unfolding put
put_mid_is d s t at e =
    let n : at + length s - at ≡ length s = omega arith in
    rw (n, e, drop-drop (length s) at d) (sym (append_assoc (take at d) s (drop (at + length s) d)))

-- ---- zeros behind

pub drop_zeros : (k n : ℕ) → ◌≡◌ {A = List ℕ} (drop k (replicate n 0)) (replicate (n - k) 0)
drop_zeros zero n = rw sub-zero
drop_zeros (suc k) zero = rw zero-sub
drop_zeros (suc k) (suc n) = rw suc-sub-suc (drop_zeros k n)

pub padded_nil : (len : ℕ) → replicate len 0 ≡ padded len []
unfolding padded
padded_nil len = rw sub-zero

pub length_padded : (len : ℕ) (b : List ℕ) → length b ≤ len → length (padded len b) ≡ len
unfolding padded
length_padded len b h = simp (length-append, length-replicate) (omega arith)

pub take_padded : (len : ℕ) (b : List ℕ) → take (length b) (padded len b) ≡ b
unfolding padded
take_padded len b = take_at b (replicate (len - length b) 0) (length b) refl

drop_padded : (len : ℕ) (b : List ℕ) (n : ℕ) → drop (length b + n) (padded len b) ≡ replicate (len - (length b + n)) 0
unfolding padded
drop_padded len b n =
    sym (drop-drop n (length b) (b ++ replicate (len - length b) 0))
    ∙ ap (drop n) (drop_at b (replicate (len - length b) 0) (length b) refl)
    ∙ drop_zeros n (len - length b)
    ∙ ap (λ (k : ℕ). replicate k 0) less
  where
    less : len - length b - n ≡ len - (length b + n)
    less = omega arith

-- a piece right behind the bytes
pub put_padded : (len : ℕ) (b x : List ℕ) → put (padded len b) (length b) x ≡ padded len (b ++ x)
unfolding put padded
put_padded len b x = rw (take_padded len b, drop_padded len b (length x), length-append)

-- the same, with its place as the code has it
pub put_padded_at : (len : ℕ) (b x : List ℕ) (i : ℕ) → i ≡ length b → put (padded len b) i x ≡ padded len (b ++ x)
put_padded_at len b x i e = rw e (put_padded len b x)
