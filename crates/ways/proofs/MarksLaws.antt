-- Laws of specs/Marks.antt: a tree has as many marks as records, its own mark is the last, and its children's marks
-- stand before it; the two tests of a mark; a root's mark from its children's; and that a mark put at one place is a set
-- element.
use mathlib.Core.Path.{◌≡◌, refl, sym, ap, ◌∙◌}
use Prim.Native.Nat.{ℕ, suc, ◌+◌, ◌-◌, ◌≤◌, ◌<◌}
use native.Mathlib.Omega.{arith}
use native.Mathlib.Numerals.{add-one}
use mathlib.Core.List.{List, [], ◌∷◌, ◌++◌, append_assoc}
use mathlib.Core.Bool.{Bool, true, false, ◌||◌}
use lib.ListN.{length, get_or, take, drop, set, length-append, get_or-append}
use lib.Bits.{bit_or}
use lib.Seq.{take_at, drop_at, get_or_at, get_or-append-add, set_split, append_snoc}
use borrow.Author.Tests.{ne_eqb}
use Rattle.record.specs.Tree.{Tree, size_of}
use Rattle.record.specs.Tree.Tree.{Constant, Variable, Unary, Binary}
use Rattle.base.specs.Choice.{when}
use Rattle.base.specs.Put.{put}
use Rattle.record.proofs.EncodeLaws.{size_of_pos}
use Rattle.expr_utils.specs.Utils.{has_kind, has_var_dep, is_arith, has_arith}
use Rattle.ways.specs.Marks.{mark_number, mark_of, root_mark, mark_variable, mark_arith, marks_of}

pub length_marks : (t : Tree) → length (marks_of t) ≡ size_of t
unfolding marks_of size_of
length_marks (Constant v) = refl
length_marks (Variable i) = refl
length_marks (Unary k a t) = simp length-append (omega (arith, length_marks t))
length_marks (Binary k l r) = simp length-append (omega (arith, length_marks l, length_marks r))

-- the last mark is the tree's own; n is its place
pub root_mark_lem : (t : Tree) (n : ℕ) → n + 1 ≡ size_of t → get_or (marks_of t) n 0 ≡ mark_of t
unfolding marks_of size_of
root_mark_lem (Constant v) n e = get_or_at [] (mark_of (Constant v)) [] 0 n (omega arith)
root_mark_lem (Variable i) n e = get_or_at [] (mark_of (Variable i)) [] 0 n (omega arith)
root_mark_lem (Unary k a t) n e =
    get_or_at (marks_of t) (mark_of (Unary k a t)) [] 0 n (omega (arith, length_marks t))
root_mark_lem (Binary k l r) n e =
    get_or_at (marks_of l ++ marks_of r) (mark_of (Binary k l r)) [] 0 n
    (length-append (marks_of l) (marks_of r) ∙ omega (arith, length_marks l, length_marks r))

-- the marks of the only child of a root
pub body_marks : (k a : ℕ) (t : Tree) (n : ℕ) → n ≡ size_of t → take n (marks_of (Unary k a t)) ≡ marks_of t
unfolding marks_of
body_marks k a t n e = take_at (marks_of t) (mark_of (Unary k a t) ∷ []) n (length_marks t ∙ sym e)

-- one of its marks
pub mark_in_child : (k a : ℕ) (t : Tree) (n : ℕ) → n < size_of t → get_or (marks_of (Unary k a t)) n 0 ≡ get_or (marks_of t) n 0
unfolding marks_of
mark_in_child k a t n h = get_or-append (marks_of t) (mark_of (Unary k a t) ∷ []) 0 n (omega (arith, length_marks t))

-- the marks of the two children of a root, and their own marks
module _ (k : ℕ) (l r : Tree) (n : ℕ) where
  apart : marks_of (Binary k l r) ≡ marks_of l ++ (marks_of r ++ (mark_of (Binary k l r) ∷ []))
  unfolding marks_of
  apart = append_assoc (marks_of l) (marks_of r) (mark_of (Binary k l r) ∷ [])

  pub left_marks : n ≡ size_of l → take n (marks_of (Binary k l r)) ≡ marks_of l
  left_marks e =
      ap (take n) apart
      ∙ take_at (marks_of l) (marks_of r ++ (mark_of (Binary k l r) ∷ [])) n (length_marks l ∙ sym e)

  pub right_marks : n ≡ size_of r → take n (drop (size_of l) (marks_of (Binary k l r))) ≡ marks_of r
  right_marks e =
      ap (λ (m : List ℕ). take n (drop (size_of l) m)) apart
      ∙ ap (take n) (drop_at (marks_of l) (marks_of r ++ (mark_of (Binary k l r) ∷ [])) (size_of l) (length_marks l))
      ∙ take_at (marks_of r) (mark_of (Binary k l r) ∷ []) n (length_marks r ∙ sym e)

  -- a mark of the left child, and one of the right, whose number there is i
  pub mark_in_left : n < size_of l → get_or (marks_of (Binary k l r)) n 0 ≡ get_or (marks_of l) n 0
  mark_in_left h =
      ap (λ (m : List ℕ). get_or m n 0) apart
      ∙ get_or-append (marks_of l) (marks_of r ++ (mark_of (Binary k l r) ∷ [])) 0 n (omega (arith, length_marks l))

  pub mark_in_right : (i : ℕ) → n ≡ size_of l + i → i < size_of r → get_or (marks_of (Binary k l r)) n 0 ≡ get_or (marks_of r) i 0
  mark_in_right i e h =
      let at : n ≡ length (marks_of l) + i = omega (arith, length_marks l) in
      ap (λ (m : List ℕ). get_or m n 0) apart
      ∙ ap (λ (j : ℕ). get_or (marks_of l ++ (marks_of r ++ (mark_of (Binary k l r) ∷ []))) j 0) at
      ∙ get_or-append-add (marks_of l) (marks_of r ++ (mark_of (Binary k l r) ∷ [])) i 0
      ∙ get_or-append (marks_of r) (mark_of (Binary k l r) ∷ []) 0 i (omega (arith, length_marks r))

  pub left_mark : n + 1 ≡ size_of l → get_or (marks_of (Binary k l r)) n 0 ≡ mark_of l
  left_mark e = mark_in_left (omega arith) ∙ root_mark_lem l n e

  pub right_mark : n + 1 ≡ size_of l + size_of r → get_or (marks_of (Binary k l r)) n 0 ≡ mark_of r
  right_mark e =
      let p : 1 ≤ size_of r = size_of_pos r in
      mark_in_right (size_of r - 1) (omega arith) (omega arith) ∙ root_mark_lem r (size_of r - 1) (omega arith)

-- the tests of a mark
number_variable : (a b : Bool) → mark_variable (mark_number a b) ≡ a
unfolding mark_variable mark_number
number_variable true true = refl
number_variable true false = refl
number_variable false true = refl
number_variable false false = refl

number_arith : (a b : Bool) → mark_arith (mark_number a b) ≡ b
unfolding mark_arith mark_number
number_arith true true = refl
number_arith true false = refl
number_arith false true = refl
number_arith false false = refl

pub mark_variable_lem : (t : Tree) → mark_variable (mark_of t) ≡ has_var_dep t
unfolding mark_of
mark_variable_lem t = number_variable (has_var_dep t) (has_arith t)

pub mark_arith_lem : (t : Tree) → mark_arith (mark_of t) ≡ has_arith t
unfolding mark_of
mark_arith_lem t = number_arith (has_var_dep t) (has_arith t)

-- the mark of a root from those of its children
number_or : (a b c d : Bool) → bit_or (mark_number a b) (mark_number c d) ≡ mark_number (a || c) (b || d)
unfolding mark_number
number_or true true true true = refl
number_or true true true false = refl
number_or true true false true = refl
number_or true true false false = refl
number_or true false true true = refl
number_or true false true false = refl
number_or true false false true = refl
number_or true false false false = refl
number_or false true true true = refl
number_or false true true false = refl
number_or false true false true = refl
number_or false true false false = refl
number_or false false true true = refl
number_or false false true false = refl
number_or false false false true = refl
number_or false false false false = refl

number_root : (h a b : Bool)
    → when h (λ _. bit_or (mark_number a b) 2) (λ _. mark_number a b) ≡ mark_number a (h || b)
unfolding mark_number
number_root true true true = refl
number_root true true false = refl
number_root true false true = refl
number_root true false false = refl
number_root false a b = refl

pub mark_one : (k a : ℕ) (t : Tree) → 2 ≤ k → root_mark k (mark_of t) ≡ mark_of (Unary k a t)
unfolding root_mark mark_of has_kind has_arith
mark_one k a t h = simp (ne_eqb k 1 (omega arith)) (number_root (is_arith k) (has_var_dep t) (has_arith t))

pub mark_two : (k : ℕ) (l r : Tree) → 2 ≤ k → root_mark k (bit_or (mark_of l) (mark_of r)) ≡ mark_of (Binary k l r)
unfolding root_mark mark_of has_kind has_arith
mark_two k l r h =
    simp (ne_eqb k 1 (omega arith))
    (ap (λ (m : ℕ). when (is_arith k) (λ _. bit_or m 2) (λ _. m))
    (number_or (has_var_dep l) (has_arith l) (has_var_dep r) (has_arith r))
    ∙ number_root (is_arith k) (has_var_dep l || has_var_dep r) (has_arith l || has_arith r))

-- one element put
pub put_one : (d : List ℕ) (i x : ℕ) → i < length d → set d i x ≡ put d i (x ∷ [])
unfolding put
put_one d i x h = rw add-one (set_split d i x h ∙ sym (append_snoc (take i d) x (drop (suc i) d)))
