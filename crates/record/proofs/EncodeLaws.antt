-- Laws of `encode` and `decode`: the encoding of a tree has 16 bytes for each record, its size fields are right, and
-- it decodes to the tree.
use mathlib.Core.Path.{◌≡◌, refl, ap, sym, ◌∙◌}
use Prim.Native.Nat.{ℕ, ◌+◌, ◌-◌, ◌*◌, ◌≤◌, ◌<◌}
use native.Mathlib.Omega.{arith}
use mathlib.Core.List.{List, [], ◌++◌, append_assoc}
use mathlib.Core.Bool.{true}
use lib.ListN.{length, get_or, drop, length-append, get_or-append}
use lib.Seq.{get_or-append-add, take_at, drop_at}
use borrow.Author.Tests.{eq-eqb, le-ltb}
use Rattle.record.specs.Fields.{u16, kind, byte1, amount, size, width, arity}
use Rattle.record.specs.Tree.{Tree, record_bytes, encode, size_of, Encodable}
use Rattle.record.specs.Tree.Tree.{Constant, Variable, Unary, Binary}
use Rattle.record.specs.Span.{cut, body, left, right, sized}
use Rattle.record.specs.Decode.{leaf, decode}
use Rattle.record.proofs.SpanLaws.{fold_leaf, fold_one, fold_two}
use Rattle.record.proofs.BytesLaws.{length_record, record_big, kind_record, byte1_record, size_record}
use Rattle.record.proofs.BytesLaws.{width_record, literal_record, body_record}
use Rattle.record.proofs.VariableLaws.{length_variable, kind_variable, size_variable, width_variable}
use Rattle.record.proofs.VariableLaws.{index_variable}

pub length_encode : (w : ℕ) (t : Tree) → length (encode w t) ≡ size_of t * 16
unfolding encode size_of record_bytes
length_encode w (Constant v) = refl
length_encode w (Variable i) = length_variable w i
length_encode w (Unary k a t) = simp length-append (omega (arith, length_encode w t))
length_encode w (Binary k l r) = simp length-append (omega (arith, length_encode w l, length_encode w r))

pub size_of_pos : (t : Tree) → 1 ≤ size_of t
unfolding size_of
size_of_pos (Constant v) = omega arith
size_of_pos (Variable i) = omega arith
size_of_pos (Unary k a t) = omega arith
size_of_pos (Binary k l r) = omega arith

-- the size and the width of a tree's encoding are those of its last record
pub size_encode : (w : ℕ) (t : Tree) → size (encode w t) ≡ size_of t
unfolding encode size_of
size_encode w (Constant v) = size_record [] 0 0 1 w v
size_encode w (Variable i) = size_variable w i []
size_encode w (Unary k a t) = size_record (encode w t) k a (size_of t + 1) w 0
size_encode w (Binary k l r) = size_record (encode w l ++ encode w r) k 0 (size_of l + size_of r + 1) w 0

pub width_encode : (w : ℕ) (t : Tree) → width (encode w t) ≡ w
unfolding encode size_of
width_encode w (Constant v) = width_record [] 0 0 1 w v
width_encode w (Variable i) = width_variable w i
width_encode w (Unary k a t) = width_record (encode w t) k a (size_of t + 1) w 0
width_encode w (Binary k l r) = width_record (encode w l ++ encode w r) k 0 (size_of l + size_of r + 1) w 0

-- the children's spans of two encodings and a record
module _ (w : ℕ) (l r : Tree) (k n : ℕ) where
  abbrev joined : List ℕ
  joined = (encode w l ++ encode w r) ++ record_bytes k 0 n w 0

  length_joined : length joined ≡ length (encode w l) + length (encode w r) + 16
  unfolding record_bytes
  length_joined = simp length-append

  inner : (j i : ℕ) → j ≡ length (encode w l) + i → i < length (encode w r)
      → get_or joined j 0 ≡ get_or (encode w r) i 0
  inner j i e h =
      get_or-append (encode w l ++ encode w r) (record_bytes k 0 n w 0) 0 j (simp length-append (omega arith))
      ∙ rw e (get_or-append-add (encode w l) (encode w r) i 0)

  cut_joined : cut joined ≡ length (encode w l)
  unfolding cut u16 size
  cut_joined =
      let hl : length (encode w l) ≡ size_of l * 16 = length_encode w l in
      let hr : length (encode w r) ≡ size_of r * 16 = length_encode w r in
      let pl : 1 ≤ size_of l = size_of_pos l in
      let pr : 1 ≤ size_of r = size_of_pos r in
      let lt : length joined ≡ length (encode w l) + length (encode w r) + 16 = length_joined in
      let z : size (encode w r) ≡ size_of r = size_encode w r in
      let x : get_or joined (length joined - 30) 0 ≡ get_or (encode w r) (length (encode w r) - 14) 0 =
      inner _ _ (omega arith) (omega arith) in
      let y : get_or joined (length joined - 30 + 1) 0 ≡ get_or (encode w r) (length (encode w r) - 14 + 1) 0 =
      inner _ _ (omega arith) (omega arith) in
      simp (le-ltb (length joined) 32 (omega arith)) (omega arith)

  pub left_joined : left joined ≡ encode w l
  unfolding left
  left_joined =
      rw cut_joined
      (rw append_assoc (take_at (encode w l) (encode w r ++ record_bytes k 0 n w 0) (length (encode w l)) refl))

  drop_joined : drop (length (encode w l)) joined ≡ encode w r ++ record_bytes k 0 n w 0
  drop_joined =
      rw append_assoc (drop_at (encode w l) (encode w r ++ record_bytes k 0 n w 0) (length (encode w l)) refl)

  pub right_joined : right joined ≡ encode w r
  unfolding right
  right_joined =
      rw (cut_joined, drop_joined)
      (take_at (encode w r) (record_bytes k 0 n w 0) (length joined - 16 - length (encode w l))
      (omega (arith, length_joined)))

-- an encoding's size fields are right, and it decodes to its tree
pub record Encoded (w : ℕ) (t : Tree) : Type 0 where
  pub ok : sized (encode w t) ≡ true
  pub back : decode (encode w t) ≡ t

module _ (w : ℕ) where
  encoded_leaf : (t : Tree) → length (encode w t) ≡ 16 → arity (kind (encode w t)) ≡ 0 → size (encode w t) ≡ 1
      → leaf (encode w t) ≡ t → Encoded w t
  encoded_leaf t len ar one lf =
      let s : List ℕ = encode w t in
      let big : 16 ≤ length s = omega arith in
      record {
        ok = fold_leaf _ _ _ _ s big ar ∙ simp (one, eq-eqb 16 (length s) (sym len), len);
        back = fold_leaf _ _ _ _ s big ar ∙ lf;
      }

  encoded_one : (k a : ℕ) (t : Tree) → arity k ≡ 1 → Encoded w t → Encoded w (Unary k a t)
  unfolding encode amount
  encoded_one k a t e below =
      let n : ℕ = size_of t + 1 in
      let s : List ℕ = encode w t ++ record_bytes k a n w 0 in
      let big : 16 ≤ length s = record_big (encode w t) k a n w 0 in
      let hk : kind s ≡ k = kind_record (encode w t) k a n w 0 in
      let ha : byte1 s ≡ a = byte1_record (encode w t) k a n w 0 in
      let hn : size s ≡ n = size_record (encode w t) k a n w 0 in
      let hb : body s ≡ encode w t = body_record (encode w t) k a n w 0 in
      let ar : arity (kind s) ≡ 1 = ap arity hk ∙ e in
      let len : n * 16 ≡ length s = omega (arith, length_record (encode w t) k a n w 0, length_encode w t) in
      record {
        ok = fold_one _ _ _ _ s big ar ∙ simp (hn, eq-eqb (n * 16) (length s) len, hb, below.ok);
        back = fold_one _ _ _ _ s big ar ∙ simp (hk, ha, hb, below.back);
      }

  encoded_two : (k : ℕ) (l r : Tree) → arity k ≡ 2 → Encoded w l → Encoded w r → Encoded w (Binary k l r)
  unfolding encode
  encoded_two k l r e below-l below-r =
      let n : ℕ = size_of l + size_of r + 1 in
      let f : List ℕ = encode w l ++ encode w r in
      let s : List ℕ = f ++ record_bytes k 0 n w 0 in
      let big : 16 ≤ length s = record_big f k 0 n w 0 in
      let hk : kind s ≡ k = kind_record f k 0 n w 0 in
      let hn : size s ≡ n = size_record f k 0 n w 0 in
      let ar : arity (kind s) ≡ 2 = ap arity hk ∙ e in
      let hl : left s ≡ encode w l = left_joined w l r k n in
      let hr : right s ≡ encode w r = right_joined w l r k n in
      let len : n * 16 ≡ length s = omega (arith, length_joined w l r k n, length_encode w l, length_encode w r) in
      record {
        ok =
            fold_two _ _ _ _ s big (omega arith) (omega arith)
            ∙ simp (hn, eq-eqb (n * 16) (length s) len, hl, hr, below-l.ok, below-r.ok);
        back =
            fold_two _ _ _ _ s big (omega arith) (omega arith)
            ∙ simp (hk, hl, hr, below-l.back, below-r.back);
      }

  pub encoded : (t : Tree) → Encodable t → Encoded w t
  unfolding encode Encodable arity leaf
  encoded (Constant v) h =
      encoded_leaf (Constant v) (length_record [] 0 0 1 w v) (ap arity (kind_record [] 0 0 1 w v))
      (size_record [] 0 0 1 w v) (simp (kind_record [] 0 0 1 w v, literal_record [] 0 0 1 w v h))
  encoded (Variable i) h =
      encoded_leaf (Variable i) (length_variable w i) (ap arity (kind_variable w i)) (size_variable w i [])
      (simp (kind_variable w i, index_variable w i))
  encoded (Unary k a t) h = encoded_one k a t h.0 (encoded t h.1)
  encoded (Binary k l r) h = encoded_two k l r h.0 (encoded l h.1) (encoded r h.2)

-- trees with the same bytes are the same tree
pub encode_injective : (w : ℕ) (t u : Tree) → Encodable t → Encodable u → encode w t ≡ encode w u → t ≡ u
encode_injective w t u ht hu e = sym (encoded w t ht).back ∙ ap decode e ∙ (encoded w u hu).back
