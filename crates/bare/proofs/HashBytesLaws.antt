-- Trees with the same bytes have the same hash, whatever the trees: a literal counts modulo 2 ^ 64 in both, and the size
-- fields tell where a child ends.
use mathlib.Core.Path.{◌≡◌, refl, ap, ap₂, sym, ◌∙◌}
use Prim.Native.Nat.{ℕ, ◌+◌, ◌*◌, ◌/◌, ◌%◌, ◌^◌}
use native.Mathlib.Omega.{arith}
use mathlib.Core.List.{List, [], ◌++◌, append_assoc}
use lib.ListN.{length, take, drop, length-append}
use lib.Bits.{bit_xor}
use lib.Pow.{field, mod-mod-pow}
use lib.Seq.{take_at, drop_at}
use Rattle.arith.proofs.CongruenceLaws.{eqm_mul_r}
use Rattle.record.specs.Fields.{kind, byte1, var_index, size, literal}
use Rattle.record.specs.Span.{body}
use Rattle.record.specs.Tree.{Tree, size_of, record_bytes, encode}
use Rattle.record.specs.Tree.Tree.{Constant, Variable, Unary, Binary}
use Rattle.record.proofs.BytesLaws.{kind_record, byte1_record, size_record, literal_record, body_record}
use Rattle.record.proofs.VariableLaws.{kind_variable, size_variable, index_variable}
use Rattle.record.proofs.EncodeLaws.{length_encode, size_encode, size_of_pos}
use Rattle.expr.specs.Hash.{mix_hash, tag_hash, var_hash, structural_hash}

-- ---- a literal

-- a byte of a number is that of its low bits
byte_low : (v j k : ℕ) → v / 2 ^ k % 2 ^ 8 ≡ v % 2 ^ (j + 8 + k) / 2 ^ k % 2 ^ 8
byte_low v j k =
    sym (mod-mod-pow (v / 2 ^ k) j 8) ∙ ap (λ (n : ℕ). n % 2 ^ 8) (sym (field v (j + 8) k))

cut_word : (w v : ℕ) → record_bytes 0 0 1 w v ≡ record_bytes 0 0 1 w (v % 2 ^ 64)
unfolding record_bytes
cut_word w v =
    let d0 : v % 256 ≡ v % 2 ^ 64 % 256 = sym (mod-mod-pow v 56 8) in
    let d1 : v / 2 ^ 8 % 256 ≡ v % 2 ^ 64 / 2 ^ 8 % 256 = byte_low v 48 8 in
    let d2 : v / 2 ^ 16 % 256 ≡ v % 2 ^ 64 / 2 ^ 16 % 256 = byte_low v 40 16 in
    let d3 : v / 2 ^ 24 % 256 ≡ v % 2 ^ 64 / 2 ^ 24 % 256 = byte_low v 32 24 in
    let d4 : v / 2 ^ 32 % 256 ≡ v % 2 ^ 64 / 2 ^ 32 % 256 = byte_low v 24 32 in
    let d5 : v / 2 ^ 40 % 256 ≡ v % 2 ^ 64 / 2 ^ 40 % 256 = byte_low v 16 40 in
    let d6 : v / 2 ^ 48 % 256 ≡ v % 2 ^ 64 / 2 ^ 48 % 256 = byte_low v 8 48 in
    let d7 : v / 2 ^ 56 % 256 ≡ v % 2 ^ 64 / 2 ^ 56 % 256 = byte_low v 0 56 in
    cc

word_same : (w v x : ℕ) → record_bytes 0 0 1 w v ≡ record_bytes 0 0 1 w x → v % 2 ^ 64 ≡ x % 2 ^ 64
word_same w v x e =
    sym (literal_record [] 0 0 1 w (v % 2 ^ 64) (omega arith))
    ∙ ap literal (sym (cut_word w v) ∙ e ∙ cut_word w x)
    ∙ literal_record [] 0 0 1 w (x % 2 ^ 64) (omega arith)

product_same : (v x : ℕ) → v % 2 ^ 64 ≡ x % 2 ^ 64
    → v * 0x9E37_79B9_7F4A_7C15 % 2 ^ 64 ≡ x * 0x9E37_79B9_7F4A_7C15 % 2 ^ 64
product_same v x h = (eqm_mul_r 0x9E37_79B9_7F4A_7C15 (record { eqm = h })).eqm

literal_hash : (w v x : ℕ) → record_bytes 0 0 1 w v ≡ record_bytes 0 0 1 w x → tag_hash 0 v ≡ tag_hash 0 x
unfolding tag_hash
literal_hash w v x e = ap (bit_xor 0) (product_same v x (word_same w v x e))

-- ---- the sizes

sizes_same : (w : ℕ) (t u : Tree) → encode w t ≡ encode w u → size_of t ≡ size_of u
sizes_same w t u e = sym (size_encode w t) ∙ ap size e ∙ size_encode w u

-- behind other bytes
size_behind : (w : ℕ) (s : List ℕ) (t : Tree) → size (s ++ encode w t) ≡ size_of t
unfolding encode size_of
size_behind w s (Constant v) = size_record s 0 0 1 w v
size_behind w s (Variable i) = size_variable w i s
size_behind w s (Unary k a t) =
    ap size (sym (append_assoc s (encode w t) (record_bytes k a (size_of t + 1) w 0)))
    ∙ size_record (s ++ encode w t) k a (size_of t + 1) w 0
size_behind w s (Binary k l r) =
    ap size (sym (append_assoc s (encode w l ++ encode w r) (record_bytes k 0 (size_of l + size_of r + 1) w 0)))
    ∙ size_record (s ++ (encode w l ++ encode w r)) k 0 (size_of l + size_of r + 1) w 0

-- one child is not two
one_two : (w : ℕ) (t l r : Tree) → encode w t ≡ encode w l ++ encode w r → ⊥
one_two w t l r e =
    omega (
      arith,
      sym (size_encode w t) ∙ ap size e ∙ size_behind w (encode w l) r,
      ap length e,
      length-append (encode w l) (encode w r),
      length_encode w t,
      length_encode w l,
      length_encode w r,
      size_of_pos l,
    )

-- two children are those of the same bytes
module _ (w : ℕ) (l r m s : Tree) (e : encode w l ++ encode w r ≡ encode w m ++ encode w s) where
  left_length : length (encode w m) ≡ length (encode w l)
  left_length =
      omega (
        arith,
        sym (size_behind w (encode w l) r) ∙ ap size e ∙ size_behind w (encode w m) s,
        ap length e,
        length-append (encode w l) (encode w r),
        length-append (encode w m) (encode w s),
        length_encode w r,
        length_encode w s,
      )

  lefts_same : encode w l ≡ encode w m
  lefts_same =
      sym (take_at (encode w l) (encode w r) (length (encode w l)) refl)
      ∙ ap (take (length (encode w l))) e
      ∙ take_at (encode w m) (encode w s) (length (encode w l)) left_length

  rights_same : encode w r ≡ encode w s
  rights_same =
      sym (drop_at (encode w l) (encode w r) (length (encode w l)) refl)
      ∙ ap (drop (length (encode w l))) e
      ∙ drop_at (encode w m) (encode w s) (length (encode w l)) left_length

-- ---- the hash

pub same_hash : (w : ℕ) (t u : Tree) → encode w t ≡ encode w u → structural_hash t ≡ structural_hash u
unfolding encode size_of structural_hash
same_hash w (Constant v) (Constant x) e = literal_hash w v x e
same_hash w (Constant v) (Variable i) e =
    absurd (omega (arith, kind_record [] 0 0 1 w v, kind_variable w i, ap kind e))
same_hash w (Constant v) (Unary k a u) e =
    absurd (omega (arith, sizes_same w (Constant v) (Unary k a u) e, size_of_pos u))
same_hash w (Constant v) (Binary k l r) e =
    absurd (omega (arith, sizes_same w (Constant v) (Binary k l r) e, size_of_pos l))
same_hash w (Variable i) (Constant x) e =
    absurd (omega (arith, kind_variable w i, kind_record [] 0 0 1 w x, ap kind e))
same_hash w (Variable i) (Variable j) e =
    ap var_hash (sym (index_variable w i) ∙ ap var_index e ∙ index_variable w j)
same_hash w (Variable i) (Unary k a u) e =
    absurd (omega (arith, sizes_same w (Variable i) (Unary k a u) e, size_of_pos u))
same_hash w (Variable i) (Binary k l r) e =
    absurd (omega (arith, sizes_same w (Variable i) (Binary k l r) e, size_of_pos l))
same_hash w (Unary k a t) (Constant x) e =
    absurd (omega (arith, sizes_same w (Unary k a t) (Constant x) e, size_of_pos t))
same_hash w (Unary k a t) (Variable j) e =
    absurd (omega (arith, sizes_same w (Unary k a t) (Variable j) e, size_of_pos t))
same_hash w (Unary k a t) (Unary m b u) e =
    let f : List ℕ = encode w t in
    let g : List ℕ = encode w u in
    let x : ℕ = size_of t + 1 in
    let y : ℕ = size_of u + 1 in
    let hk : k ≡ m = sym (kind_record f k a x w 0) ∙ ap kind e ∙ kind_record g m b y w 0 in
    let ha : a ≡ b = sym (byte1_record f k a x w 0) ∙ ap byte1 e ∙ byte1_record g m b y w 0 in
    let hb : f ≡ g = sym (body_record f k a x w 0) ∙ ap body e ∙ body_record g m b y w 0 in
    ap₂ mix_hash (ap₂ tag_hash hk ha) (same_hash w t u hb)
same_hash w (Unary k a t) (Binary m l r) e =
    absurd
    (one_two w t l r
    (sym (body_record (encode w t) k a (size_of t + 1) w 0) ∙ ap body e
    ∙ body_record (encode w l ++ encode w r) m 0 (size_of l + size_of r + 1) w 0))
same_hash w (Binary k l r) (Constant x) e =
    absurd (omega (arith, sizes_same w (Binary k l r) (Constant x) e, size_of_pos l))
same_hash w (Binary k l r) (Variable j) e =
    absurd (omega (arith, sizes_same w (Binary k l r) (Variable j) e, size_of_pos l))
same_hash w (Binary k l r) (Unary m b u) e =
    absurd
    (one_two w u l r
    (sym (body_record (encode w u) m b (size_of u + 1) w 0) ∙ ap body (sym e)
    ∙ body_record (encode w l ++ encode w r) k 0 (size_of l + size_of r + 1) w 0))
same_hash w (Binary k l r) (Binary m p s) e =
    let f : List ℕ = encode w l ++ encode w r in
    let g : List ℕ = encode w p ++ encode w s in
    let x : ℕ = size_of l + size_of r + 1 in
    let y : ℕ = size_of p + size_of s + 1 in
    let hk : k ≡ m = sym (kind_record f k 0 x w 0) ∙ ap kind e ∙ kind_record g m 0 y w 0 in
    let hb : f ≡ g = sym (body_record f k 0 x w 0) ∙ ap body e ∙ body_record g m 0 y w 0 in
    ap₂ mix_hash (ap₂ mix_hash hk (same_hash w l p (lefts_same w l r p s hb))) (same_hash w r s (rights_same w l r p s hb))
