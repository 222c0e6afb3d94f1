-- Laws of specs/Hash.antt: the sum of `mix_hash` taken in steps, each modulo 2 ^ 64, the hash of a tree from its
-- children's, and that hashes have 64 bits.
use Rattle.std.proofs.Common.{◌≡◌, ℕ, ◌+◌, ◌*◌, ◌/◌, ◌%◌, ◌^◌, ◌<◌, true, ap, ◌∙◌, ap₂, arith, lit<}
use lib.Bits.{bit_xor, xor_lt}
use Rattle.record.specs.Tree.{Tree}
use Rattle.record.specs.Tree.Tree.{Constant, Variable, Unary, Binary}
use Rattle.expr_refusal.specs.Refusal.{is_expr}
use Rattle.expr.specs.Hash.{mix_hash, tag_hash, var_hash, structural_hash}
use Rattle.expr.proofs.IsExprLaws.{unary_of_expr, binary_of_expr}

pub mix_hash_sum : (h x : ℕ) {p q r : ℕ} → p ≡ (x + 0x9E37_79B9_7F4A_7C15) % 2 ^ 64
    → q ≡ (p + h * 2 ^ 6 % 2 ^ 64) % 2 ^ 64 → r ≡ (q + h / 2 ^ 2) % 2 ^ 64 → bit_xor h r ≡ mix_hash h x
unfolding mix_hash
mix_hash_sum h x {p} {q} {r} e f g = ap (bit_xor h) (sum (h * 2 ^ 6 % 2 ^ 64) (h / 2 ^ 2) f g)
  where
    sum : (y z : ℕ) → q ≡ (p + y) % 2 ^ 64 → r ≡ (q + z) % 2 ^ 64
        → r ≡ (x + 0x9E37_79B9_7F4A_7C15 + y + z) % 2 ^ 64
    sum y z f g = omega arith

-- each number is given by what it is equal to, as the contracts of the walk give them
pub hash_one : (t : Tree) {i k a b x g h : ℕ} → i ≡ k → a ≡ b → x ≡ structural_hash t → g ≡ tag_hash i a
    → h ≡ mix_hash g x → h ≡ structural_hash (Unary k b t)
unfolding structural_hash
hash_one t ei ea ex eg eh = eh ∙ ap₂ mix_hash (eg ∙ ap₂ tag_hash ei ea) ex

pub hash_two : (l r : Tree) {i k x y g h : ℕ} → i ≡ k → x ≡ structural_hash l → y ≡ structural_hash r
    → g ≡ mix_hash i x → h ≡ mix_hash g y → h ≡ structural_hash (Binary k l r)
unfolding structural_hash
hash_two l r ei ex ey eg eh = eh ∙ ap₂ mix_hash (eg ∙ ap₂ mix_hash ei ex) ey

-- ---- 64 bits

mod_lt_64 : (x : ℕ) → x % 2 ^ 64 < 2 ^ 64
mod_lt_64 x = omega arith

mix_hash_lt : (h x : ℕ) → h < 2 ^ 64 → mix_hash h x < 2 ^ 64
unfolding mix_hash
mix_hash_lt h x l = xor_lt 64 h _ l (mod_lt_64 _)

tag_hash_lt : (k v : ℕ) → k < 2 ^ 64 → tag_hash k v < 2 ^ 64
unfolding tag_hash
tag_hash_lt k v l = xor_lt 64 k _ l (mod_lt_64 _)

var_hash_lt : (i : ℕ) → var_hash i < 2 ^ 64
unfolding var_hash
var_hash_lt i = xor_lt 64 1 _ (lit< tt) (mod_lt_64 _)

pub structural_hash_lt : (t : Tree) → is_expr t ≡ true → structural_hash t < 2 ^ 64
unfolding structural_hash
structural_hash_lt (Constant v) e = tag_hash_lt 0 v (lit< tt)
structural_hash_lt (Variable i) e = var_hash_lt i
structural_hash_lt (Unary k a t) e =
    let u = unary_of_expr k a t e in
    mix_hash_lt (tag_hash k a) (structural_hash t) (tag_hash_lt k a (omega (arith, u.high)))
structural_hash_lt (Binary k l r) e =
    let b = binary_of_expr k l r e in
    let x : ℕ = structural_hash l in
    mix_hash_lt (mix_hash k x) (structural_hash r) (mix_hash_lt k x (omega (arith, b.high)))
