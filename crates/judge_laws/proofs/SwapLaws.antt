-- Four assignments of which, at each place, the first two have the bits of the other two: a bitwise tree has the same
-- sum under both pairs.
use mathlib.Core.Path.{◌≡◌, sym, ◌∙◌}
use Prim.Native.Nat.{ℕ, zero, suc, ◌+◌, ◌/◌, ◌%◌, ◌^◌, ◌<◌}
use native.Mathlib.Nat.{zero-lt-suc}
use native.Mathlib.Omega.{arith}
use mathlib.Core.List.{List}
use lib.ListN.{get_or}
use lib.Arith.{lt-one}
use Rattle.arith.specs.Bit.{bit_at}
use Rattle.arith.proofs.BitLaws.{bit_zero, bit_suc}
use Rattle.record.specs.Tree.{Tree}
use Rattle.expr.specs.Value.{value}
use Rattle.expr.proofs.ValueLaws.{value_lt}
use Rattle.truth.proofs.BitwiseLaws.{Bitwise}
use Rattle.truth.proofs.BitOfLaws.{bit_value, bit_of_agree}

-- numbers of w bits whose bits have the same sum at each place have the same sum
pub bits_sum : (w a b x y : ℕ) → a < 2 ^ w → b < 2 ^ w → x < 2 ^ w → y < 2 ^ w
    → ((p : ℕ) → p < w → bit_at a p + bit_at b p ≡ bit_at x p + bit_at y p) → a + b ≡ x + y
bits_sum zero a b x y ha hb hx hy e = omega (arith, lt-one ha, lt-one hb, lt-one hx, lt-one hy)
bits_sum (suc w) a b x y ha hb hx hy e =
    let lows : a % 2 + b % 2 ≡ x % 2 + y % 2 =
    omega (arith, e 0 (zero-lt-suc w), bit_zero a, bit_zero b, bit_zero x, bit_zero y) in
    let highs : a / 2 + b / 2 ≡ x / 2 + y / 2 =
    bits_sum w (a / 2) (b / 2) (x / 2) (y / 2) (omega arith) (omega arith) (omega arith) (omega arith)
    (λ p h. omega (arith, e (suc p) (omega arith), bit_suc a p, bit_suc b p, bit_suc x p, bit_suc y p)) in
    omega (arith, lows, highs)

-- every variable has the same bit at place p
pub record SameBits (a b : List ℕ) (p : ℕ) : Type 0 where
  pub bits : (v : ℕ) → bit_at (get_or a v 0) p ≡ bit_at (get_or b v 0) p

-- at place p the bits of a and b are those of x and y, or those of y and x
pub data Crossing (a b x y : List ℕ) (p : ℕ) : Type 0 where
  straight : SameBits a x p → SameBits b y p → Crossing a b x y p
  crossed : SameBits a y p → SameBits b x p → Crossing a b x y p

-- and so at each place below w
abbrev pub Swapped : ℕ → List ℕ → List ℕ → List ℕ → List ℕ → Type 0
Swapped w a b x y = (p : ℕ) → p < w → Crossing a b x y p

module _ (w : ℕ) (t : Tree) (bits : Bitwise t) where
  same_bit : (a b : List ℕ) (p : ℕ) → p < w → SameBits a b p → bit_at (value w a t) p ≡ bit_at (value w b t) p
  same_bit a b p hp s =
      bit_value w p hp a t bits
      ∙ bit_of_agree w p (λ i. bit_at (get_or a i 0) p) (λ i. bit_at (get_or b i 0) p) t (λ i o. s.bits i)
      ∙ sym (bit_value w p hp b t bits)

  pub bitwise_swapped : (a b x y : List ℕ) → Swapped w a b x y
      → value w a t + value w b t ≡ value w x t + value w y t
  bitwise_swapped a b x y s =
      bits_sum w (value w a t) (value w b t) (value w x t) (value w y t)
      (value_lt w a t) (value_lt w b t) (value_lt w x t) (value_lt w y t) (λ p hp. at_place p hp (s p hp))
    where
      at_place : (p : ℕ) → p < w → Crossing a b x y p
          → bit_at (value w a t) p + bit_at (value w b t) p ≡ bit_at (value w x t) p + bit_at (value w y t) p
      at_place p hp (straight f g) = omega (arith, same_bit a x p hp f, same_bit b y p hp g)
      at_place p hp (crossed f g) = omega (arith, same_bit a y p hp f, same_bit b x p hp g)
