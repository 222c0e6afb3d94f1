-- Laws of `variable_bytes` (specs/Tree.antt): what is read of a variable's record, and sixteen bytes of the kind
-- Variable are the record of their number.
use mathlib.Core.Path.{◌≡◌, refl}
use Prim.Native.Nat.{ℕ, ◌+◌, ◌-◌, ◌*◌, ◌/◌, ◌%◌, ◌^◌, ◌<◌}
use native.Mathlib.Omega.{arith}
use mathlib.Core.List.{List, [], ◌∷◌, ◌++◌}
use lib.ListN.{length, get_or, length-append}
use lib.Seq.{get_or-append-add}
use lib.Dec.{lit<}
use Rattle.base.specs.Limits.{var_limit}
use Rattle.record.specs.Fields.{u16, u32, u64, kind, byte1, byte5, var_index, size, width, spare_high, literal}
use Rattle.record.specs.Tree.{record_bytes, variable_bytes, IsBytes}
use Rattle.record.proofs.BytesLaws.{each, bytes_each}

module _ (w i : ℕ) where
  pub length_variable : length (variable_bytes w i) ≡ 16
  unfolding variable_bytes
  length_variable = refl

  pub kind_variable : kind (variable_bytes w i) ≡ 1
  unfolding kind variable_bytes
  kind_variable = refl

  pub width_variable : width (variable_bytes w i) ≡ w
  unfolding width variable_bytes
  width_variable = refl

  pub index_variable : var_index (variable_bytes w i) ≡ i
  unfolding var_index byte1 byte5 variable_bytes
  index_variable = omega arith

  pub spare_high_variable : spare_high (variable_bytes w i) ≡ 0
  unfolding spare_high u16 variable_bytes
  spare_high_variable = refl

  pub literal_variable : literal (variable_bytes w i) ≡ 0
  unfolding literal u64 u32 u16 variable_bytes
  literal_variable = refl

  -- the size, also behind other bytes
  pub size_variable : (f : List ℕ) → size (f ++ variable_bytes w i) ≡ 1
  unfolding size u16 variable_bytes
  size_variable f =
      let l : ℕ = length (f ++ variable_bytes w i) in
      let e : l ≡ length f + 16 = length-append f (variable_bytes w i) in
      let p : get_or (f ++ variable_bytes w i) (l - 14) 0 ≡ 1 = at 2 (l - 14) (omega arith) in
      let q : get_or (f ++ variable_bytes w i) (l - 14 + 1) 0 ≡ 0 = at 3 (l - 14 + 1) (omega arith) in
      rw (p, q)
    where
      at : (k j : ℕ) → j ≡ length f + k → get_or (f ++ variable_bytes w i) j 0 ≡ get_or (variable_bytes w i) k 0
      at k j e = rw e (get_or-append-add f (variable_bytes w i) k 0)

  pub bytes_variable : i < var_limit → w < 256 → IsBytes (variable_bytes w i)
  unfolding variable_bytes
  bytes_variable hi hw =
      let z : 0 < 256 = lit< tt in
      let one : 1 < 256 = lit< tt in
      let low : i % 256 < 256 = omega arith in
      let high : i / 2 ^ 8 < 256 = omega arith in
      bytes_each (variable_bytes w i)
      (one, (low, (one, (z, (hw, (high, (z, (z, (z, (z, (z, (z, (z, (z, (z, (z, tt))))))))))))))))

  -- a number of one byte has the record that it would have without byte 5
  pub variable_low : i < 256 → variable_bytes w i ≡ record_bytes 1 i 1 w 0
  unfolding variable_bytes record_bytes
  variable_low h =
      let low : i % 256 ≡ i = omega arith in
      let high : i / 2 ^ 8 ≡ 0 = omega arith in
      rw (low, high)

-- what is asked of sixteen bytes for being a variable's record
pub record VariableFields (s : List ℕ) : Type 0 where
  pub long : length s ≡ 16
  pub bytes : IsBytes s
  pub is_variable : kind s ≡ 1
  pub one : size s ≡ 1
  pub unused : spare_high s ≡ 0
  pub none : literal s ≡ 0

abbrev Rereads : List ℕ → Type 0
Rereads l =
    IsBytes l → get_or l 0 0 ≡ 1 → u16 l 2 ≡ 1 → u16 l 6 ≡ 0 → u64 l 8 ≡ 0
    → variable_bytes (get_or l 4 0) (get_or l 1 0 + get_or l 5 0 * 2 ^ 8) ≡ l

rereads : (l : List ℕ) → length l ≡ 16 → Rereads l
unfolding variable_bytes u16 u32 u64
rereads l e = each 16 Rereads go l e
  where
    go : (b0 b1 b2 b3 b4 b5 b6 b7 b8 b9 b10 b11 b12 b13 b14 b15 : ℕ)
        → Rereads (b0 ∷ b1 ∷ b2 ∷ b3 ∷ b4 ∷ b5 ∷ b6 ∷ b7 ∷ b8 ∷ b9 ∷ b10 ∷ b11 ∷ b12 ∷ b13 ∷ b14 ∷ b15 ∷ [])
    go b0 b1 b2 b3 b4 b5 b6 b7 b8 b9 b10 b11 b12 b13 b14 b15 h k n z v =
        let e1 : (b1 + b5 * 2 ^ 8) % 256 ≡ b1 = omega (arith, h 1) in
        let e5 : (b1 + b5 * 2 ^ 8) / 2 ^ 8 ≡ b5 = omega (arith, h 1) in
        let e2 : b2 ≡ 1 = omega (arith, h 2) in
        let e3 : b3 ≡ 0 = omega (arith, h 2) in
        let e6 : b6 ≡ 0 = omega arith in
        let e7 : b7 ≡ 0 = omega arith in
        let e8 : b8 ≡ 0 = omega arith in
        let e9 : b9 ≡ 0 = omega arith in
        let e10 : b10 ≡ 0 = omega arith in
        let e11 : b11 ≡ 0 = omega arith in
        let e12 : b12 ≡ 0 = omega arith in
        let e13 : b13 ≡ 0 = omega arith in
        let e14 : b14 ≡ 0 = omega arith in
        let e15 : b15 ≡ 0 = omega arith in
        cc

-- sixteen bytes of the kind Variable are the record of their number
pub variable_record : (s : List ℕ) → VariableFields s → variable_bytes (width s) (var_index s) ≡ s
unfolding kind byte1 byte5 var_index size width spare_high literal
variable_record s f =
    let len : length s ≡ 16 = f.long in
    let r : Rereads s = rereads s len in
    rw len
    (r f.bytes (rw len at f.is_variable) (rw len at f.one) (rw len at f.unused) (rw len at f.none))
