-- Laws of `record_bytes` and of the readers: what is read of a span that ends in a record, and sixteen bytes are the
-- record of their fields.
use mathlib.Core.Path.{◌≡◌, ap, sym, ◌∙◌}
use Prim.Native.Nat.{ℕ, zero, suc, ◌+◌, ◌-◌, ◌*◌, ◌/◌, ◌%◌, ◌^◌, ◌≤◌, ◌<◌}
use native.Mathlib.Omega.{arith}
use mathlib.Core.List.{List, [], ◌∷◌, ◌++◌}
use lib.ListN.{length, get_or, take, drop, length-append, length-drop}
use lib.Seq.{get_or-append-add, get_or-drop, take_at}
use lib.Dec.{lit<}
use Rattle.record.specs.Fields.{u16, u32, u64, kind, byte1, byte5, var_index, size, width, literal}
use Rattle.record.specs.Fields.{spare_high, spare}
use Rattle.record.specs.Span.{cut, body, left, right}
use Rattle.record.specs.Tree.{record_bytes, IsBytes}
use Rattle.base.specs.Limits.{var_limit}

-- a number from its bytes
join_bytes : (v a b c d e f g x0 x1 x2 x3 x4 x5 x6 x7 : ℕ) → v ≡ x0 + 256 * a → a ≡ x1 + 256 * b → b ≡ x2 + 256 * c
    → c ≡ x3 + 256 * d → d ≡ x4 + 256 * e → e ≡ x5 + 256 * f → f ≡ x6 + 256 * g → g ≡ x7
    → x0 + x1 * 2 ^ 8 + (x2 + x3 * 2 ^ 8) * 2 ^ 16 + (x4 + x5 * 2 ^ 8 + (x6 + x7 * 2 ^ 8) * 2 ^ 16) * 2 ^ 32 ≡ v
join_bytes v a b c d e f g x0 x1 x2 x3 x4 x5 x6 x7 p0 p1 p2 p3 p4 p5 p6 p7 = omega arith

-- the eight bytes that are written of v give v back
bytes_of : (v : ℕ) → v < 2 ^ 64
    → v % 256 + v / 2 ^ 8 % 256 * 2 ^ 8 + (v / 2 ^ 16 % 256 + v / 2 ^ 24 % 256 * 2 ^ 8) * 2 ^ 16
    + (v / 2 ^ 32 % 256 + v / 2 ^ 40 % 256 * 2 ^ 8 + (v / 2 ^ 48 % 256 + v / 2 ^ 56 % 256 * 2 ^ 8) * 2 ^ 16) * 2 ^ 32
    ≡ v
bytes_of v h =
    join_bytes v (v / 2 ^ 8) (v / 2 ^ 16) (v / 2 ^ 24) (v / 2 ^ 32) (v / 2 ^ 40) (v / 2 ^ 48) (v / 2 ^ 56)
    _ _ _ _ _ _ _ _ (omega arith) (omega arith) (omega arith) (omega arith) (omega arith) (omega arith) (omega arith)
    (omega arith)

-- what is read of a span that ends in a record
module _ (f : List ℕ) (k a n w v : ℕ) where
  abbrev span : List ℕ
  span = f ++ record_bytes k a n w v

  pub length_record : length span ≡ length f + 16
  unfolding record_bytes
  length_record = length-append f (record_bytes k a n w v)

  pub record_big : 16 ≤ length span
  record_big = omega (arith, length_record)

  at : (i j : ℕ) → j ≡ length f + i → get_or span j 0 ≡ get_or (record_bytes k a n w v) i 0
  at i j e = rw e (get_or-append-add f (record_bytes k a n w v) i 0)

  pub kind_record : kind span ≡ k
  unfolding kind record_bytes
  kind_record = at 0 (length span - 16) (omega (arith, length_record))

  pub byte1_record : byte1 span ≡ a
  unfolding byte1 record_bytes
  byte1_record = at 1 (length span - 15) (omega (arith, length_record))

  pub size_record : size span ≡ n
  unfolding size u16 record_bytes
  size_record =
      let l : ℕ = length span in
      let p : get_or span (l - 14) 0 ≡ n % 256 = at 2 (l - 14) (omega (arith, length_record)) in
      let q : get_or span (l - 14 + 1) 0 ≡ n / 2 ^ 8 = at 3 (l - 14 + 1) (omega (arith, length_record)) in
      rw (p, q) (omega arith)

  pub width_record : width span ≡ w
  unfolding width record_bytes
  width_record = at 4 (length span - 12) (omega (arith, length_record))

  pub byte5_record : byte5 span ≡ 0
  unfolding byte5 record_bytes
  byte5_record = at 5 (length span - 11) (omega (arith, length_record))

  pub spare_high_record : spare_high span ≡ 0
  unfolding spare_high u16 record_bytes
  spare_high_record =
      let l : ℕ = length span in
      let e : length span ≡ length f + 16 = length_record in
      rw (at 6 (l - 10) (omega arith), at 7 (l - 10 + 1) (omega arith))

  pub spare_record : spare span ≡ 0
  unfolding spare
  spare_record = rw (byte5_record, spare_high_record)

  pub literal_record : v < 2 ^ 64 → literal span ≡ v
  unfolding literal u64 u32 u16 record_bytes
  literal_record h =
      let l : ℕ = length span - 8 in
      let e : length span ≡ length f + 16 = length_record in
      rw (
        at 8 l (omega arith),
        at 9 (l + 1) (omega arith),
        at 10 (l + 2) (omega arith),
        at 11 (l + 2 + 1) (omega arith),
        at 12 (l + 4) (omega arith),
        at 13 (l + 4 + 1) (omega arith),
        at 14 (l + 4 + 2) (omega arith),
        at 15 (l + 4 + 2 + 1) (omega arith),
      ) (bytes_of v h)

  pub body_record : body span ≡ f
  unfolding body
  body_record = take_at f (record_bytes k a n w v) (length span - 16) (omega (arith, length_record))

-- ---- the other way

-- what holds of every list of n elements, from what holds of n elements
abbrev pub Each : ℕ → (List ℕ → Type 0) → Type 0
Each zero P = P []
Each (suc n) P = (x : ℕ) → Each n (λ l. P (x ∷ l))

pub each : (n : ℕ) (P : List ℕ → Type 0) → Each n P → (l : List ℕ) → length l ≡ n → P l
each zero P p [] e = p
each zero P p (x ∷ l) e = absurd (omega arith)
each (suc n) P p [] e = absurd (omega arith)
each (suc n) P p (x ∷ l) e = each n (λ r. P (x ∷ r)) (p x) l (omega arith)

-- the bytes of the number that eight bytes make
record Eight (a b c d e f g h v : ℕ) : Type 0 where
  byte_0 : v % 256 ≡ a
  byte_1 : v / 2 ^ 8 % 256 ≡ b
  byte_2 : v / 2 ^ 16 % 256 ≡ c
  byte_3 : v / 2 ^ 24 % 256 ≡ d
  byte_4 : v / 2 ^ 32 % 256 ≡ e
  byte_5 : v / 2 ^ 40 % 256 ≡ f
  byte_6 : v / 2 ^ 48 % 256 ≡ g
  byte_7 : v / 2 ^ 56 % 256 ≡ h

eight : (a b c d e f g h : ℕ) → a < 256 → b < 256 → c < 256 → d < 256 → e < 256 → f < 256 → g < 256 → h < 256
    → Eight a b c d e f g h
    (a + b * 2 ^ 8 + (c + d * 2 ^ 8) * 2 ^ 16 + (e + f * 2 ^ 8 + (g + h * 2 ^ 8) * 2 ^ 16) * 2 ^ 32)
eight a b c d e f g h la lb lc ld le lf lg lh =
    record {
      byte_0 = omega arith;
      byte_1 = omega arith;
      byte_2 = omega arith;
      byte_3 = omega arith;
      byte_4 = omega arith;
      byte_5 = omega arith;
      byte_6 = omega arith;
      byte_7 = omega arith;
    }

abbrev Reread : List ℕ → Type 0
Reread l = record_bytes (get_or l 0 0) (get_or l 1 0) (u16 l 2) (get_or l 4 0) (u64 l 8) ≡ l

-- sixteen bytes are the record of their fields
sixteen : (l : List ℕ) → length l ≡ 16 → IsBytes l → get_or l 5 0 + get_or l 6 0 + get_or l 7 0 ≡ 0 → Reread l
unfolding record_bytes u16 u32 u64
sixteen l e = each 16 (λ l. IsBytes l → get_or l 5 0 + get_or l 6 0 + get_or l 7 0 ≡ 0 → Reread l) go l e
  where
    go : (b0 b1 b2 b3 b4 b5 b6 b7 b8 b9 b10 b11 b12 b13 b14 b15 : ℕ)
        → IsBytes (b0 ∷ b1 ∷ b2 ∷ b3 ∷ b4 ∷ b5 ∷ b6 ∷ b7 ∷ b8 ∷ b9 ∷ b10 ∷ b11 ∷ b12 ∷ b13 ∷ b14 ∷ b15 ∷ [])
        → b5 + b6 + b7 ≡ 0
        → Reread (b0 ∷ b1 ∷ b2 ∷ b3 ∷ b4 ∷ b5 ∷ b6 ∷ b7 ∷ b8 ∷ b9 ∷ b10 ∷ b11 ∷ b12 ∷ b13 ∷ b14 ∷ b15 ∷ [])
    go b0 b1 b2 b3 b4 b5 b6 b7 b8 b9 b10 b11 b12 b13 b14 b15 h z =
        let e2 : (b2 + b3 * 2 ^ 8) % 256 ≡ b2 = omega (arith, h 2) in
        let e3 : (b2 + b3 * 2 ^ 8) / 2 ^ 8 ≡ b3 = omega (arith, h 2) in
        let e5 : b5 ≡ 0 = omega arith in
        let e6 : b6 ≡ 0 = omega arith in
        let e7 : b7 ≡ 0 = omega arith in
        let e8 = eight b8 b9 b10 b11 b12 b13 b14 b15 (h 8) (h 9) (h 10) (h 11) (h 12) (h 13) (h 14) (h 15) in
        cc (e8.byte_0, e8.byte_1, e8.byte_2, e8.byte_3, e8.byte_4, e8.byte_5, e8.byte_6, e8.byte_7)

-- the last record of a span is the record of the root's fields
module _ (s : List ℕ) (big : 16 ≤ length s) where
  last_at : (i j : ℕ) → j ≡ length s - 16 + i → get_or (drop (length s - 16) s) i 0 ≡ get_or s j 0
  last_at i j e = get_or-drop (length s - 16) s i 0 ∙ ap (λ (k : ℕ). get_or s k 0) (sym e)

  pub last_record : IsBytes s → spare s ≡ 0
      → record_bytes (kind s) (byte1 s) (size s) (width s) (literal s) ≡ drop (length s - 16) s
  unfolding spare spare_high byte5 kind byte1 size width literal u16 u32 u64
  last_record h z =
      let l : List ℕ = drop (length s - 16) s in
      let n : ℕ = length s in
      let len : length l ≡ 16 = simp length-drop (omega arith) in
      let fit : IsBytes l = λ i. rw get_or-drop (h _) in
      let a0 : get_or l 0 0 ≡ get_or s (n - 16) 0 = last_at 0 (n - 16) (omega arith) in
      let a1 : get_or l 1 0 ≡ get_or s (n - 15) 0 = last_at 1 (n - 15) (omega arith) in
      let a2 : get_or l 2 0 ≡ get_or s (n - 14) 0 = last_at 2 (n - 14) (omega arith) in
      let a3 : get_or l 3 0 ≡ get_or s (n - 14 + 1) 0 = last_at 3 (n - 14 + 1) (omega arith) in
      let a4 : get_or l 4 0 ≡ get_or s (n - 12) 0 = last_at 4 (n - 12) (omega arith) in
      let a5 : get_or l 5 0 ≡ get_or s (n - 11) 0 = last_at 5 (n - 11) (omega arith) in
      let a6 : get_or l 6 0 ≡ get_or s (n - 10) 0 = last_at 6 (n - 10) (omega arith) in
      let a7 : get_or l 7 0 ≡ get_or s (n - 10 + 1) 0 = last_at 7 (n - 10 + 1) (omega arith) in
      let a8 : get_or l 8 0 ≡ get_or s (n - 8) 0 = last_at 8 (n - 8) (omega arith) in
      let a9 : get_or l 9 0 ≡ get_or s (n - 8 + 1) 0 = last_at 9 (n - 8 + 1) (omega arith) in
      let a10 : get_or l 10 0 ≡ get_or s (n - 8 + 2) 0 = last_at 10 (n - 8 + 2) (omega arith) in
      let a11 : get_or l 11 0 ≡ get_or s (n - 8 + 2 + 1) 0 = last_at 11 (n - 8 + 2 + 1) (omega arith) in
      let a12 : get_or l 12 0 ≡ get_or s (n - 8 + 4) 0 = last_at 12 (n - 8 + 4) (omega arith) in
      let a13 : get_or l 13 0 ≡ get_or s (n - 8 + 4 + 1) 0 = last_at 13 (n - 8 + 4 + 1) (omega arith) in
      let a14 : get_or l 14 0 ≡ get_or s (n - 8 + 4 + 2) 0 = last_at 14 (n - 8 + 4 + 2) (omega arith) in
      let a15 : get_or l 15 0 ≡ get_or s (n - 8 + 4 + 2 + 1) 0 = last_at 15 (n - 8 + 4 + 2 + 1) (omega arith) in
      let z' : get_or l 5 0 + get_or l 6 0 + get_or l 7 0 ≡ 0 = rw (a5, a6, a7) (omega arith) in
      let r = sixteen l len fit z' in
      cc

-- ---- the parts of bytes are bytes

pub bytes_take : (n : ℕ) (s : List ℕ) → IsBytes s → IsBytes (take n s)
bytes_take zero s h i = lit< tt
bytes_take (suc n) [] h i = h i
bytes_take (suc n) (x ∷ s) h zero = h 0
bytes_take (suc n) (x ∷ s) h (suc i) = bytes_take n s (λ j. h (suc j)) i

pub bytes_drop : (n : ℕ) (s : List ℕ) → IsBytes s → IsBytes (drop n s)
bytes_drop n s h i = rw get_or-drop (h _)

pub bytes_body : (s : List ℕ) → IsBytes s → IsBytes (body s)
unfolding body
bytes_body s h = bytes_take (length s - 16) s h

pub bytes_left : (s : List ℕ) → IsBytes s → IsBytes (left s)
unfolding left
bytes_left s h = bytes_take (cut s) s h

pub bytes_right : (s : List ℕ) → IsBytes s → IsBytes (right s)
unfolding right
bytes_right s h = bytes_take (length s - 16 - cut s) (drop (cut s) s) (bytes_drop (cut s) s h)

pub bytes_append : (s t : List ℕ) → IsBytes s → IsBytes t → IsBytes (s ++ t)
bytes_append [] t h k i = k i
bytes_append (x ∷ s) t h k zero = h 0
bytes_append (x ∷ s) t h k (suc i) = bytes_append s t (λ j. h (suc j)) k i

-- every element is a byte, as one proof for each
abbrev pub EachByte : List ℕ → Type 0
EachByte [] = Unit {0}
EachByte (x ∷ l) = (x < 256) × EachByte l

pub bytes_each : (l : List ℕ) → EachByte l → IsBytes l
bytes_each [] h i = lit< tt
bytes_each (x ∷ l) h zero = h.0
bytes_each (x ∷ l) h (suc i) = bytes_each l h.1 i

pub bytes_record : (k a n w v : ℕ) → k < 256 → a < 256 → n < 2 ^ 16 → w < 256 → IsBytes (record_bytes k a n w v)
unfolding record_bytes
bytes_record k a n w v hk ha hn hw =
    let low : (x : ℕ) → x % 256 < 256 = λ x. omega arith in
    let high : n / 2 ^ 8 < 256 = omega arith in
    let z : 0 < 256 = lit< tt in
    let upper : EachByte (drop 12 (record_bytes k a n w v)) =
    (low (v / 2 ^ 32), (low (v / 2 ^ 40), (low (v / 2 ^ 48), (low (v / 2 ^ 56), tt)))) in
    let word : EachByte (drop 8 (record_bytes k a n w v)) =
    (low v, (low (v / 2 ^ 8), (low (v / 2 ^ 16), (low (v / 2 ^ 24), upper)))) in
    bytes_each (record_bytes k a n w v) (hk, (ha, (low n, (high, (hw, (z, (z, (z, word))))))))

pub literal_lt : (s : List ℕ) → IsBytes s → literal s < 2 ^ 64
unfolding literal u64 u32 u16
literal_lt s h =
    let n : ℕ = length s - 8 in
    omega (
      arith,
      h n,
      h (n + 1),
      h (n + 2),
      h (n + 2 + 1),
      h (n + 4),
      h (n + 4 + 1),
      h (n + 4 + 2),
      h (n + 4 + 2 + 1),
    )

pub var_index_lt : (s : List ℕ) → IsBytes s → var_index s < var_limit
unfolding var_index byte1 byte5
var_index_lt s h = omega (arith, h (length s - 15), h (length s - 11))
