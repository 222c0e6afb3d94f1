-- Numbers and byte places of records: a span with right size fields is whole records, and so is each part before a
-- child or the root; where the right child begins, the number of the records before it, times 16, is the place.
use mathlib.Core.Path.{◌≡◌, ◌∙◌}
use Prim.Native.Nat.{ℕ, ◌-◌, ◌*◌, ◌%◌}
use native.Mathlib.Omega.{arith}
use mathlib.Core.List.{List}
use mathlib.Core.Bool.{true}
use lib.ListN.{length}
use Rattle.record.specs.Fields.{kind, size, arity}
use Rattle.record.specs.Span.{cut, left, sized}
use Rattle.record.proofs.SpanLaws.{length_left}
use Rattle.record.proofs.SizedLaws.{sized_big, sized_length, sized_left}

module _ (s : List ℕ) (ok : sized s ≡ true) where
  -- the root's place, and its number n as `number_of` gives it
  pub root_whole : (length s - 16) % 16 ≡ 0
  root_whole = omega (arith, sized_length s ok, sized_big s ok)

  pub root_number : {n : ℕ} → 16 * n ≡ length s - 16 → n ≡ size s - 1
  root_number e = omega (arith, e, sized_length s ok, sized_big s ok)

  -- the right child's place i, as `cut` gives it, and its first record's number n; k is how many children the root has
  module _ {k : ℕ} (e : k ≡ arity (kind s)) (p : k ≡ 0 → ⊥) (q : k ≡ 1 → ⊥) where
    pub left_bytes : size (left s) * 16 ≡ cut s
    left_bytes = sized_length (left s) (sized_left s ok (λ h. p (e ∙ h)) (λ h. q (e ∙ h))) ∙ length_left s

    pub right_whole : {i : ℕ} → i ≡ cut s → i % 16 ≡ 0
    right_whole ei = omega (arith, ei, left_bytes)

    pub right_number : {i n : ℕ} → i ≡ cut s → 16 * n ≡ i → n ≡ size (left s)
    right_number ei en = omega (arith, ei, en, left_bytes)
