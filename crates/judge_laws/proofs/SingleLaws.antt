-- The assignment of a place and an index (specs/Judge.antt): its words; and each place of an assignment has those of an
-- index, as far as the variables of a list go.
use mathlib.Core.Path.{◌≡◌, refl, ap, sym, ◌∙◌}
use Prim.Native.Nat.{ℕ, zero, suc, ◌+◌, ◌*◌, ◌^◌, ◌≤◌, ◌<◌}
use native.Mathlib.Nat.{zero-mul}
use native.Mathlib.Decide.{dec_lt}
use native.Mathlib.Omega.{arith}
use mathlib.Core.List.{List, [], ◌∷◌}
use mathlib.Core.Bool.{true}
use lib.ListN.{length, get_or}
use borrow.Author.Tests.{ne_eqb}
use Rattle.arith.specs.Bit.{bit_at}
use Rattle.arith.proofs.BitLaws.{bit_lt}
use Rattle.base.specs.Lists.{elem}
use Rattle.truth.specs.Truth.{row_bits, row_number}
use Rattle.truth.proofs.TruthLaws.{row_of_lt, row_of_bit, row_bits_lem}
use Rattle.judge_laws.specs.Judge.{words, above, single}
use Rattle.judge_laws.proofs.PlacesLaws.{only_at, only_at_lem}

words_at : (n : ℕ) (f : ℕ → ℕ) (k : ℕ) → k < n → get_or (words n f) k 0 ≡ f k
unfolding words
words_at zero f k h = absurd (omega arith)
words_at (suc n) f zero h = refl
words_at (suc n) f (suc k) h = words_at n (λ j. f (suc j)) k (omega arith)

-- any variable: one that is not of the list has 0
other_row : (place i v : ℕ) (vs : List ℕ) → above vs ≤ v → row_bits place vs i v ≡ 0
unfolding row_bits above
other_row place i v [] h = refl
other_row place i v (x ∷ vs) h =
    simp (ne_eqb x v (omega arith)) (other_row (place + 1) i v vs (omega arith))

words_past : (n : ℕ) (f : ℕ → ℕ) (k : ℕ) → n ≤ k → get_or (words n f) k 0 ≡ 0
unfolding words
words_past zero f k h = refl
words_past (suc n) f zero h = absurd (omega arith)
words_past (suc n) f (suc k) h = words_past n (λ j. f (suc j)) k (omega arith)

pub single_word : (vs : List ℕ) (p i v : ℕ) → get_or (single vs p i) v 0 ≡ row_bits 0 vs i v * 2 ^ p
unfolding single
single_word vs p i v = go (dec_lt v (above vs))
  where
    go : Dec (v < above vs)
        → get_or (words (above vs) (λ u. row_bits 0 vs i u * 2 ^ p)) v 0 ≡ row_bits 0 vs i v * 2 ^ p
    go (yes h) = words_at (above vs) (λ u. row_bits 0 vs i u * 2 ^ p) v h
    go (no n) =
        words_past (above vs) (λ u. row_bits 0 vs i u * 2 ^ p) v (omega arith)
        ∙ sym (ap (λ (d : ℕ). d * 2 ^ p) (other_row 0 i v vs (omega arith)) ∙ zero-mul (2 ^ p))

-- ---- the index of a place

module _ (vs : List ℕ) (p : ℕ) (vars : List ℕ) where
  bits : ℕ → ℕ
  bits v = bit_at (get_or vars v 0) p

  pub index_of : ℕ
  index_of = row_number bits vs

  small : (v : ℕ) → bits v < 2
  unfolding bits
  small v = bit_lt (get_or vars v 0) p

  pub index_of_lt : index_of < 2 ^ length vs
  unfolding index_of
  index_of_lt = row_of_lt bits small vs

  -- it has the words of the assignment's place, of the variables of the list
  pub index_words : (v : ℕ) → elem v vs ≡ true → get_or (only_at p vars) v 0 ≡ get_or (single vs p index_of) v 0
  unfolding index_of bits
  index_words v e =
      only_at_lem p vars v
      ∙ ap (λ (d : ℕ). d * 2 ^ p) (sym (row_bits_lem (row_number bits vs) vs bits (row_of_bit bits small vs) v e))
      ∙ sym (single_word vs p (row_number bits vs) v)
