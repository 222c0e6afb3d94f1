-- Laws of the profiles of atoms, and of the words that classes are written as (specs/Partition.antt).
use mathlib.Core.Path.{◌≡◌, refl, ap, ◌∙◌}
use Prim.Native.Nat.{ℕ, zero, suc, ◌+◌, ◌-◌, ◌*◌, ◌^◌, ◌≤◌, ◌<◌}
use native.Mathlib.Omega.{arith}
use native.Mathlib.Nat.{lt_of_lt_of_le}
use mathlib.Core.List.{List, [], ◌∷◌, ◌++◌}
use mathlib.Core.Bool.{Bool, true, false}
use lib.ListN.{length, get_or, replicate, length-append, get_or-append}
use lib.Seq.{get_or-append-add}
use lib.Dec.{ltb, lit<}
use lib.Pow.{pow_mono, pow_pos}
use lib.Bits.{or_lt}
use borrow.Author.Tests.{ltb-false}
use Rattle.base.specs.Choice.{when}
use Rattle.base.specs.Put.{padded}
use Rattle.record.specs.Tree.{Tree}
use Rattle.base.proofs.BoolLaws.{or_false}
use Rattle.expr.specs.Vars.{support}
use Rattle.truth.specs.Truth.{has_shift, table}
use Rattle.truth.proofs.TruthLaws.{table_lt}
use Rattle.semilinear.specs.Form.{Row}
use Rattle.partition_laws.specs.Partition.{column_vars, is_opaque, opaque_word, profile_word, profile_from}
use Rattle.partition_laws.specs.Partition.{PartitionClass, class_words}
use Rattle.partition_laws.specs.Classes.{EachClass, HasWords}
use Rattle.partition_laws.specs.Columns.{row_tree}
use Rattle.partition_laws.proofs.PartitionLaws.{class_at}

-- ---- profiles

-- what an atom that is not opaque has
pub record Tabled (t : Tree) : Type 0 where
  pub few : length (support t) ≤ column_vars
  pub no_shift : has_shift t ≡ false

pub tabled : (t : Tree) → is_opaque t ≡ false → Tabled t
unfolding is_opaque
tabled t e =
    let p = or_false (ltb column_vars (length (support t))) (has_shift t) e in
    record { few = ltb-false _ _ p.0; no_shift = p.1 }

pub profile_length : (w p i : ℕ) (rows : List Row) → length (profile_from w p i rows) ≡ length rows
unfolding profile_from
profile_length w p i [] = refl
profile_length w p i (x ∷ l) = ap suc (profile_length w p (i + 1) l)

pub profile_at : (w p i : ℕ) (rows : List Row) (j : ℕ) → j < length rows
    → get_or (profile_from w p i rows) j 0 ≡ profile_word w p (i + j) (row_tree rows j)
unfolding profile_from row_tree
profile_at w p i [] j h = absurd (omega arith)
profile_at w p i (x ∷ l) zero h =
    let e : i ≡ i + 0 = omega arith in
    ap (λ (n : ℕ). profile_word w p n x.tree) e
profile_at w p i (x ∷ l) (suc j) h =
    let e : i + 1 + j ≡ i + suc j = omega arith in
    profile_at w p (i + 1) l j (omega arith) ∙ ap (λ (n : ℕ). profile_word w p n (row_tree l j)) e

pub profile_word_tabled : (w p i : ℕ) (t : Tree) → is_opaque t ≡ false
    → profile_word w p i t ≡ table w p (support t) (length (support t)) t
unfolding profile_word
profile_word_tabled w p i t e = simp e

pub profile_word_opaque : (w p i : ℕ) (t : Tree) → is_opaque t ≡ true → profile_word w p i t ≡ opaque_word i
unfolding profile_word
profile_word_opaque w p i t e = simp e

profile_word_lt : (w p i : ℕ) (t : Tree) → i < 2 ^ 64 → profile_word w p i t < 2 ^ 64
unfolding profile_word opaque_word
profile_word_lt w p i t hi = go (is_opaque t) refl
  where
    go : (b : Bool) → is_opaque t ≡ b
        → when b (λ _. opaque_word i) (λ _. table w p (support t) (length (support t)) t) < 2 ^ 64
    go true e = or_lt 64 0xDEAD_0000_0000_0000 i (lit< tt) hi
    go false e =
        let few : 2 ^ length (support t) ≤ 2 ^ column_vars = pow_mono (tabled t e).few in
        let rows : 2 ^ length (support t) ≤ 64 = omega arith in
        lt_of_lt_of_le (table_lt w p (support t) t (length (support t))) (pow_mono rows)

pub profile_lt : (w p i : ℕ) (rows : List Row) → i + length rows ≤ 2 ^ 64
    → (j : ℕ) → get_or (profile_from w p i rows) j 0 < 2 ^ 64
unfolding profile_from
profile_lt w p i [] h j = pow_pos 64
profile_lt w p i (x ∷ l) h zero = profile_word_lt w p i x.tree (omega arith)
profile_lt w p i (x ∷ l) h (suc j) = profile_lt w p (i + 1) l (omega arith) j

-- ---- the words of classes, where each profile has n words

module _ (n : ℕ) where
  pub class_words_length : (l : List PartitionClass) → EachClass (HasWords n) l
      → length (class_words l) ≡ length l * (n + 1)
  unfolding class_words EachClass
  class_words_length [] e = omega arith
  class_words_length (x ∷ l) e =
      length-append (x.mask ∷ x.profile) (class_words l)
      ∙ omega (arith, e.0, class_words_length l e.1)

  -- what stands from the words of class k on
  pub class_words_at : (l : List PartitionClass) → EachClass (HasWords n) l → (k : ℕ) → k < length l → (j : ℕ) → j < n + 1
      → get_or (class_words l) (k * (n + 1) + j) 0 ≡ get_or ((class_at l k).mask ∷ (class_at l k).profile) j 0
  unfolding class_words EachClass
  class_words_at [] e k h j hj = absurd (omega arith)
  class_words_at (x ∷ l) e zero h j hj =
      let z : 0 * (n + 1) + j ≡ j = omega arith in
      ap (λ (i : ℕ). get_or ((x.mask ∷ x.profile) ++ class_words l) i 0) z
      ∙ get_or-append (x.mask ∷ x.profile) (class_words l) 0 j (omega (arith, e.0))
  class_words_at (x ∷ l) e (suc k) h j hj =
      let z : suc k * (n + 1) + j ≡ suc (length x.profile) + (k * (n + 1) + j) = omega (arith, e.0) in
      ap (λ (i : ℕ). get_or ((x.mask ∷ x.profile) ++ class_words l) i 0) z
      ∙ get_or-append-add (x.mask ∷ x.profile) (class_words l) (k * (n + 1) + j) 0
      ∙ class_words_at l e.1 k (omega arith) j hj

  pub class_words_lt : (l : List PartitionClass)
      → EachClass (λ x. (x.mask < 2 ^ 64) × ((j : ℕ) → get_or x.profile j 0 < 2 ^ 64)) l
      → (j : ℕ) → get_or (class_words l) j 0 < 2 ^ 64
  unfolding class_words EachClass
  class_words_lt [] e j = pow_pos 64
  class_words_lt (x ∷ l) e zero = e.0.0
  class_words_lt (x ∷ l) e (suc j) = words_append x.profile (class_words l) e.0.1 (class_words_lt l e.1) j
    where
      words_append : (s t : List ℕ) → ((i : ℕ) → get_or s i 0 < 2 ^ 64) → ((i : ℕ) → get_or t i 0 < 2 ^ 64)
          → (i : ℕ) → get_or (s ++ t) i 0 < 2 ^ 64
      words_append [] t a b i = b i
      words_append (y ∷ s) t a b zero = a 0
      words_append (y ∷ s) t a b (suc i) = words_append s t (λ m. a (suc m)) b i

-- zeros behind change no element that is read
pub get_or_padded : (len : ℕ) (l : List ℕ) (j : ℕ) → get_or (padded len l) j 0 ≡ get_or l j 0
unfolding padded
get_or_padded len l j = behind l (len - length l) j
  where
    zeros : (m i : ℕ) → ◌≡◌ {A = ℕ} (get_or (replicate m 0) i 0) 0
    zeros zero i = refl
    zeros (suc m) zero = refl
    zeros (suc m) (suc i) = zeros m i

    behind : (s : List ℕ) (m i : ℕ) → get_or (s ++ replicate m 0) i 0 ≡ get_or s i 0
    behind [] m i = zeros m i
    behind (x ∷ s) m zero = refl
    behind (x ∷ s) m (suc i) = behind s m i
