-- The classes stand by their lowest place: each place of a class has a lower one in every class before it. And no two
-- have the same profile.
use mathlib.Core.Path.{◌≡◌, refl, sym, ◌∙◌}
use Prim.Native.Nat.{ℕ, zero, suc, ◌^◌, ◌<◌}
use native.Mathlib.Omega.{arith}
use native.Mathlib.Decide.{ℕ_discrete, dec_lt}
use mathlib.Core.List.{List, [], ◌∷◌}
use mathlib.Core.Bool.{Bool, true, false}
use lib.ListN.{length}
use lib.Bits.{bit_or}
use Rattle.arith.specs.Bit.{bit_at}
use Rattle.arith.proofs.BitLaws.{bit_lt, bit_past, bit_or_lem, bit_pow_other}
use Rattle.base.specs.Choice.{when}
use Rattle.base.specs.Lists.{eq_list}
use Rattle.semilinear.specs.Form.{Row}
use Rattle.partition_laws.specs.Partition.{PartitionClass, join_class, classes_f}
use Rattle.partition_laws.specs.Classes.{EachClass}
use Rattle.partition_laws.proofs.PartitionLaws.{class_at, Class, each_at, each_map, or_other}
use Rattle.partition_laws.proofs.PartitionLaws.{profiles, classes_each}

-- a place of the class x that lies below q
pub record Lower (x : PartitionClass) (q : ℕ) : Type 0 where
  pub place : ℕ
  pub less : place < q
  pub there : bit_at x.mask place ≡ 1

abbrev pub Before : PartitionClass → PartitionClass → Type 0
Before x y = (q : ℕ) → bit_at y.mask q ≡ 1 → Lower x q

abbrev pub Unlike : PartitionClass → PartitionClass → Type 0
Unlike x y = eq_list x.profile y.profile ≡ false

-- R holds of each class and each later one
unfoldable Pairwise : (PartitionClass → PartitionClass → Type 0) → List PartitionClass → Type 0
Pairwise R [] = Unit {0}
Pairwise R (x ∷ l) = EachClass (R x) l × Pairwise R l

pairwise_at : (R : PartitionClass → PartitionClass → Type 0) (l : List PartitionClass) → Pairwise R l
    → (k j : ℕ) → k < j → j < length l → R (class_at l k) (class_at l j)
unfolding Pairwise
pairwise_at R [] o k j h l = absurd (omega arith)
pairwise_at R (x ∷ m) o k zero h l = absurd (omega arith)
pairwise_at R (x ∷ m) o zero (suc j) h l = each_at (R x) m o.0 j (omega arith)
pairwise_at R (x ∷ m) o (suc k) (suc j) h l = pairwise_at R m o.1 k j (omega arith) (omega arith)

-- ---- lowest places

module _ (profiles : ℕ → List ℕ) (p : ℕ) where
  -- a class of lower places has one below p
  lower_now : (x : PartitionClass) → Class profiles p x → Lower x p
  lower_now x c = record { place = c.some; less = go (dec_lt c.some p); there = c.some_there }
    where
      go : Dec (c.some < p) → c.some < p
      go (yes h) = h
      go (no h) = absurd (omega (arith, c.some_there, bit_past x.mask p c.some c.low (omega arith)))

  before_new : (x y : PartitionClass) → Class profiles p x → Before x y
      → (q : ℕ) → bit_at (bit_or y.mask (2 ^ p)) q ≡ 1 → Lower x q
  before_new x y c b q e = go (ℕ_discrete q p)
    where
      go : Dec (q ≡ p) → Lower x q
      go (yes d) = rw d (lower_now x c)
      go (no d) = b q (sym (or_other profiles p y.mask q d) ∙ e)

  before_first : (x : PartitionClass) → Class profiles p x → (q : ℕ) → bit_at (2 ^ p) q ≡ 1 → Lower x q
  before_first x c q e = go (ℕ_discrete q p)
    where
      go : Dec (q ≡ p) → Lower x q
      go (yes d) = rw d (lower_now x c)
      go (no d) = absurd (omega (arith, bit_pow_other p q d))

  grown_before : (x y : PartitionClass) → Before x y
      → Before (record { mask = bit_or x.mask (2 ^ p); profile = x.profile }) y
  grown_before x y b q e =
      let l = b q e in
      let or = bit_or_lem x.mask (2 ^ p) l.place in
      record { place = l.place; less = l.less; there = or ∙ omega (arith, l.there, bit_lt (2 ^ p) l.place) }

  join_before : (r : List ℕ) (x : PartitionClass) → Class profiles p x → (l : List PartitionClass)
      → EachClass (Before x) l → EachClass (Before x) (join_class p r l)
  unfolding EachClass join_class
  join_before r x c [] e = (before_first x c, tt)
  join_before r x c (y ∷ l) e = go (eq_list y.profile r) (join_before r x c l e.1)
    where
      go : (b : Bool) → EachClass (Before x) (join_class p r l)
          → EachClass (Before x)
          (when b (λ _. record { mask = bit_or y.mask (2 ^ p); profile = y.profile } ∷ l) (λ _. y ∷ join_class p r l))
      go true below = (before_new x y c e.0, e.1)
      go false below = (e.0, below)

  join_ordered : (r : List ℕ) (l : List PartitionClass) → EachClass (Class profiles p) l → Pairwise Before l
      → Pairwise Before (join_class p r l)
  unfolding EachClass Pairwise join_class
  join_ordered r [] c o = (tt, tt)
  join_ordered r (x ∷ l) c o = go (eq_list x.profile r) (join_ordered r l c.1 o.1)
    where
      go : (b : Bool) → Pairwise Before (join_class p r l)
          → Pairwise Before
          (when b (λ _. record { mask = bit_or x.mask (2 ^ p); profile = x.profile } ∷ l) (λ _. x ∷ join_class p r l))
      go true below = (each_map (Before x) (Before _) (λ y. grown_before x y) l o.0, o.1)
      go false below = (join_before r x c.0 l o.0, below)

-- ---- profiles

join_unlike : (p : ℕ) (r : List ℕ) (x : PartitionClass) → eq_list x.profile r ≡ false → (l : List PartitionClass)
    → EachClass (Unlike x) l → EachClass (Unlike x) (join_class p r l)
unfolding EachClass join_class
join_unlike p r x d [] e = (d, tt)
join_unlike p r x d (y ∷ l) e = go (eq_list y.profile r) (join_unlike p r x d l e.1)
  where
    go : (b : Bool) → EachClass (Unlike x) (join_class p r l)
        → EachClass (Unlike x)
        (when b (λ _. record { mask = bit_or y.mask (2 ^ p); profile = y.profile } ∷ l) (λ _. y ∷ join_class p r l))
    go true below = e
    go false below = (e.0, below)

join_distinct : (p : ℕ) (r : List ℕ) (l : List PartitionClass) → Pairwise Unlike l → Pairwise Unlike (join_class p r l)
unfolding EachClass Pairwise join_class
join_distinct p r [] o = (tt, tt)
join_distinct p r (x ∷ l) o = go (eq_list x.profile r) refl (join_distinct p r l o.1)
  where
    go : (b : Bool) → eq_list x.profile r ≡ b → Pairwise Unlike (join_class p r l)
        → Pairwise Unlike
        (when b (λ _. record { mask = bit_or x.mask (2 ^ p); profile = x.profile } ∷ l) (λ _. x ∷ join_class p r l))
    go true d below = o
    go false d below = (join_unlike p r x d l o.0, below)

-- ---- all places

classes_ordered : (w : ℕ) (rows : List Row) (n : ℕ) → Pairwise Before (classes_f n w rows)
unfolding Pairwise classes_f
classes_ordered w rows zero = tt
classes_ordered w rows (suc p) =
    join_ordered (profiles w rows) p (profiles w rows p) (classes_f p w rows) (classes_each w rows p)
    (classes_ordered w rows p)

classes_distinct : (w : ℕ) (rows : List Row) (n : ℕ) → Pairwise Unlike (classes_f n w rows)
unfolding Pairwise classes_f
classes_distinct w rows zero = tt
classes_distinct w rows (suc p) = join_distinct p (profiles w rows p) (classes_f p w rows) (classes_distinct w rows p)

module _ (w : ℕ) (rows : List Row) (n k j : ℕ) (h : k < j) (l : j < length (classes_f n w rows)) where
  pub classes_before : Before (class_at (classes_f n w rows) k) (class_at (classes_f n w rows) j)
  classes_before = pairwise_at Before (classes_f n w rows) (classes_ordered w rows n) k j h l

  pub classes_unlike : Unlike (class_at (classes_f n w rows) k) (class_at (classes_f n w rows) j)
  classes_unlike = pairwise_at Unlike (classes_f n w rows) (classes_distinct w rows n) k j h l
