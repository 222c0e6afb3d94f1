-- Laws of the classes (specs/Partition.antt): each place is in exactly one, with its profile, and there are at most as
-- many as places.
use mathlib.Core.Path.{◌≡◌, refl, ap, sym, ◌∙◌}
use Prim.Native.Nat.{ℕ, zero, suc, ◌+◌, ◌^◌, ◌≤◌, ◌<◌}
use native.Mathlib.Omega.{arith}
use native.Mathlib.Nat.{lt_of_lt_of_le}
use native.Mathlib.Decide.{ℕ_discrete}
use mathlib.Core.List.{List, [], ◌∷◌}
use mathlib.Core.Bool.{Bool, true, false}
use lib.ListN.{length, get_or}
use lib.Pow.{pow_mono, pow_pos}
use lib.Bits.{bit_or, or_lt}
use Rattle.arith.specs.Bit.{bit_at}
use Rattle.arith.proofs.BitLaws.{bit_lt, bit_past, bit_or_lem, bit_pow, bit_pow_other}
use Rattle.base.specs.Choice.{when}
use Rattle.base.specs.Lists.{eq_list}
use Rattle.base.proofs.ListsLaws.{eq_of_eq_list}
use Rattle.semilinear.specs.Form.{Row}
use Rattle.partition_laws.specs.Partition.{PartitionClass, profile_from, join_class, classes_f}
use Rattle.partition_laws.specs.Classes.{EachClass}

-- class number k; past the last, one without places
abbrev pub class_at : List PartitionClass → ℕ → PartitionClass
class_at l k = get_or l k (record { mask = 0; profile = [] })

-- how many classes hold place p
unfoldable pub holders : ℕ → List PartitionClass → ℕ
holders p [] = 0
holders p (x ∷ l) = bit_at x.mask p + holders p l

-- what a class is, of the n low places, where place p has the profile `profiles p`
pub record Class (profiles : ℕ → List ℕ) (n : ℕ) (x : PartitionClass) : Type 0 where
  pub low : x.mask < 2 ^ n
  pub own : (p : ℕ) → bit_at x.mask p ≡ 1 → x.profile ≡ profiles p
  pub some : ℕ
  pub some_there : bit_at x.mask some ≡ 1

pub each_at : (P : PartitionClass → Type 0) (l : List PartitionClass) → EachClass P l
    → (k : ℕ) → k < length l → P (class_at l k)
unfolding EachClass
each_at P [] e k h = absurd (omega arith)
each_at P (x ∷ l) e zero h = e.0
each_at P (x ∷ l) e (suc k) h = each_at P l e.1 k (omega arith)

pub each_map : (P Q : PartitionClass → Type 0) → ((x : PartitionClass) → P x → Q x)
    → (l : List PartitionClass) → EachClass P l → EachClass Q l
unfolding EachClass
each_map P Q f [] e = tt
each_map P Q f (x ∷ l) e = (f x e.0, each_map P Q f l e.1)

-- ---- one place more

module _ (profiles : ℕ → List ℕ) (p : ℕ) where
  pub or_other : (m q : ℕ) → (q ≡ p → ⊥) → bit_at (bit_or m (2 ^ p)) q ≡ bit_at m q
  or_other m q n = bit_or_lem m (2 ^ p) q ∙ omega (arith, bit_pow_other p q n)

  or_self : (m : ℕ) → bit_at (bit_or m (2 ^ p)) p ≡ 1
  or_self m = bit_or_lem m (2 ^ p) p ∙ omega (arith, bit_pow p, bit_lt m p)

  kept : (x : PartitionClass) → Class profiles p x → Class profiles (suc p) x
  kept x c =
      record {
        low = lt_of_lt_of_le c.low (pow_mono (omega arith));
        own = c.own;
        some = c.some;
        some_there = c.some_there;
      }

  opened : Class profiles (suc p) (record { mask = 2 ^ p; profile = profiles p })
  opened = record { low = omega (arith, pow_pos p); own = own; some = p; some_there = bit_pow p }
    where
      own : (q : ℕ) → bit_at (2 ^ p) q ≡ 1 → profiles p ≡ profiles q
      own q e = go (ℕ_discrete q p)
        where
          go : Dec (q ≡ p) → profiles p ≡ profiles q
          go (yes d) = ap profiles (sym d)
          go (no d) = absurd (omega (arith, bit_pow_other p q d))

  joined : (x : PartitionClass) → Class profiles p x → x.profile ≡ profiles p
      → Class profiles (suc p) (record { mask = bit_or x.mask (2 ^ p); profile = x.profile })
  joined x c e =
      let k = kept x c in
      record {
        low = or_lt (suc p) x.mask (2 ^ p) k.low (omega (arith, pow_pos p));
        own = λ q b. go q b (ℕ_discrete q p);
        some = p;
        some_there = or_self x.mask;
      }
    where
      go : (q : ℕ) → bit_at (bit_or x.mask (2 ^ p)) q ≡ 1 → Dec (q ≡ p) → x.profile ≡ profiles q
      go q b (yes d) = e ∙ ap profiles (sym d)
      go q b (no d) = c.own q (sym (or_other x.mask q d) ∙ b)

  join_each : (l : List PartitionClass) → EachClass (Class profiles p) l
      → EachClass (Class profiles (suc p)) (join_class p (profiles p) l)
  unfolding EachClass join_class
  join_each [] e = (opened, tt)
  join_each (x ∷ l) e = go (eq_list x.profile (profiles p)) refl (join_each l e.1)
    where
      go : (b : Bool) → eq_list x.profile (profiles p) ≡ b
          → EachClass (Class profiles (suc p)) (join_class p (profiles p) l)
          → EachClass (Class profiles (suc p))
          (when b (λ _. record { mask = bit_or x.mask (2 ^ p); profile = x.profile } ∷ l)
          (λ _. x ∷ join_class p (profiles p) l))
      go true f below = (
        joined x e.0 (eq_of_eq_list x.profile (profiles p) f),
        each_map (Class profiles p) (Class profiles (suc p)) kept l e.1,
      )
      go false f below = (kept x e.0, below)

  -- the holders of another place stay, and p, which had none, has one
  join_other : (r : List ℕ) (q : ℕ) → (q ≡ p → ⊥) → (l : List PartitionClass)
      → holders q (join_class p r l) ≡ holders q l
  unfolding holders join_class
  join_other r q n [] = omega (arith, bit_pow_other p q n)
  join_other r q n (x ∷ l) = go (eq_list x.profile r) (join_other r q n l)
    where
      go : (b : Bool) → holders q (join_class p r l) ≡ holders q l
          → holders q
          (when b (λ _. record { mask = bit_or x.mask (2 ^ p); profile = x.profile } ∷ l) (λ _. x ∷ join_class p r l))
          ≡ bit_at x.mask q + holders q l
      go true below = ap (λ (y : ℕ). y + holders q l) (or_other x.mask q n)
      go false below = ap (λ (y : ℕ). bit_at x.mask q + y) below

  none_yet : (l : List PartitionClass) → EachClass (Class profiles p) l → holders p l ≡ 0
  unfolding EachClass holders
  none_yet [] e = refl
  none_yet (x ∷ l) e = omega (arith, bit_past x.mask p p e.0.low (omega arith), none_yet l e.1)

  join_self : (r : List ℕ) (l : List PartitionClass) → holders p l ≡ 0 → holders p (join_class p r l) ≡ 1
  unfolding holders join_class
  join_self r [] z = omega (arith, bit_pow p)
  join_self r (x ∷ l) z = go (eq_list x.profile r) (join_self r l (omega arith))
    where
      go : (b : Bool) → holders p (join_class p r l) ≡ 1
          → holders p
          (when b (λ _. record { mask = bit_or x.mask (2 ^ p); profile = x.profile } ∷ l) (λ _. x ∷ join_class p r l))
          ≡ 1
      go true below = omega (arith, or_self x.mask)
      go false below = omega arith

  join_length : (r : List ℕ) (l : List PartitionClass) → length (join_class p r l) ≤ length l + 1
  unfolding join_class
  join_length r [] = omega arith
  join_length r (x ∷ l) = go (eq_list x.profile r) (join_length r l)
    where
      go : (b : Bool) → length (join_class p r l) ≤ length l + 1
          → length
          (when b (λ _. record { mask = bit_or x.mask (2 ^ p); profile = x.profile } ∷ l) (λ _. x ∷ join_class p r l))
          ≤ suc (length l) + 1
      go true below = omega arith
      go false below = omega arith

-- ---- all places

module _ (w : ℕ) (rows : List Row) where
  abbrev pub profiles : ℕ → List ℕ
  profiles p = profile_from w p 0 rows

  pub classes_each : (n : ℕ) → EachClass (Class profiles n) (classes_f n w rows)
  unfolding classes_f EachClass
  classes_each zero = tt
  classes_each (suc p) = join_each profiles p (classes_f p w rows) (classes_each p)

  -- a place below n is in one class
  pub classes_holders : (n p : ℕ) → p < n → holders p (classes_f n w rows) ≡ 1
  unfolding classes_f
  classes_holders zero p h = absurd (omega arith)
  classes_holders (suc n) p h = go (ℕ_discrete p n) (classes_holders n p)
    where
      go : Dec (p ≡ n) → (p < n → holders p (classes_f n w rows) ≡ 1)
          → holders p (join_class n (profiles n) (classes_f n w rows)) ≡ 1
      go (yes e) below =
          let none = none_yet profiles n (classes_f n w rows) (classes_each n) in
          rw e (join_self profiles n (profiles n) (classes_f n w rows) none)
      go (no d) below =
          join_other profiles n (profiles n) p d (classes_f n w rows) ∙ below (omega arith)

  pub classes_length : (n : ℕ) → length (classes_f n w rows) ≤ n
  unfolding classes_f
  classes_length zero = omega arith
  classes_length (suc p) =
      omega (arith, classes_length p, join_length profiles p (profiles p) (classes_f p w rows))

-- ---- the class of a place

-- the number of the only class that holds place p
pub record InClass (p : ℕ) (l : List PartitionClass) : Type 0 where
  pub at : ℕ
  pub below : at < length l
  pub there : bit_at (class_at l at).mask p ≡ 1
  pub only : (k : ℕ) → k < length l → bit_at (class_at l k).mask p ≡ 1 → k ≡ at

no_holder : (p : ℕ) (l : List PartitionClass) → holders p l ≡ 0 → (k : ℕ) → k < length l
    → bit_at (class_at l k).mask p ≡ 0
unfolding holders
no_holder p [] z k h = absurd (omega arith)
no_holder p (x ∷ l) z zero h = omega arith
no_holder p (x ∷ l) z (suc k) h = no_holder p l (omega arith) k (omega arith)

pub holder_of : (p : ℕ) (l : List PartitionClass) → holders p l ≡ 1 → InClass p l
unfolding holders
holder_of p [] e = absurd (omega arith)
holder_of p (x ∷ l) e = go (ℕ_discrete (bit_at x.mask p) 1) (holder_of p l)
  where
    first : bit_at x.mask p ≡ 1 → (k : ℕ) → k < suc (length l) → bit_at (class_at (x ∷ l) k).mask p ≡ 1 → k ≡ 0
    first b zero h f = refl
    first b (suc k) h f = absurd (omega (arith, no_holder p l (omega arith) k (omega arith)))

    later : (bit_at x.mask p ≡ 1 → ⊥) → (i : InClass p l) → (k : ℕ) → k < suc (length l)
        → bit_at (class_at (x ∷ l) k).mask p ≡ 1 → k ≡ suc i.at
    later d i zero h f = absurd (d f)
    later d i (suc k) h f = ap suc (i.only k (omega arith) f)

    go : Dec (bit_at x.mask p ≡ 1) → (holders p l ≡ 1 → InClass p l) → InClass p (x ∷ l)
    go (yes b) rest = record { at = 0; below = omega arith; there = b; only = first b }
    go (no d) rest =
        let i = rest (omega (arith, bit_lt x.mask p)) in
        record { at = suc i.at; below = omega (arith, i.below); there = i.there; only = later d i }
