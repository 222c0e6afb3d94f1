-- What the live entries of a group come to beside a basis of value x (specs/Group.antt). The sum is kept modulo M where
-- one, two or three entries change and their own sum is kept. The tests `is_live` of entries.
use mathlib.Core.Path.{◌≡◌, refl, ap, ◌∙◌}
use mathlib.Core.Logic.{◌≢◌}
use mathlib.Core.Bool.{true, false}
use Prim.Native.Nat.{ℕ, zero, suc, ◌+◌, ◌*◌, ◌<◌}
use native.Mathlib.Omega.{arith}
use native.Mathlib.Decide.{ℕ_discrete}
use lib.Bits.{bit_and}
use Rattle.arith.specs.Congruence.{Eqm}
use Rattle.arith.proofs.CongruenceLaws.{eqm_of_eq, eqm_refl, eqm_trans, eqm_add, eqm_cancel}
use Rattle.base.specs.Choice.{when}
use Rattle.group.specs.declared.Group.{Group}
use Rattle.entries.specs.declared.Mark.TheVariants.{Live}
use Rattle.entries.specs.Marks.{not_consumed}
use Rattle.group.specs.Group.{Entry, at, put_entry, empty_group, push_entry, is_live, consumed}
use Rattle.group.proofs.EntryLaws.{Sized, sized_put, at_put, at_put_other, at_push, at_push_other}

-- ---- sums

-- f 0 + .. + f (n - 1)
unfoldable pub sum_to : (ℕ → ℕ) → ℕ → ℕ
sum_to f zero = 0
sum_to f (suc n) = sum_to f n + f n

pub sum_ext : (f h : ℕ → ℕ) (n : ℕ) → ((k : ℕ) → k < n → f k ≡ h k) → sum_to f n ≡ sum_to h n
unfolding sum_to
sum_ext f h zero e = refl
sum_ext f h (suc n) e = omega (arith, sum_ext f h n (λ k l. e k (omega arith)), e n (omega arith))

sum_suc : (f : ℕ → ℕ) (n : ℕ) → sum_to f (n + 1) ≡ sum_to f n + f n
unfolding sum_to
sum_suc f n = ap (sum_to f) (let z : n + 1 ≡ suc n = omega arith in z)

-- functions that differ at i alone
pub sum_but_one : (f h : ℕ → ℕ) (i n : ℕ) → i < n → ((k : ℕ) → k ≢ i → f k ≡ h k) → sum_to f n + h i ≡ sum_to h n + f i
unfolding sum_to
sum_but_one f h i zero l e = omega arith
sum_but_one f h i (suc n) l e = go (ℕ_discrete n i) (λ u. sum_but_one f h i n u e)
  where
    go : Dec (n ≡ i) → (i < n → sum_to f n + h i ≡ sum_to h n + f i) → sum_to f (suc n) + h i ≡ sum_to h (suc n) + f i
    go (yes q) below =
        omega (arith, sum_ext f h n (λ k u. e k (λ (z : k ≡ i). omega arith)), ap f q, ap h q)
    go (no q) below = omega (arith, below (omega arith), e n q)

-- ---- entries

-- what an entry adds: nothing when it is consumed
unfoldable pub worth : ℕ → Entry → ℕ
worth x e = when (is_live e) (λ _. e.coeff * bit_and x e.mask) (λ _. 0)

unfoldable pub total : ℕ → Group → ℕ
total x g = sum_to (λ k. worth x (at g k)) g.len

pub worth_live : (x : ℕ) (e : Entry) → is_live e ≡ true → worth x e ≡ e.coeff * bit_and x e.mask
unfolding worth
worth_live x e h = simp h

worth_fresh : (x c m a : ℕ) → worth x (record { coeff = c; mask = m; atom = a; mark = Live }) ≡ c * bit_and x m
unfolding worth is_live
worth_fresh x c m a = refl

pub worth_dead : (x : ℕ) (e : Entry) → is_live e ≡ false → worth x e ≡ 0
unfolding worth
worth_dead x e h = simp h

pub live_mark_lem : (e f : Entry) → e.mark ≡ f.mark → is_live e ≡ is_live f
unfolding is_live
live_mark_lem e f h = ap not_consumed h

pub live_consumed : (e : Entry) → is_live (consumed e) ≡ false
unfolding is_live consumed
live_consumed e = refl

pub worth_consumed : (x : ℕ) (e : Entry) → worth x (consumed e) ≡ 0
worth_consumed x e = worth_dead x (consumed e) (live_consumed e)

-- ---- groups

pub len_put : (g : Group) (i : ℕ) (e : Entry) → (put_entry g i e).len ≡ g.len
unfolding put_entry
len_put g i e = refl

pub len_push : (g : Group) (c m a : ℕ) → (push_entry g c m a).len ≡ g.len + 1
unfolding push_entry
len_push g c m a = refl

-- one entry put: its worth comes in place of the old one
pub total_put : (x : ℕ) (g : Group) (i : ℕ) (e : Entry) → Sized g → i < g.len
    → total x (put_entry g i e) + worth x (at g i) ≡ total x g + worth x e
unfolding total
total_put x g i e s l =
    let new : ℕ → ℕ = λ k. worth x (at (put_entry g i e) k) in
    let old : ℕ → ℕ = λ k. worth x (at g k) in
    ap (λ (n : ℕ). sum_to new n + old i) (len_put g i e)
    ∙ sum_but_one new old i g.len l (λ k ne. ap (worth x) (at_put_other g i k e ne))
    ∙ ap (λ (y : Entry). sum_to old g.len + worth x y) (at_put g i e s (omega (arith, s.len_le)))

pub total_empty : (x : ℕ) → total x empty_group ≡ 0
unfolding total sum_to empty_group
total_empty x = refl

-- one entry more
pub total_push : (x : ℕ) (g : Group) (c m a : ℕ) → Sized g → g.len < 256
    → total x (push_entry g c m a) ≡ total x g + c * bit_and x m
unfolding total
total_push x g c m a s l =
    let new : ℕ → ℕ = λ k. worth x (at (push_entry g c m a) k) in
    let old : ℕ → ℕ = λ k. worth x (at g k) in
    let last : new g.len ≡ c * bit_and x m = ap (worth x) (at_push g c m a s l) ∙ worth_fresh x c m a in
    ap (sum_to new) (len_push g c m a)
    ∙ sum_suc new g.len
    ∙ omega (
      arith,
      last,
      sum_ext new old g.len (λ k u. ap (worth x) (at_push_other g c m a k (λ (z : k ≡ g.len). omega arith))),
    )

-- ---- one, two and three entries put

module _ (M x : ℕ) (g : Group) (s : Sized g) where
  pub sum_one : (i : ℕ) (e : Entry) → i < g.len → Eqm M (worth x e) (worth x (at g i))
      → Eqm M (total x (put_entry g i e)) (total x g)
  sum_one i e l h =
      eqm_cancel (worth x (at g i))
      (eqm_trans (eqm_of_eq (total_put x g i e s l)) (eqm_add (eqm_refl (total x g)) h))

  module _ (i j : ℕ) (e f : Entry) (ne : j ≢ i) (li : i < g.len) (lj : j < g.len) where
    total_two : total x (put_entry (put_entry g i e) j f) + (worth x (at g i) + worth x (at g j))
        ≡ total x g + (worth x e + worth x f)
    total_two =
        omega (
          arith,
          total_put x g i e s li,
          total_put x (put_entry g i e) j f (sized_put g i e s) (rw (len_put g i e) lj),
          ap (worth x) (at_put_other g i j e ne),
        )

    pub sum_two : Eqm M (worth x e + worth x f) (worth x (at g i) + worth x (at g j))
        → Eqm M (total x (put_entry (put_entry g i e) j f)) (total x g)
    sum_two h =
        eqm_cancel (worth x (at g i) + worth x (at g j))
        (eqm_trans (eqm_of_eq total_two) (eqm_add (eqm_refl (total x g)) h))

    pub sum_three : (k : ℕ) (d : Entry) → k ≢ i → k ≢ j → k < g.len
        → Eqm M (worth x e + worth x f + worth x d) (worth x (at g i) + worth x (at g j) + worth x (at g k))
        → Eqm M (total x (put_entry (put_entry (put_entry g i e) j f) k d)) (total x g)
    sum_three k d ki kj lk h =
        eqm_cancel (worth x (at g i) + worth x (at g j) + worth x (at g k))
        (eqm_trans (eqm_of_eq whole) (eqm_add (eqm_refl (total x g)) h))
      where
        whole : total x (put_entry (put_entry (put_entry g i e) j f) k d)
            + (worth x (at g i) + worth x (at g j) + worth x (at g k))
            ≡ total x g + (worth x e + worth x f + worth x d)
        whole =
            omega (
              arith,
              total_two,
              total_put x (put_entry (put_entry g i e) j f) k d (sized_put (put_entry g i e) j f (sized_put g i e s))
                  (rw (len_put (put_entry g i e) j f, len_put g i e) lk),
              ap (worth x) (at_put_other (put_entry g i e) j k f kj ∙ at_put_other g i k e ki),
            )
