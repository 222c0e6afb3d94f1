-- Laws of a group as a place for entries (specs/Group.antt): what is read after an entry is put, and loops.
use mathlib.Core.Path.{◌≡◌, refl, ap, sym, ◌∙◌}
use mathlib.Core.Logic.{◌≢◌}
use Prim.Native.Nat.{ℕ, zero, suc, ◌<◌, ◌≤◌}
use native.Mathlib.Decide.{ℕ_discrete}
use mathlib.Core.List.{List, [], ◌∷◌, ◌++◌}
use native.Mathlib.Omega.{arith}
use lib.ListN.{length, get_or, take, length-set, length-replicate, length-append, get_or-append}
use lib.Seq.{get_or-set_same, get_or-set_other, get_or-append_seam, take-suc}
use Rattle.entries.specs.declared.Mark.TheVariants.{Live}
use Rattle.entries.specs.Marks.{blank}
use Rattle.group.specs.declared.Group.{Group}
use Rattle.group.specs.Group.{Entry, first_entries, used, at, put_entry, empty_group, push_entry}

-- the array has 256 elements, and the length is at most that
pub record Sized (g : Group) : Type 0 where
  pub entries_256 : length g.entries ≡ 256
  pub len_le : g.len ≤ 256

pub sized_put : (g : Group) (i : ℕ) (e : Entry) → Sized g → Sized (put_entry g i e)
unfolding put_entry
sized_put g i e h = record { entries_256 = length-set g.entries i e ∙ h.entries_256; len_le = h.len_le }

abbrev entry : ℕ → ℕ → ℕ → Entry
entry c m a = record { coeff = c; mask = m; atom = a; mark = Live }

pub sized_push : (g : Group) (c m a : ℕ) → Sized g → g.len < 256 → Sized (push_entry g c m a)
unfolding push_entry
sized_push g c m a h l =
    record { entries_256 = length-set g.entries g.len (entry c m a) ∙ h.entries_256; len_le = omega arith }

pub sized_empty : Sized empty_group
unfolding empty_group
sized_empty = record { entries_256 = length-replicate {A = Entry} 256 blank; len_le = omega arith }

pub at_put : (g : Group) (i : ℕ) (e : Entry) → Sized g → i < 256 → at (put_entry g i e) i ≡ e
unfolding put_entry at
at_put g i e h l = get_or-set_same g.entries i e blank (rw h.entries_256 l)

pub at_put_other : (g : Group) (i k : ℕ) (e : Entry) → k ≢ i → at (put_entry g i e) k ≡ at g k
unfolding put_entry at
at_put_other g i k e ne = get_or-set_other g.entries i k e blank ne

pub at_push : (g : Group) (c m a : ℕ) → Sized g → g.len < 256 → at (push_entry g c m a) g.len ≡ entry c m a
unfolding push_entry at
at_push g c m a h l = get_or-set_same g.entries g.len (entry c m a) blank (rw h.entries_256 l)

pub at_push_other : (g : Group) (c m a k : ℕ) → k ≢ g.len → at (push_entry g c m a) k ≡ at g k
unfolding push_entry at
at_push_other g c m a k ne = get_or-set_other g.entries g.len k (entry c m a) blank ne

-- ---- the entries that are taken

module _ (g : Group) where
  length_first : (n : ℕ) → length (first_entries g n) ≡ n
  unfolding first_entries
  length_first zero = refl
  length_first (suc n) = omega (arith, length-append (first_entries g n) (at g n ∷ []), length_first n)

  first_at : (n k : ℕ) → k < n → get_or (first_entries g n) k blank ≡ at g k
  unfolding first_entries
  first_at zero k l = absurd (omega (arith, l))
  first_at (suc n) k l = go (ℕ_discrete k n) (first_at n k)
    where
      go : Dec (k ≡ n) → (k < n → get_or (first_entries g n) k blank ≡ at g k)
          → get_or (first_entries g n ++ (at g n ∷ [])) k blank ≡ at g k
      go (yes e) below =
          let q : k ≡ length (first_entries g n) = omega (arith, e, length_first n) in
          ap (λ (i : ℕ). get_or (first_entries g n ++ (at g n ∷ [])) i blank) q
          ∙ get_or-append_seam (first_entries g n) (at g n) [] blank
          ∙ ap (at g) (sym e)
      go (no e) below =
          get_or-append (first_entries g n) (at g n ∷ []) blank k (omega (arith, e, l, length_first n))
          ∙ below (omega (arith, e, l))

  -- as the code takes them
  pub taken : (n : ℕ) → n ≤ length g.entries → take n g.entries ≡ first_entries g n
  unfolding first_entries at
  taken zero l = refl
  taken (suc n) l =
      take-suc g.entries n blank (omega (arith, l))
      ∙ ap (λ (m : List Entry). m ++ (get_or g.entries n blank ∷ [])) (taken n (omega (arith, l)))

pub used_at : (g : Group) (k : ℕ) → k < g.len → get_or (used g) k blank ≡ at g k
used_at g k l = first_at g g.len k l

pub length_used : (g : Group) → length (used g) ≡ g.len
length_used g = length_first g g.len
