-- Laws of the searches of specs/Index.antt as the code runs them: how the search for the newest slot goes down, when an
-- atom has a slot, and what a search gives at its end.
use mathlib.Core.Path.{◌≡◌, refl, ap, ◌∙◌}
use Prim.Native.Nat.{ℕ, zero, suc, ◌-◌, ◌≤◌, ◌<◌}
use native.Mathlib.Omega.{arith}
use mathlib.Core.List.{List, [], ◌∷◌}
use mathlib.Core.Bool.{Bool, true, false}
use lib.Dec.{eqb}
use lib.Pointwise.{pointwise}
use borrow.Author.Tests.{eq-eqb, ne_eqb}
use Rattle.std.specs.Prelude.{Option, None, Some, IfSome}
use Rattle.base.specs.Choice.{when}
use Rattle.base.specs.Lists.{eq_list}
use Rattle.record.specs.Decode.{decode}
use Rattle.base.proofs.ListsLaws.{eq_of_eq_list, eq_list_self}
use Rattle.expr.specs.Vars.{support, same_vars}
use Rattle.register.specs.declared.index.Entry.{Entry}
use Rattle.register.specs.Index.{entry_at, entry_span, last_f, only_if, slot_at, newest_slot, row_by_hash}

-- ---- the last number that passes a test

module _ (p : ℕ → Bool) where
  pub last_below : (j : ℕ) → 0 < j → p (j - 1) ≡ false → last_f j p ≡ last_f (j - 1) p
  unfolding last_f
  last_below zero h e = absurd (omega arith)
  last_below (suc j) h e = let m : suc j - 1 ≡ j = omega arith in rw m (simp (rw m at e))

  pub last_here : (j : ℕ) → 0 < j → p (j - 1) ≡ true → last_f j p ≡ Some (j - 1)
  unfolding last_f
  last_here zero h e = absurd (omega arith)
  last_here (suc j) h e = let m : suc j - 1 ≡ j = omega arith in rw m (simp (rw m at e))

  pub last_end : (j : ℕ) → j ≤ 0 → last_f j p ≡ None
  unfolding last_f
  last_end zero h = refl
  last_end (suc j) h = absurd (omega arith)

  -- it is below the bound
  pub last_lt : (n : ℕ) → IfSome (last_f n p) (λ k. k < n)
  unfolding last_f
  last_lt zero = tt
  last_lt (suc n) = go (p n) (last_f n p) (last_lt n)
    where
      go : (b : Bool) (x : Option ℕ) → IfSome x (λ k. k < n)
          → IfSome (when {A = Option ℕ} b (λ _. Some n) (λ _. x)) (λ k. k < suc n)
      go true x h = omega arith
      go false None h = tt
      go false (Some k) h = omega (arith, h)

-- ---- the slot of an atom

module _ (hash : ℕ) (t out : List ℕ) (e : Entry) where
  pub slot_other_hash : (e.hash ≡ hash → ⊥) → slot_at hash (decode t) out e ≡ false
  unfolding slot_at
  slot_other_hash d = simp (ne_eqb e.hash hash d)

  pub slot_vars : e.hash ≡ hash → slot_at hash (decode t) out e ≡ same_vars (decode (entry_span out e)) (decode t)
  unfolding slot_at
  slot_vars h = simp (eq-eqb e.hash hash h)

  -- the same bytes have the same variables
  pub slot_same : e.hash ≡ hash → eq_list (entry_span out e) t ≡ true → slot_at hash (decode t) out e ≡ true
  unfolding same_vars
  slot_same h same =
      slot_vars h
      ∙ ap (λ (s : List ℕ). same_vars (decode s) (decode t)) (eq_of_eq_list (entry_span out e) t same)
      ∙ eq_list_self (support (decode t))

-- ---- the row by its hash

module _ (n hash : ℕ) (t : List ℕ) (index : List Entry) (out : List ℕ) where
  pub hash_none : newest_slot n hash (decode t) index out ≡ None → row_by_hash n hash t index out ≡ None
  unfolding row_by_hash only_if
  hash_none e = rw e refl

  module _ (j : ℕ) (e : newest_slot n hash (decode t) index out ≡ Some j) where
    pub hash_found : eq_list (entry_span out (entry_at index j)) t ≡ true → row_by_hash n hash t index out ≡ Some j
    unfolding row_by_hash only_if
    hash_found same = rw e (simp same)

    pub hash_differs : eq_list (entry_span out (entry_at index j)) t ≡ false → row_by_hash n hash t index out ≡ None
    unfolding row_by_hash only_if
    hash_differs same = rw e (simp same)

    pub newest_lt : j < n
    unfolding newest_slot
    newest_lt = rw e at (last_lt (λ i. slot_at hash (decode t) out (entry_at index i)) n)

-- ---- keys

-- the library's test of two arrays
pub pointwise_eq : (l m : List ℕ) → pointwise eqb l m ≡ eq_list l m
unfolding eq_list
pointwise_eq [] [] = refl
pointwise_eq [] (y ∷ m) = refl
pointwise_eq (x ∷ l) [] = refl
pointwise_eq (x ∷ l) (y ∷ m) = rw (pointwise_eq l m) refl
