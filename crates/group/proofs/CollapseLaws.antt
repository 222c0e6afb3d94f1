-- Laws of the three-term collapse (specs/Collapse.antt): what is true of the three entries that are found, and the step
-- on them as the code does it.
use Rattle.made.specs.declared.Made.{Made}
use mathlib.Core.Path.{◌≡◌, refl, ap, sym, subst, ◌∙◌}
use mathlib.Core.Logic.{◌≢◌}
use Prim.Native.Nat.{ℕ, ◌+◌, ◌≤◌, ◌<◌}
use native.Mathlib.Omega.{arith}
use mathlib.Core.List.{List}
use mathlib.Core.Bool.{true, not}
use lib.ListN.{length, get_or}
use lib.Bits.{bit_and, bit_or}
use lib.Dec.{eqb, ltb}
use borrow.Author.Tests.{eqb-true, eqb-false, lt-ltb, le-ltb, ltb-true, not-true}
use Rattle.arith.specs.Width.{mod_add}
use Rattle.record.specs.Tree.{Tree}
use Rattle.base.proofs.BoolLaws.{and_true}
use Rattle.base.proofs.LoopLaws.{first_from, first_true}
use Rattle.semilinear.specs.Form.{Row}
use Rattle.group.specs.declared.Group.{Group}
use Rattle.group.specs.Group.{at, put_entry, is_live, consumed, Work, work}
use Rattle.made.specs.Rows.{create_masked}
use Rattle.group.specs.Steps.{remasked}
use Rattle.group.specs.Collapse.{third_fits, find_third, second_fits, find_second, first_fits, find_first, collapse_at}
use Rattle.group.specs.Collapse.{three_term_collapse}
use Rattle.made.specs.Made.{Grew}
use Rattle.group.specs.Made.{Stands, Stepped}
use Rattle.group.proofs.SteppedLaws.{stepped_of}

-- ---- the three entries

-- three live entries: the third meets neither of the others, and its coefficient is their sum
pub record Collapsible (w : ℕ) (g : Group) (i j k : ℕ) : Type 0 where
  pub i_lt : i < g.len
  pub j_lt : j < g.len
  pub k_lt : k < g.len
  pub j_not_i : j ≢ i
  pub k_not_i : k ≢ i
  pub k_not_j : k ≢ j
  pub live_i : is_live (at g i) ≡ true
  pub live_j : is_live (at g j) ≡ true
  pub live_k : is_live (at g k) ≡ true
  pub sum : (at g k).coeff ≡ mod_add (at g i).coeff (at g j).coeff w
  pub apart_i : bit_and (at g i).mask (at g k).mask ≡ 0
  pub apart_j : bit_and (at g j).mask (at g k).mask ≡ 0

module _ (w : ℕ) (g : Group) where
  collapsible_of_tests : (i j k : ℕ) → i < j → i < g.len → j < g.len → k < g.len → is_live (at g i) ≡ true
      → is_live (at g j) ≡ true → third_fits w g i j k ≡ true → Collapsible w g i j k
  unfolding third_fits
  collapsible_of_tests i j k l li lj lk live_i live_j t =
      let p = and_true (not (eqb k i)) _ t in
      let q = and_true (not (eqb k j)) _ p.1 in
      let r = and_true (is_live (at g k)) _ q.1 in
      let s = and_true (eqb (at g k).coeff (mod_add (at g i).coeff (at g j).coeff w)) _ r.1 in
      let u = and_true (eqb (bit_and (at g i).mask (at g k).mask) 0) _ s.1 in
      record {
        i_lt = li;
        j_lt = lj;
        k_lt = lk;
        j_not_i = λ (z : j ≡ i). omega arith;
        k_not_i = eqb-false k i (not-true (eqb k i) p.0);
        k_not_j = eqb-false k j (not-true (eqb k j) q.0);
        live_i = live_i;
        live_j = live_j;
        live_k = r.0;
        sum = eqb-true _ _ s.0;
        apart_i = eqb-true _ _ u.0;
        apart_j = eqb-true _ _ u.1;
      }

  first_parts : find_first w g < g.len
      → (is_live (at g (find_first w g)) ≡ true) × (ltb (find_second w g (find_first w g)) g.len ≡ true)
  unfolding find_first first_fits
  first_parts l = and_true _ _ (first_true (first_fits w g) 0 g.len l)

  second_parts : (i : ℕ) → find_second w g i < g.len
      → (is_live (at g (find_second w g i)) ≡ true) × (ltb (find_third w g i (find_second w g i)) g.len ≡ true)
  unfolding find_second second_fits
  second_parts i l = and_true _ _ (first_true (second_fits w g i) (i + 1) g.len l)

  second_after : (i : ℕ) → i + 1 ≤ find_second w g i
  unfolding find_second
  second_after i = first_from (second_fits w g i) (i + 1) g.len

  third_fits_lem : (i j : ℕ) → find_third w g i j < g.len → third_fits w g i j (find_third w g i j) ≡ true
  unfolding find_third
  third_fits_lem i j l = first_true (third_fits w g i j) 0 g.len l

  pub found_collapsible : find_first w g < g.len
      → Collapsible w g (find_first w g) (find_second w g (find_first w g))
      (find_third w g (find_first w g) (find_second w g (find_first w g)))
  found_collapsible l =
      let i = find_first w g in
      let j = find_second w g i in
      let k = find_third w g i j in
      let p = first_parts l in
      let lj : j < g.len = ltb-true j g.len p.1 in
      let q = second_parts i lj in
      let lk : k < g.len = ltb-true k g.len q.1 in
      collapsible_of_tests i j k (omega (arith, second_after i)) l lj lk p.0 q.0 (third_fits_lem i j lk)

-- ---- the step on three entries

abbrev pub both_masks : Group → ℕ → ℕ → ℕ
both_masks g i k = bit_or (at g i).mask (at g k).mask

-- the group after the collapse; n rows before
abbrev pub collapsed : Group → ℕ → ℕ → ℕ → ℕ → Group
collapsed g i j k n =
    put_entry
    (put_entry (put_entry g i (remasked (at g i) (both_masks g i k) n))
    j (remasked (at g j) (both_masks g j k) (n + 1)))
    k (consumed (at g k))

module _ (w : ℕ) (t : Tree) (i j k : ℕ) where
  collapse_at_is : (g : Group) (l : List Row)
      → collapse_at w t i j k (work g l)
      ≡ work (collapsed g i j k (length l)) (create_masked w t (both_masks g j k) (create_masked w t (both_masks g i k) l))
  unfolding collapse_at work
  collapse_at_is g l = refl

  pub collapsed_stepped : {g r : Group} {made : Made} {out : List ℕ} {made' : Made} {out' : List ℕ} {made'' : Made} {out'' : List ℕ}
      → Grew w 1 (create_masked w t (both_masks g i k)) made out made' out'
      → Grew w 1 (create_masked w t (both_masks g j k)) made' out' made'' out''
      → r ≡ collapsed g i j k made.rows
      → Stepped w 2 (collapse_at w t i j k) g made out r made'' out''
  unfolding work put_entry
  collapsed_stepped {g} {r} {made'' = made''} {out'' = out''} one two e =
      stepped_of two.room
      (record {
        rows_le = omega (arith, one.later.rows_le, two.later.rows_le);
        constant = two.later.constant ∙ one.later.constant;
      })
      (two.long ∙ one.long) (ap (λ (x : Group). x.len) e)
      (λ l held.
      subst (Stands w r made'' out'') (sym (collapse_at_is g l))
      (record {
        same = e ∙ ap (collapsed g i j k) held.rows;
        held = two.held _ (one.held l held);
      }))

-- ---- the step on the entries that are found

module _ (w : ℕ) (t : Tree) (x : Work) where
  pub collapse_none : (find_first w x.group < x.group.len → ⊥) → three_term_collapse w t x ≡ x
  unfolding three_term_collapse
  collapse_none h =
      let l : x.group.len ≤ find_first w x.group = omega arith in
      simp (le-ltb (find_first w x.group) x.group.len l)

  pub collapse_found : find_first w x.group < x.group.len
      → collapse_at w t (find_first w x.group) (find_second w x.group (find_first w x.group))
      (find_third w x.group (find_first w x.group) (find_second w x.group (find_first w x.group))) x
      ≡ three_term_collapse w t x
  unfolding three_term_collapse
  collapse_found l = sym (simp (lt-ltb (find_first w x.group) x.group.len l))
