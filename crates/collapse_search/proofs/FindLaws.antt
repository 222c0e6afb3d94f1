-- Laws of the search for the three entries of a collapse (group/specs/Collapse.antt) as the code does it.
use mathlib.Core.Path.{◌≡◌, ap, ap₂, sym, ◌∙◌}
use Prim.Native.Nat.{ℕ, ◌+◌, ◌≤◌, ◌<◌}
use native.Mathlib.Omega.{arith}
use native.Mathlib.Decide.{ℕ_discrete}
use mathlib.Core.Bool.{Bool, false, true, not, ◌&&◌}
use lib.Bits.{bit_and}
use lib.Dec.{eqb, ltb}
use borrow.Author.Tests.{eq-eqb, ne_eqb, lt-ltb, le-ltb}
use Rattle.std.specs.Prelude.{Option, None, Some}
use Rattle.arith.specs.Width.{mod_add}
use Rattle.base.specs.Loop.{first_in}
use Rattle.base.proofs.BoolLaws.{and_true}
use Rattle.base.proofs.LoopLaws.{first_next, first_here, first_end}
use Rattle.base.proofs.SearchLaws.{first_none, first_as}
use Rattle.entries.specs.Found.{found_below}
use Rattle.entries.proofs.FoundLaws.{is_below, is_past}
use Rattle.group.specs.declared.Group.{Group}
use Rattle.collapse_search.specs.declared.find.Two.{Two}
use Rattle.collapse_search.specs.declared.find.Three.{Three}
use Rattle.group.specs.Group.{Entry, used, at, is_live}
use Rattle.group.specs.Collapse.{third_fits, find_third, second_fits, find_second, first_fits, find_first}
use Rattle.group.proofs.EntryLaws.{used_at, length_used}
use Rattle.collapse_search.specs.Links.{lent, apart_at, third_in, second_in, FoundTwo, FoundThree}
use Rattle.group.proofs.SearchLaws.{false_of_implied, when_ltb, when_found}
use Rattle.collapse_search.proofs.ThirdLaws.{third_apart}

-- ---- the second entry

module _ (w : ℕ) (g : Group) (i : ℕ) where
  second_fits_is : (j : ℕ) → second_fits w g i j ≡ ltb (third_in w g i j) g.len
  unfolding second_fits third_in
  second_fits_is j = when_ltb (find_third w g i j) g.len (is_live (at g j))

  second_dead : is_live (at g i) ≡ false → second_in w g i ≡ g.len
  unfolding second_in
  second_dead e = simp e

  second_live : is_live (at g i) ≡ true → second_in w g i ≡ find_second w g i
  unfolding second_in
  second_live e = simp e

  -- no second entry where no third entry fits
  second_none : i < g.len → ((j k : ℕ) → i < j → j < g.len → k < g.len → third_fits w g i j k ≡ false)
      → find_second w g i ≡ g.len
  unfolding find_second find_third second_fits
  second_none l fails =
      first_none (second_fits w g i) (i + 1) g.len (omega arith)
      (λ j a u.
      let none = first_none (third_fits w g i j) 0 g.len (omega arith) (λ k _ v. fails j k (omega arith) u v) in
      false_of_implied (second_fits w g i j) (ltb (find_third w g i j) g.len)
      (λ t. (and_true (is_live (at g j)) (ltb (find_third w g i j) g.len) t).1)
      (le-ltb (find_third w g i j) g.len (omega (arith, none))))

  pub two_dead : is_live (at g i) ≡ false → FoundTwo w g i None
  unfolding FoundTwo
  two_dead e = omega (arith, second_dead e)

  module _ (live : is_live (at g i) ≡ true) where
    pub two_apart : i < g.len → ((k : ℕ) → k < g.len → apart_at g (at g i).mask k ≡ false) → FoundTwo w g i None
    unfolding FoundTwo
    two_apart l fails =
        let none = second_none l
        (λ j k _ _ u. false_of_implied (third_fits w g i j k) _ (third_apart w g i j k) (fails k u)) in
        omega (arith, second_live live, none)

    -- the search has come to j
    module _ (j : ℕ) (h : find_second w g i ≡ first_in (second_fits w g i) j g.len) where
      pub two_end : g.len ≤ j → FoundTwo w g i None
      unfolding FoundTwo
      two_end b = omega (arith, second_live live, h, first_end (second_fits w g i) j g.len b)

      module _ (l : j < g.len) {o : Option ℕ} (e : o ≡ found_below g.len (third_in w g i j)) where
        pub two_found : {k : ℕ} → o ≡ Some k → FoundTwo w g i (Some (record { second = j; third = k }))
        unfolding FoundTwo third_in
        two_found {k} d =
            let p = is_below (sym e ∙ d) in
            let u : third_in w g i j < g.len = omega (arith, p.0, p.1) in
            let fits = second_fits_is j ∙ lt-ltb (third_in w g i j) g.len u in
            record {
              second_is = sym (second_live live ∙ h ∙ first_here (second_fits w g i) j g.len l fits);
              second_lt = l;
              third_is = p.0 ∙ when_found (find_third w g i j) g.len (is_live (at g j)) u;
            }

        pub two_next : o ≡ None → find_second w g i ≡ first_in (second_fits w g i) (j + 1) g.len
        two_next d =
            let fails = second_fits_is j ∙ le-ltb (third_in w g i j) g.len (is_past (sym e ∙ d)) in
            h ∙ first_next (second_fits w g i) j g.len l fails

-- ---- the first entry

module _ (w : ℕ) (g : Group) where
  first_fits_is : (i : ℕ) → first_fits w g i ≡ ltb (second_in w g i) g.len
  unfolding first_fits second_in
  first_fits_is i = when_ltb (find_second w g i) g.len (is_live (at g i))

  -- three entries are none of two
  third_few : g.len < 3 → (i j k : ℕ) → i < j → j < g.len → k < g.len → third_fits w g i j k ≡ false
  unfolding third_fits
  third_few few i j k l u v = go (ℕ_discrete k i)
    where
      go : Dec (k ≡ i) → third_fits w g i j k ≡ false
      go (yes e) = simp (eq-eqb k i e)
      go (no e) = let q : k ≡ j = omega arith in simp (ne_eqb k i e, eq-eqb k j q)

  first_few : g.len < 3 → find_first w g ≡ g.len
  unfolding find_first first_fits
  first_few few =
      first_none (first_fits w g) 0 g.len (omega arith)
      (λ i _ u.
      let none = second_none w g i u (third_few few i) in
      false_of_implied (first_fits w g i) (ltb (find_second w g i) g.len)
      (λ t. (and_true (is_live (at g i)) (ltb (find_second w g i) g.len) t).1)
      (le-ltb (find_second w g i) g.len (omega (arith, none))))

  pub three_few : g.len < 3 → FoundThree w g None
  unfolding FoundThree
  three_few few = omega (arith, first_few few)

  -- the search has come to i
  module _ (i : ℕ) (h : find_first w g ≡ first_in (first_fits w g) i g.len) where
    pub three_end : g.len ≤ i → FoundThree w g None
    unfolding FoundThree
    three_end b = omega (arith, h, first_end (first_fits w g) i g.len b)

    module _ (l : i < g.len) where
      pub three_found : (r : Two) → FoundTwo w g i (Some r)
          → FoundThree w g (Some (record { first = i; second = r.second; third = r.third }))
      unfolding FoundTwo FoundThree second_in
      three_found r p =
          let u : second_in w g i < g.len = omega (arith, p.second_is, p.second_lt) in
          let fits = first_fits_is i ∙ lt-ltb (second_in w g i) g.len u in
          record {
            first_is = sym (h ∙ first_here (first_fits w g) i g.len l fits);
            first_lt = l;
            second_is = p.second_is ∙ when_found (find_second w g i) g.len (is_live (at g i)) u;
            second_lt = p.second_lt;
            third_is = p.third_is;
          }

      pub three_next : FoundTwo w g i None → find_first w g ≡ first_in (first_fits w g) (i + 1) g.len
      unfolding FoundTwo
      three_next p =
          let fails = first_fits_is i ∙ le-ltb (second_in w g i) g.len p in
          h ∙ first_next (first_fits w g) i g.len l fails

-- ---- what is found among the entries that are taken is found in the group

abbrev third_test : (w i j k : ℕ) → Entry → Entry → Entry → Bool
third_test w i j k e f d =
    not (eqb k i)
    && (not (eqb k j)
    && (is_live d
    && (eqb d.coeff (mod_add e.coeff f.coeff w)
    && (eqb (bit_and e.mask d.mask) 0 && eqb (bit_and f.mask d.mask) 0))))

-- groups that have the same entries as far as their length goes
module _ (w : ℕ) (h g : Group) (len : h.len ≡ g.len) (same : (k : ℕ) → k < g.len → at h k ≡ at g k) where
  third_same : (i j : ℕ) → i < g.len → j < g.len → find_third w h i j ≡ find_third w g i j
  unfolding find_third third_fits
  third_same i j li lj =
      ap (first_in (third_fits w h i j) 0) len
      ∙ first_as (third_fits w h i j) (third_fits w g i j) 0 g.len
      (λ k _ lk.
      ap (third_test w i j k (at h i) (at h j)) (same k lk)
      ∙ ap₂ (λ (e f : Entry). third_test w i j k e f (at g k)) (same i li) (same j lj))

  second_same : (i : ℕ) → i < g.len → find_second w h i ≡ find_second w g i
  unfolding find_second second_fits
  second_same i li =
      ap (first_in (second_fits w h i) (i + 1)) len
      ∙ first_as (second_fits w h i) (second_fits w g i) (i + 1) g.len
      (λ j _ lj.
      ap₂ (λ (e : Entry) (n : ℕ). is_live e && ltb (find_third w h i j) n) (same j lj) len
      ∙ ap (λ (n : ℕ). is_live (at g j) && ltb n g.len) (third_same i j li lj))

  first_same : find_first w h ≡ find_first w g
  unfolding find_first first_fits
  first_same =
      ap (first_in (first_fits w h) 0) len
      ∙ first_as (first_fits w h) (first_fits w g) 0 g.len
      (λ i _ li.
      ap₂ (λ (e : Entry) (n : ℕ). is_live e && ltb (find_second w h i) n) (same i li) len
      ∙ ap (λ (n : ℕ). is_live (at g i) && ltb n g.len) (second_same i li))

  found_same : (o : Option Three) → FoundThree w h o → FoundThree w g o
  unfolding FoundThree
  found_same None p = omega (arith, p, first_same, len)
  found_same (Some r) p =
      let li : r.first < g.len = omega (arith, p.first_lt, len) in
      let lj : r.second < g.len = omega (arith, p.second_lt, len) in
      record {
        first_is = p.first_is ∙ first_same;
        first_lt = li;
        second_is = p.second_is ∙ second_same r.first li;
        second_lt = lj;
        third_is = p.third_is ∙ third_same r.first r.second li lj;
      }

pub found_used : (w : ℕ) (g : Group) → (o : Option Three) → FoundThree w (lent (used g)) o
    → FoundThree w g o
unfolding at
found_used w g o p = found_same w (lent (used g)) g (length_used g) (λ k l. used_at g k l) o p
