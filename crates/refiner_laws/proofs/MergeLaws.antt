-- Laws of the merges of group/specs/Steps.antt: the entries of one coefficient, and pairs. Each join is of live entries
-- without a bit in common, at a coefficient that both may have.
use mathlib.Core.Path.{◌≡◌, refl, ap, sym, subst}
use Prim.Native.Nat.{ℕ, ◌+◌, ◌*◌, ◌^◌, ◌≤◌, ◌<◌}
use native.Mathlib.Omega.{arith}
use native.Mathlib.Nat.{lt_of_lt_of_le}
use mathlib.Core.List.{List, [], ◌∷◌}
use mathlib.Core.Bool.{Bool, true, false, not, ◌&&◌, ◌||◌}
use lib.Bits.{bit_and}
use lib.Dec.{eqb, ltb}
use lib.Pow.{pow_mono}
use borrow.Author.Tests.{eqb-true, ltb-true}
use Rattle.arith.specs.Congruence.{Eqm}
use Rattle.arith.specs.Effective.{can_change_coefficient_to}
use Rattle.arith.proofs.CongruenceLaws.{eqm_of_eq, eqm_refl}
use Rattle.arith.proofs.EffectiveLaws.{coefficient_sound}
use Rattle.record.specs.Tree.{Tree}
use Rattle.base.proofs.BoolLaws.{false_true, and_true}
use Rattle.expr.specs.Value.{value}
use Rattle.group.specs.declared.Group.{Group}
use Rattle.semilinear.specs.Form.{Row, is_atom_tree}
use Rattle.base.specs.Loop.{for_in, first_in}
use Rattle.group.specs.Group.{Entry, at, is_live, Work}
use Rattle.base.proofs.LoopLaws.{first_true, for_keeps}
use Rattle.base.proofs.LoopLaws.{when_both}
use Rattle.group.specs.Steps.{join_at, slot_fits, place_at, place_bucket, bucket_keys, place_buckets, bucket_merge}
use Rattle.group.specs.Steps.{pair_at, pair_merge}
use Rattle.refiner_laws.proofs.KeptLaws.{KeptWork}
use Rattle.refiner_laws.proofs.StepsLaws.{CanJoin, live_fits, join_keeps}

not_false : (a : Bool) → not a ≡ false → a ≡ true
not_false true e = refl
not_false false e = sym e

nor_false : (a b : Bool) → not a || not b ≡ false → (a ≡ true) × (b ≡ true)
nor_false true b e = (refl, not_false b e)
nor_false false b e = false_true (sym e)

module _ (w : ℕ) (hw : w ≤ 64) (vars : List ℕ) (b : Tree) (hb : is_atom_tree b ≡ true) (g0 : Group)
    (rows0 : List Row) where
  abbrev K : Work → Type 0
  K x = KeptWork w vars b g0 rows0 x

  abbrev v : ℕ
  v = value w vars b

  -- ---- the entries of one coefficient

  slot_joins : (k r : ℕ) (g : Group) (f : Entry) → k < 2 ^ w → is_live f ≡ true → f.coeff ≡ k
      → slot_fits k f.mask g r ≡ true → CanJoin w v k (at g r) f
  unfolding slot_fits
  slot_joins k r g f hk live same t =
      let e = at g r in
      let p = and_true (is_live e) (eqb e.coeff k && eqb (bit_and e.mask f.mask) 0) t in
      let q = and_true (eqb e.coeff k) (eqb (bit_and e.mask f.mask) 0) p.1 in
      record {
        live_l = p.0;
        live_r = live;
        disjoint = eqb-true _ _ q.1;
        coeff_lt = hk;
        change_l = eqm_of_eq (ap (λ (c : ℕ). c * bit_and v e.mask) (eqb-true e.coeff k q.0));
        change_r = eqm_of_eq (ap (λ (c : ℕ). c * bit_and v f.mask) same);
      }

  place_keeps : (k i : ℕ) (x : Work) → i < g0.len → K x → K (place_at w b k i x)
  unfolding place_at
  place_keeps k i x l h =
      let f = at x.group i in
      let fits = slot_fits k f.mask x.group in
      let slot = first_in fits 0 i in
      when_both K (is_live f && eqb f.coeff k) _ x
      (λ t.
      let p = and_true (is_live f) (eqb f.coeff k) t in
      let same : f.coeff ≡ k = eqb-true f.coeff k p.1 in
      let hk : k < 2 ^ w =
      subst (λ (c : ℕ). c < 2 ^ w) same (live_fits w hw vars b hb g0 rows0 x h i l p.0).coeff_lt in
      when_both K (ltb slot i) _ x
      (λ u.
      let hs : slot < i = ltb-true slot i u in
      join_keeps w hw vars b hb g0 rows0 k slot i x h hs l
      (slot_joins k slot x.group f hk p.0 same (first_true fits 0 i hs)))
      (λ u. h))
      (λ t. h)

  buckets_keep : (l : List ℕ) (x : Work) → K x → K (place_buckets w b l x)
  unfolding place_buckets place_bucket
  buckets_keep [] x h = h
  buckets_keep (k ∷ l) x h =
      buckets_keep l _
      (for_keeps K (place_at w b k) 0 x.group.len x
      (λ i y a u kept. place_keeps k i y (subst (λ (n : ℕ). i < n) h.len_same u) kept) h)

  pub bucket_keeps : (x : Work) → K x → K (bucket_merge w b x)
  unfolding bucket_merge
  bucket_keeps x h = buckets_keep (bucket_keys x.group) x h

  -- ---- pairs

  changed : (old new m : ℕ) → new < 2 ^ w → can_change_coefficient_to old new m w ≡ true
      → Eqm (2 ^ w) (old * bit_and v m) (new * bit_and v m)
  changed old new m hn t = coefficient_sound old new m w hw (lt_of_lt_of_le hn (pow_mono hw)) t v

  module _ (i j : ℕ) (x : Work) (l : i < j) (lj : j < g0.len) (h : K x) where
    abbrev e : Entry
    e = at x.group i

    abbrev f : Entry
    f = at x.group j

    module _ (live-e : is_live e ≡ true) (live-f : is_live f ≡ true) (apart : bit_and e.mask f.mask ≡ 0) where
      e_lt : e.coeff < 2 ^ w
      e_lt = (live_fits w hw vars b hb g0 rows0 x h i (omega arith) live-e).coeff_lt

      f_lt : f.coeff < 2 ^ w
      f_lt = (live_fits w hw vars b hb g0 rows0 x h j lj live-f).coeff_lt

      join_first : Eqm (2 ^ w) (f.coeff * bit_and v f.mask) (e.coeff * bit_and v f.mask)
          → K (join_at w b e.coeff i j x)
      join_first change =
          join_keeps w hw vars b hb g0 rows0 e.coeff i j x h l lj
          (record {
            live_l = live-e;
            live_r = live-f;
            disjoint = apart;
            coeff_lt = e_lt;
            change_l = eqm_refl (e.coeff * bit_and v e.mask);
            change_r = change;
          })

      join_second : Eqm (2 ^ w) (e.coeff * bit_and v e.mask) (f.coeff * bit_and v e.mask)
          → K (join_at w b f.coeff i j x)
      join_second change =
          join_keeps w hw vars b hb g0 rows0 f.coeff i j x h l lj
          (record {
            live_l = live-e;
            live_r = live-f;
            disjoint = apart;
            coeff_lt = f_lt;
            change_l = change;
            change_r = eqm_refl (f.coeff * bit_and v f.mask);
          })

    pair_keeps : K (pair_at w b i j x)
    unfolding pair_at
    pair_keeps =
        when_both K (not (is_live e) || not (is_live f)) x _ (λ t. h)
        (λ t. when_both K (not (eqb (bit_and e.mask f.mask) 0)) x _ (λ u. h)
        (λ u.
        let p = nor_false (is_live e) (is_live f) t in
        let apart = eqb-true (bit_and e.mask f.mask) 0 (not_false _ u) in
        when_both K (eqb e.coeff f.coeff) _ _
        (λ q. join_first p.0 p.1 apart
        (eqm_of_eq (ap (λ (c : ℕ). c * bit_and v f.mask) (sym (eqb-true e.coeff f.coeff q)))))
        (λ q. when_both K (can_change_coefficient_to f.coeff e.coeff f.mask w) _ _
        (λ r. join_first p.0 p.1 apart
        (changed f.coeff e.coeff f.mask (e_lt p.0 p.1 apart) r))
        (λ r. when_both K (can_change_coefficient_to e.coeff f.coeff e.mask w) _ x
        (λ s. join_second p.0 p.1 apart
        (changed e.coeff f.coeff e.mask (f_lt p.0 p.1 apart) s))
        (λ s. h)))))

  pub pair_merge_keeps : (x : Work) → K x → K (pair_merge w b x)
  unfolding pair_merge
  pair_merge_keeps x h =
      let n : x.group.len ≡ g0.len = h.len_same in
      for_keeps K (λ i. for_in (pair_at w b i) (i + 1) x.group.len) 0 x.group.len x
      (λ i y a l k.
      for_keeps K (pair_at w b i) (i + 1) x.group.len y
      (λ j z a l k. pair_keeps i j z (omega arith) (omega (arith, n)) k) k)
      h
