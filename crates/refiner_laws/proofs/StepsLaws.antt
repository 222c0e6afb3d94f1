-- Laws of group/specs/Steps.antt: the cut of masks, the changes of coefficients and the join of two entries keep the
-- sum of the live entries modulo 2 ^ w, and what else `KeptWork` says.
use mathlib.Core.Path.{◌≡◌, refl, ap₂, sym, subst, ◌∙◌}
use Prim.Native.Nat.{ℕ, ◌+◌, ◌-◌, ◌*◌, ◌^◌, ◌≤◌, ◌<◌}
use native.Mathlib.Omega.{arith}
use native.Mathlib.Nat.{lt_of_le_of_lt, lt_of_lt_of_le, add-zero, zero-mul}
use mathlib.Core.List.{List}
use mathlib.Core.Bool.{true, not, ◌&&◌}
use lib.ListN.{length}
use lib.Bits.{bit_and, bit_or, and_le_l, or_lt}
use lib.Dec.{eqb}
use lib.Pow.{pow_mono, pow_pos, ones_lt}
use Rattle.arith.specs.Congruence.{Eqm}
use Rattle.arith.specs.Effective.{effective_mask, reduce_mask, can_change_coefficient_to}
use Rattle.arith.proofs.CongruenceLaws.{eqm_of_eq, eqm_sym, eqm_trans, eqm_add}
use Rattle.arith.proofs.MaskLaws.{terms_merge}
use Rattle.arith.proofs.EffectiveLaws.{reduce_eqm, coefficient_sound}
use Rattle.record.specs.Tree.{Tree}
use Rattle.base.proofs.BoolLaws.{false_true, and_true}
use Rattle.expr.specs.Value.{value}
use Rattle.group.specs.declared.Group.{Group}
use Rattle.semilinear.specs.Form.{Row, is_atom_tree}
use Rattle.group.specs.Group.{Entry, at, is_live, consumed, Work, work}
use Rattle.made.specs.Rows.{create_masked}
use Rattle.group.proofs.TotalLaws.{worth, worth_live, worth_consumed, live_mark_lem, live_consumed}
use Rattle.group.proofs.WorkLaws.{Grown, grown_refl, grown_masked}
use Rattle.base.proofs.LoopLaws.{when_both, for_keeps}
use Rattle.group.specs.Steps.{remasked, cut_at, cut_masks, drop_at, drop_zero, join_at, minus_one_at, to_minus_one}
use Rattle.refiner_laws.proofs.KeptLaws.{any_entry, KeptWork, kept_one, kept_two}
use Rattle.group.proofs.FitsLaws.{Fits, fits_made}

-- ---- entries

-- a consumed entry is not live
pub consumed_any : {A : Type 0} (e : Entry) → is_live (consumed e) ≡ true → A
consumed_any e h = false_true (sym (live_consumed e) ∙ h)

pub worth_eqm : (M x : ℕ) (e f : Entry) → is_live e ≡ true → is_live f ≡ true
    → Eqm M (e.coeff * bit_and x e.mask) (f.coeff * bit_and x f.mask) → Eqm M (worth x e) (worth x f)
worth_eqm M x e f he hf h =
    eqm_trans (eqm_of_eq (worth_live x e he)) (eqm_trans h (eqm_of_eq (sym (worth_live x f hf))))

-- live entries without a bit in common, whose coefficients may both be c beside a basis of value x
pub record CanJoin (w x c : ℕ) (e f : Entry) : Type 0 where
  pub live_l : is_live e ≡ true
  pub live_r : is_live f ≡ true
  pub disjoint : bit_and e.mask f.mask ≡ 0
  pub coeff_lt : c < 2 ^ w
  pub change_l : Eqm (2 ^ w) (e.coeff * bit_and x e.mask) (c * bit_and x e.mask)
  pub change_r : Eqm (2 ^ w) (f.coeff * bit_and x f.mask) (c * bit_and x f.mask)

module _ (w : ℕ) (hw : w ≤ 64) (vars : List ℕ) (b : Tree) (hb : is_atom_tree b ≡ true) (g0 : Group)
    (rows0 : List Row) where
  abbrev K : Work → Type 0
  K x = KeptWork w vars b g0 rows0 x

  abbrev v : ℕ
  v = value w vars b

  pub grown_mask : (m : ℕ) (l : List Row) → m < 2 ^ w → Grown w vars l (create_masked w b m l)
  grown_mask m l hm = grown_masked w vars b m l hb (lt_of_lt_of_le hm (pow_mono hw))

  -- a live entry fits
  pub live_fits : (x : Work) → K x → (i : ℕ) → i < g0.len → is_live (at x.group i) ≡ true
      → Fits w vars b any_entry x.rows (at x.group i)
  live_fits x h i l live = h.all_fit.fit i (subst (λ (n : ℕ). i < n) (sym h.len_same) l) live

  -- ---- the masks cut

  cut_keeps : (i : ℕ) (x : Work) → i < g0.len → K x → K (cut_at w b i x)
  unfolding cut_at remasked reduce_mask
  cut_keeps i x l h =
      let e = at x.group i in
      let m = reduce_mask e.coeff e.mask w in
      when_both K (is_live e && not (eqb m e.mask)) _ x
      (λ t.
      let live = (and_true (is_live e) (not (eqb m e.mask)) t).0 in
      let f = live_fits x h i l live in
      let hm : m < 2 ^ w = lt_of_le_of_lt (and_le_l e.mask (effective_mask e.coeff w)) (f.masked tt).mask_lt in
      let new : Entry = remasked e m (length x.rows) in
      kept_one w vars b g0 rows0 x h (create_masked w b m x.rows) (grown_mask m x.rows hm) i new l
      (worth_eqm (2 ^ w) v new e (live_mark_lem new e refl ∙ live) live (reduce_eqm e.coeff w v e.mask hw))
      (λ _. fits_made w vars b any_entry x.rows e.coeff m e.mark f.coeff_lt hm))
      (λ t. h)

  pub cut_masks_keep : (x : Work) → K x → K (cut_masks w b x)
  unfolding cut_masks
  cut_masks_keep x h =
      for_keeps K (cut_at w b) 0 x.group.len x
      (λ i y a l k. cut_keeps i y (subst (λ (n : ℕ). i < n) h.len_same l) k) h

  -- ---- coefficients changed

  drop_keeps : (l : List Row) (i : ℕ) (g : Group) → i < g0.len → K (work g l) → K (work (drop_at w i g) l)
  unfolding drop_at work
  drop_keeps l i g hi h =
      let e = at g i in
      let test = can_change_coefficient_to e.coeff 0 e.mask w in
      when_both (λ (r : Group). K (work r l)) (is_live e && test) _ g
      (λ t.
      let p = and_true (is_live e) test t in
      kept_one w vars b g0 rows0 (work g l) h l (grown_refl w vars l) i (consumed e) hi
      (eqm_sym
      (eqm_trans (eqm_of_eq (worth_live v e p.0))
      (eqm_trans (coefficient_sound e.coeff 0 e.mask w hw (pow_pos 64) p.1 v)
      (eqm_of_eq (zero-mul (bit_and v e.mask) ∙ sym (worth_consumed v e))))))
      (consumed_any e))
      (λ t. h)

  pub drop_zero_keeps : (g : Group) (l : List Row) → K (work g l) → K (work (drop_zero w g) l)
  unfolding drop_zero work
  drop_zero_keeps g l h =
      for_keeps (λ (r : Group). K (work r l)) (drop_at w) 0 g.len g
      (λ i r a u k. drop_keeps l i r (subst (λ (n : ℕ). i < n) h.len_same u) k) h

  minus_one_at_keeps : (l : List Row) (i : ℕ) (g : Group) → i < g0.len → K (work g l) → K (work (minus_one_at w i g) l)
  unfolding minus_one_at work
  minus_one_at_keeps l i g hi h =
      let e = at g i in
      let test = can_change_coefficient_to e.coeff (2 ^ w - 1) e.mask w in
      let new : Entry = record { coeff = 2 ^ w - 1; mask = e.mask; atom = e.atom; mark = e.mark } in
      let other = not (eqb e.coeff (2 ^ w - 1)) in
      when_both (λ (r : Group). K (work r l)) (is_live e && (other && test)) _ g
      (λ t.
      let p = and_true (is_live e) (other && test) t in
      let q = and_true other test p.1 in
      let f = live_fits (work g l) h i hi p.0 in
      kept_one w vars b g0 rows0 (work g l) h l (grown_refl w vars l) i new hi
      (eqm_sym
      (worth_eqm (2 ^ w) v e new p.0 (live_mark_lem new e refl ∙ p.0)
      (coefficient_sound e.coeff (2 ^ w - 1) e.mask w hw (lt_of_lt_of_le (ones_lt w) (pow_mono hw)) q.1 v)))
      (λ _. record {
        coeff_lt = ones_lt w;
        atom_lt = f.atom_lt;
        masked = λ p. record { mask_lt = (f.masked p).mask_lt; atom_value = (f.masked p).atom_value };
      }))
      (λ t. h)

  pub minus_one_keeps : (g : Group) (l : List Row) → K (work g l) → K (work (to_minus_one w g) l)
  unfolding to_minus_one work
  minus_one_keeps g l h =
      for_keeps (λ (r : Group). K (work r l)) (minus_one_at w) 0 g.len g
      (λ i r a u k. minus_one_at_keeps l i r (subst (λ (n : ℕ). i < n) h.len_same u) k) h

  -- ---- two entries joined

  pub join_keeps : (c i j : ℕ) (x : Work) → K x → i < j → j < g0.len
      → CanJoin w v c (at x.group i) (at x.group j) → K (join_at w b c i j x)
  unfolding join_at
  join_keeps c i j x h l lj p =
      let e = at x.group i in
      let f = at x.group j in
      let li : i < g0.len = omega arith in
      let m = bit_or e.mask f.mask in
      let hm : m < 2 ^ w =
      or_lt w e.mask f.mask ((live_fits x h i li p.live_l).masked tt).mask_lt
      ((live_fits x h j lj p.live_r).masked tt).mask_lt in
      let new : Entry = record { coeff = c; mask = m; atom = length x.rows; mark = e.mark } in
      let both : worth v new + worth v (consumed f) ≡ c * bit_and v e.mask + c * bit_and v f.mask =
      ap₂ (λ (y z : ℕ). y + z) (worth_live v new (live_mark_lem new e refl ∙ p.live_l)) (worth_consumed v f)
      ∙ add-zero (c * bit_and v m)
      ∙ sym (terms_merge c v e.mask f.mask p.disjoint) in
      kept_two w vars b g0 rows0 x h (create_masked w b m x.rows) (grown_mask m x.rows hm) i j new (consumed f)
      (λ (z : j ≡ i). omega arith) li lj
      (λ _. fits_made w vars b any_entry x.rows c m e.mark p.coeff_lt hm)
      (consumed_any f)
      (eqm_trans (eqm_of_eq both)
      (eqm_sym
      (eqm_add
      (eqm_trans (eqm_of_eq (worth_live v e p.live_l)) p.change_l)
      (eqm_trans (eqm_of_eq (worth_live v f p.live_r)) p.change_r))))
