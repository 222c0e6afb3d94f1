-- Laws of the three-term collapse (group/specs/Collapse.antt): it keeps what `KeptWork` says.
use mathlib.Core.Path.{◌≡◌, refl, ap₂, subst, ◌∙◌}
use Prim.Native.Nat.{ℕ, ◌+◌, ◌*◌, ◌^◌, ◌≤◌, ◌<◌}
use native.Mathlib.Omega.{arith}
use native.Mathlib.Nat.{add-zero}
use mathlib.Core.List.{List}
use mathlib.Core.Bool.{true}
use lib.ListN.{length}
use lib.Bits.{bit_and, bit_or, or_lt}
use lib.Dec.{ltb}
use borrow.Author.Tests.{ltb-true}
use Rattle.arith.specs.Congruence.{Eqm}
use Rattle.arith.specs.Width.{mod_add}
use Rattle.arith.proofs.CongruenceLaws.{eqm_of_eq, eqm_sym, eqm_trans}
use Rattle.arith.proofs.MaskLaws.{terms_collapse}
use Rattle.arith.proofs.WidthLaws.{mod_add_eqm}
use Rattle.record.specs.Tree.{Tree}
use Rattle.expr.specs.Value.{value}
use Rattle.group.specs.declared.Group.{Group}
use Rattle.semilinear.specs.Form.{Row, is_atom_tree}
use Rattle.group.specs.Group.{Entry, at, is_live, consumed, Work}
use Rattle.made.specs.Rows.{create_masked}
use Rattle.group.proofs.TotalLaws.{worth, worth_live, worth_consumed, live_mark_lem}
use Rattle.group.proofs.CollapseLaws.{Collapsible, found_collapsible}
use Rattle.group.proofs.WorkLaws.{grown_trans, length_masked}
use Rattle.base.proofs.LoopLaws.{when_both}
use Rattle.group.specs.Steps.{remasked}
use Rattle.group.specs.Collapse.{find_first}
use Rattle.group.specs.Collapse.{collapse_at, three_term_collapse}
use Rattle.refiner_laws.proofs.KeptLaws.{any_entry, KeptWork, kept_three}
use Rattle.group.proofs.FitsLaws.{Fits, fits_extends, fits_made}
use Rattle.refiner_laws.proofs.StepsLaws.{consumed_any, grown_mask, live_fits}

module _ (w : ℕ) (hw : w ≤ 64) (vars : List ℕ) (b : Tree) (hb : is_atom_tree b ≡ true) (g0 : Group)
    (rows0 : List Row) where
  abbrev v : ℕ
  v = value w vars b

  -- the two terms that are left come to what the three did
  collapse_sum : (c d e : Entry) (a n : ℕ) → is_live c ≡ true → is_live d ≡ true → is_live e ≡ true
      → bit_and c.mask e.mask ≡ 0 → bit_and d.mask e.mask ≡ 0 → e.coeff ≡ mod_add c.coeff d.coeff w
      → Eqm (2 ^ w)
      (worth v (remasked c (bit_or c.mask e.mask) a) + worth v (remasked d (bit_or d.mask e.mask) n)
      + worth v (consumed e))
      (worth v c + worth v d + worth v e)
  unfolding remasked
  collapse_sum c d e a n live-c live-d live-e hc hd sum =
      let new-c : Entry = remasked c (bit_or c.mask e.mask) a in
      let new-d : Entry = remasked d (bit_or d.mask e.mask) n in
      let after-c = worth_live v new-c (live_mark_lem new-c c refl ∙ live-c) in
      let after-d = worth_live v new-d (live_mark_lem new-d d refl ∙ live-d) in
      let after : worth v new-c + worth v new-d + worth v (consumed e)
      ≡ c.coeff * bit_and v (bit_or c.mask e.mask) + d.coeff * bit_and v (bit_or d.mask e.mask) =
      ap₂ (λ (y z : ℕ). y + z) (ap₂ (λ (y z : ℕ). y + z) after-c after-d) (worth_consumed v e) ∙ add-zero _ in
      let before : worth v c + worth v d + worth v e
      ≡ c.coeff * bit_and v c.mask + d.coeff * bit_and v d.mask + e.coeff * bit_and v e.mask =
      ap₂ (λ (y z : ℕ). y + z) (ap₂ (λ (y z : ℕ). y + z) (worth_live v c live-c) (worth_live v d live-d))
      (worth_live v e live-e) in
      eqm_trans (eqm_of_eq after)
      (eqm_sym
      (eqm_trans (eqm_of_eq before)
      (terms_collapse (2 ^ w) v c.mask d.mask e.mask c.coeff d.coeff e.coeff hc hd
      (eqm_trans (eqm_of_eq sum) (mod_add_eqm c.coeff d.coeff w hw)))))

  collapse_keeps : (i j k : ℕ) (x : Work) → Collapsible w x.group i j k → KeptWork w vars b g0 rows0 x
      → KeptWork w vars b g0 rows0 (collapse_at w b i j k x)
  unfolding collapse_at remasked
  collapse_keeps i j k x t h =
      let c = at x.group i in
      let d = at x.group j in
      let e = at x.group k in
      let n = h.len_same in
      let li : i < g0.len = omega (arith, n, t.i_lt) in
      let lj : j < g0.len = omega (arith, n, t.j_lt) in
      let lk : k < g0.len = omega (arith, n, t.k_lt) in
      let fc = live_fits w hw vars b hb g0 rows0 x h i li t.live_i in
      let fd = live_fits w hw vars b hb g0 rows0 x h j lj t.live_j in
      let fe = live_fits w hw vars b hb g0 rows0 x h k lk t.live_k in
      let ce = bit_or c.mask e.mask in
      let de = bit_or d.mask e.mask in
      let hce : ce < 2 ^ w = or_lt w c.mask e.mask (fc.masked tt).mask_lt (fe.masked tt).mask_lt in
      let hde : de < 2 ^ w = or_lt w d.mask e.mask (fd.masked tt).mask_lt (fe.masked tt).mask_lt in
      let l : List Row = create_masked w b ce x.rows in
      let one = grown_mask w hw vars b hb g0 rows0 ce x.rows hce in
      let two = grown_mask w hw vars b hb g0 rows0 de l hde in
      let new-c : Entry = remasked c ce (length x.rows) in
      let new-d : Entry = remasked d de (length x.rows + 1) in
      let fits-d : Fits w vars b any_entry (create_masked w b de l) new-d =
      subst (λ (a : ℕ). Fits w vars b any_entry (create_masked w b de l) (remasked d de a))
      (length_masked w vars b ce x.rows)
      (fits_made w vars b any_entry l d.coeff de d.mark fd.coeff_lt hde) in
      kept_three w vars b g0 rows0 x h (create_masked w b de l) (grown_trans w vars one two) i j new-c new-d
      t.j_not_i li lj
      (λ _. fits_extends w vars b any_entry new-c two.extends
      (fits_made w vars b any_entry x.rows c.coeff ce c.mark fc.coeff_lt hce))
      (λ _. fits-d)
      k (consumed e) t.k_not_i t.k_not_j lk (consumed_any e)
      (collapse_sum c d e (length x.rows) (length x.rows + 1) t.live_i t.live_j t.live_k t.apart_i
      t.apart_j t.sum)

  pub three_term_keeps : (x : Work) → KeptWork w vars b g0 rows0 x
      → KeptWork w vars b g0 rows0 (three_term_collapse w b x)
  unfolding three_term_collapse
  three_term_keeps x h =
      let i = find_first w x.group in
      when_both (λ (y : Work). KeptWork w vars b g0 rows0 y) (ltb i x.group.len) _ x
      (λ t. collapse_keeps _ _ _ x (found_collapsible w x.group (ltb-true i x.group.len t)) h)
      (λ t. h)
