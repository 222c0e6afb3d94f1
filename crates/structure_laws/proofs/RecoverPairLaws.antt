-- Laws of `recover_xor` and `eliminate_mask` (specs/RecoverStructure.antt): on two live entries with complement masks
-- they keep what `KeptRecovery` says of a group beside its table and the constant.
use mathlib.Core.Path.{◌≡◌, refl, ap, sym, ◌∙◌}
use mathlib.Core.Logic.{◌≢◌}
use Prim.Native.Nat.{ℕ, ◌+◌, ◌-◌, ◌*◌, ◌^◌, ◌≤◌, ◌<◌}
use native.Mathlib.Omega.{arith}
use native.Mathlib.Nat.{lt_of_lt_of_le, mod-eq_of_lt}
use mathlib.Core.List.{List}
use mathlib.Core.Bool.{true}
use lib.ListN.{length}
use lib.Bits.{bit_and, bit_xor}
use lib.Pow.{pow_mono, ones_lt}
use Rattle.arith.specs.Congruence.{Eqm}
use Rattle.arith.specs.Width.{mod_add, mod_sub, mod_mul}
use Rattle.arith.proofs.CongruenceLaws.{eqm_of_eq, eqm_refl, eqm_sym, eqm_trans, eqm_add}
use Rattle.arith.proofs.MaskLaws.{and_full, xor_recover_minus, mask_eliminate}
use Rattle.arith.proofs.WidthLaws.{mod_add_lt, mod_sub_lt, mod_add_eqm, mod_sub_eqm, mod_mul_eqm}
use Rattle.record.specs.Tree.{Tree}
use Rattle.record.specs.Tree.Tree.{Constant, Binary}
use Rattle.base.proofs.BoolLaws.{false_true}
use Rattle.expr_utils.specs.Utils.{has_kind, has_arith}
use Rattle.expr.specs.Value.{value, binary}
use Rattle.expr.proofs.IsExprLaws.{expr_of_constant}
use Rattle.expr.proofs.ValueLaws.{value_lt}
use Rattle.group.specs.declared.Group.{Group}
use Rattle.semilinear.specs.Form.{Row, rows_ok}
use Rattle.entries.specs.declared.Mark.TheVariants.{Widened, Rewritten}
use Rattle.entries.specs.Marks.{not_consumed}
use Rattle.group.specs.Group.{Entry, at, is_live, consumed}
use Rattle.made.specs.Rows.{create_row}
use Rattle.semilinear.proofs.AtomLaws.{Atom, atom_tree_lem, sides_atom}
use Rattle.group.proofs.TotalLaws.{live_mark_lem, live_consumed}
use Rattle.group.proofs.WorkLaws.{row_value, Grown, grown_create, row_value_create}
use Rattle.made.proofs.CoeffsLaws.{length_create}
use Rattle.group.proofs.SettleLaws.{owed, owed_live, owed_consumed}
use Rattle.group.proofs.FitsLaws.{Fits, fits_extends}
use Rattle.structure_laws.specs.RecoverStructure.{Recovery, row_with, with_bare, recover_xor, eliminate_mask}
use Rattle.structure_laws.proofs.BareLaws.{with_bare_lem}
use Rattle.structure_laws.proofs.HeldLaws.{not_rewritten, KeptRecovery, kept_two}

pub live_of_mark : (e : Entry) → not_consumed e.mark ≡ true → is_live e ≡ true
unfolding is_live
live_of_mark e h = h

-- two entries that are live and not rewritten, with complement masks
pub record Pair (w : ℕ) (g : Group) (i j : ℕ) : Type 0 where
  pub i_lt : i < g.len
  pub j_lt : j < g.len
  pub apart : j ≢ i
  pub live_i : is_live (at g i) ≡ true
  pub live_j : is_live (at g j) ≡ true
  pub plain_i : (at g i).mark ≢ Rewritten
  pub plain_j : (at g j).mark ≢ Rewritten
  pub complement : (at g j).mask ≡ 2 ^ w - 1 - (at g i).mask

-- the literal m beside the basis
xor_atom : (b : Tree) (m : ℕ) → m < 2 ^ 64 → Atom b → Atom (Binary 6 (Constant m) b)
unfolding has_kind has_arith
xor_atom b m hm h =
    sides_atom 6 (Constant m) b (omega arith) (omega arith)
    (record {
      expr_l = expr_of_constant m hm;
      expr_r = h.expr;
      variable = h.variable;
      plain_l = refl;
      plain_r = h.plain;
    })

xor_value : (w : ℕ) (vars : List ℕ) (b : Tree) (m : ℕ) → m < 2 ^ w
    → value w vars (Binary 6 (Constant m) b) ≡ bit_xor m (value w vars b)
unfolding value binary
xor_value w vars b m hm = ap (λ (n : ℕ). bit_xor n (value w vars b)) (mod-eq_of_lt hm)

module _ (w : ℕ) (hw : w ≤ 64) (vars : List ℕ) (b : Tree) (hb : Atom b) (g0 : Group) (rows0 : List Row)
    (ok : rows_ok w rows0 ≡ true) (c0 : ℕ) where
  abbrev K : Recovery → Type 0
  K x = KeptRecovery w vars b g0 rows0 c0 x

  abbrev v : ℕ
  v = value w vars b

  word : {n : ℕ} → n < 2 ^ w → n < 2 ^ 64
  word h = lt_of_lt_of_le h (pow_mono hw)

  -- what a live entry with a mask adds
  owed_masked : (l : List Row) (e : Entry) → is_live e ≡ true → e.mark ≢ Rewritten → Fits w vars b not_rewritten l e
      → owed w vars l e ≡ e.coeff * bit_and v e.mask
  owed_masked l e live ne h =
      owed_live w vars l e live ∙ ap (λ (n : ℕ). e.coeff * n) (h.masked ne).atom_value

  module _ (x : Recovery) (h : K x) (i j : ℕ) (p : Pair w x.group i j) where
    abbrev g : Group
    g = x.group

    abbrev e : Entry
    e = at g i

    abbrev f : Entry
    f = at g j

    held_i : Fits w vars b not_rewritten x.rows e
    held_i = h.all_fit.fit i p.i_lt p.live_i

    held_j : Fits w vars b not_rewritten x.rows f
    held_j = h.all_fit.fit j p.j_lt p.live_j

    mask_lt : e.mask < 2 ^ w
    mask_lt = (held_i.masked p.plain_i).mask_lt

    -- what the two add, beside more rows
    pair_owed : (l : List Row) → Grown w vars x.rows l
        → owed w vars l e + owed w vars l f ≡ e.coeff * bit_and v e.mask + f.coeff * bit_and v (2 ^ w - 1 - e.mask)
    pair_owed l more =
        let one = owed_masked l e p.live_i p.plain_i
        (fits_extends w vars b not_rewritten e more.extends held_i) in
        let two = owed_masked l f p.live_j p.plain_j
        (fits_extends w vars b not_rewritten f more.extends held_j) in
        let same = ap (λ (n : ℕ). f.coeff * bit_and v n) p.complement in
        omega (arith, one, two, same)

    pub pair_swap : Pair w x.group j i
    pair_swap =
        record {
          i_lt = p.j_lt;
          j_lt = p.i_lt;
          apart = λ (z : i ≡ j). p.apart (sym z);
          live_i = p.live_j;
          live_j = p.live_i;
          plain_i = p.plain_j;
          plain_j = p.plain_i;
          complement = omega (arith, p.complement, mask_lt);
        }

    pub xor_keeps : mod_add e.coeff f.coeff w ≡ 0 → K (recover_xor w b i j x)
    unfolding recover_xor
    xor_keeps z =
        let t : Tree = Binary 6 (Constant e.mask) b in
        let l : List Row = create_row t x.rows in
        let more : Grown w vars x.rows l =
        grown_create w vars t x.rows (atom_tree_lem t (xor_atom b e.mask (word mask_lt) hb)) in
        let c : ℕ = mod_mul e.coeff e.mask w in
        let new : Entry =
        record { coeff = f.coeff; mask = 2 ^ w - 1; atom = length x.rows; mark = Rewritten } in
        let row : row_value w vars l (length x.rows) ≡ bit_xor e.mask v =
        row_value_create w vars t x.rows ∙ xor_value w vars b e.mask mask_lt in
        let after : owed w vars l new + owed w vars l (consumed f) ≡ f.coeff * bit_xor e.mask v =
        omega (
          arith,
          owed_live w vars l new (live_of_mark new refl),
          owed_consumed w vars l (consumed f) (live_consumed f),
          ap (λ (n : ℕ). f.coeff * n) row,
        ) in
        let none : Eqm (2 ^ w) (f.coeff + e.coeff) 0 =
        eqm_trans (eqm_of_eq (omega arith))
        (eqm_trans (eqm_sym (mod_add_eqm e.coeff f.coeff w hw)) (eqm_of_eq z)) in
        let sum : Eqm (2 ^ w) (mod_add x.constant c w + (owed w vars l new + owed w vars l (consumed f)))
        (x.constant + (owed w vars l e + owed w vars l f)) =
        eqm_trans
        (eqm_add
        (eqm_trans (mod_add_eqm x.constant c w hw)
        (eqm_add (eqm_refl x.constant) (mod_mul_eqm e.coeff e.mask w hw)))
        (eqm_of_eq after))
        (eqm_trans (eqm_of_eq (omega arith))
        (eqm_add (eqm_refl x.constant)
        (eqm_trans
        (eqm_sym
        (xor_recover_minus (2 ^ w) w e.coeff v e.mask f.coeff (value_lt w vars b) mask_lt none))
        (eqm_of_eq (sym (pair_owed l more)))))) in
        kept_two w vars b g0 rows0 c0 x h l more (mod_add x.constant c w) (mod_add_lt x.constant c w hw) i j new
        (consumed f) p.apart p.i_lt p.j_lt
        (λ _. record {
          coeff_lt = held_j.coeff_lt;
          atom_lt = omega (arith, length_create t x.rows);
          masked = λ ne. absurd (ne refl);
        })
        (λ live. false_true (sym (live_consumed f) ∙ live))
        sum

    pub eliminate_keeps : K (eliminate_mask w b (mod_sub e.coeff f.coeff w) i j x)
    unfolding eliminate_mask
    eliminate_keeps =
        let d : ℕ = mod_sub e.coeff f.coeff w in
        let l : List Row = with_bare w b x.rows in
        let bare = with_bare_lem w vars b hb x.rows (h.grown.extends.ok ok) in
        let more = bare.grown in
        let new-e : Entry = record { coeff = d; mask = e.mask; atom = e.atom; mark = e.mark } in
        let new-f : Entry =
        record { coeff = f.coeff; mask = 2 ^ w - 1; atom = row_with w b 0 x.rows; mark = Widened } in
        let more-i = fits_extends w vars b not_rewritten e more.extends held_i in
        let he : Fits w vars b not_rewritten l new-e =
        record {
          coeff_lt = mod_sub_lt e.coeff f.coeff w hw;
          atom_lt = more-i.atom_lt;
          masked = λ ne. record {
            mask_lt = mask_lt;
            atom_value = (more-i.masked ne).atom_value;
          };
        } in
        let hf : Fits w vars b not_rewritten l new-f =
        record {
          coeff_lt = held_j.coeff_lt;
          atom_lt = bare.bare_lt;
          masked = λ ne. record {
            mask_lt = ones_lt w;
            atom_value = bare.bare_value ∙ sym (and_full w v (value_lt w vars b));
          };
        } in
        let after : owed w vars l new-e + owed w vars l new-f ≡ d * bit_and v e.mask + f.coeff * v =
        omega (
          arith,
          owed_masked l new-e (live_mark_lem new-e e refl ∙ p.live_i) p.plain_i he,
          owed_live w vars l new-f (live_of_mark new-f refl),
          ap (λ (n : ℕ). f.coeff * n) bare.bare_value,
        ) in
        kept_two w vars b g0 rows0 c0 x h l more x.constant h.constant_lt i j new-e new-f
        p.apart p.i_lt p.j_lt (λ _. he) (λ _. hf)
        (eqm_add (eqm_refl x.constant)
        (eqm_trans (eqm_of_eq after)
        (eqm_trans
        (eqm_sym
        (mask_eliminate (2 ^ w) w v e.mask e.coeff f.coeff d (value_lt w vars b) mask_lt
        (mod_sub_eqm e.coeff f.coeff w hw (word held_j.coeff_lt))))
        (eqm_of_eq (sym (pair_owed l more))))))
