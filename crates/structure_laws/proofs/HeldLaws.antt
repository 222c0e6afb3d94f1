-- What recovering structure keeps of a group beside its table and the constant (specs/RecoverStructure.antt): the
-- constant and the sum of what the live entries add to their rows, modulo 2 ^ w, the rows that were there, and that a
-- live entry that is not rewritten as Xor has the basis b under its mask as row.
use mathlib.Core.Path.{◌≡◌, refl, ap, sym, ◌∙◌}
use mathlib.Core.Logic.{◌≢◌}
use Prim.Native.Nat.{ℕ, ◌+◌, ◌*◌, ◌^◌, ◌<◌}
use native.Mathlib.Omega.{arith}
use mathlib.Core.List.{List}
use mathlib.Core.Bool.{Bool, true, false}
use lib.ListN.{length}
use Rattle.arith.specs.Congruence.{Eqm}
use Rattle.arith.proofs.CongruenceLaws.{eqm_of_eq, eqm_refl, eqm_trans, eqm_add, eqm_cancel}
use Rattle.record.specs.Tree.{Tree}
use Rattle.group.specs.declared.Group.{Group}
use Rattle.semilinear.specs.Form.{Row}
use Rattle.entries.specs.declared.Mark.TheVariants.{Rewritten}
use Rattle.group.specs.Group.{Entry, at, put_entry, is_live}
use Rattle.group.proofs.EntryLaws.{Sized, sized_put, at_put, at_put_other}
use Rattle.group.proofs.TotalLaws.{sum_to, sum_ext, sum_but_one, len_put}
use Rattle.group.proofs.WorkLaws.{Grown, grown_refl, grown_trans}
use Rattle.group.proofs.FitsLaws.{Fits, AllFit, all_extends, all_put}
use Rattle.group.proofs.SettleLaws.{owed, owed_live, owed_consumed}
use Rattle.structure_laws.specs.RecoverStructure.{Recovery}

-- of an entry that is not rewritten the row is the basis under the mask
abbrev pub not_rewritten : Entry → Type 0
not_rewritten e = e.mark ≢ Rewritten

-- what the entries of a group add to the sum
unfoldable pub owed_sum : ℕ → List ℕ → List Row → Group → ℕ
owed_sum w vars rows g = sum_to (λ (k : ℕ). owed w vars rows (at g k)) g.len

module _ (w : ℕ) (vars : List ℕ) where
  -- ---- the sum

  -- an entry adds the same beside more rows
  pub owed_grown : (l m : List Row) (e : Entry) → Grown w vars l m → (is_live e ≡ true → e.atom < length l)
      → owed w vars m e ≡ owed w vars l e
  owed_grown l m e g has = go (is_live e) refl
    where
      go : (s : Bool) → is_live e ≡ s → owed w vars m e ≡ owed w vars l e
      go true live =
          owed_live w vars m e live
          ∙ ap (λ (n : ℕ). e.coeff * n) (g.extends.older e.atom (has live))
          ∙ sym (owed_live w vars l e live)
      go false live = owed_consumed w vars m e live ∙ sym (owed_consumed w vars l e live)

  owed_sum_grown : (b : Tree) (l m : List Row) (g : Group) → Grown w vars l m → AllFit w vars b not_rewritten g l
      → owed_sum w vars m g ≡ owed_sum w vars l g
  unfolding owed_sum
  owed_sum_grown b l m g more a =
      sum_ext (λ (k : ℕ). owed w vars m (at g k)) (λ (k : ℕ). owed w vars l (at g k)) g.len
      (λ k u. owed_grown l m (at g k) more (λ live. (a.fit k u live).atom_lt))

  -- one entry put: what it adds comes in place of what the old one did
  owed_put : (rows : List Row) (g : Group) (i : ℕ) (e : Entry) → Sized g → i < g.len
      → owed_sum w vars rows (put_entry g i e) + owed w vars rows (at g i) ≡ owed_sum w vars rows g + owed w vars rows e
  unfolding owed_sum
  owed_put rows g i e s l =
      let new : ℕ → ℕ = λ k. owed w vars rows (at (put_entry g i e) k) in
      let old : ℕ → ℕ = λ k. owed w vars rows (at g k) in
      ap (λ (n : ℕ). sum_to new n + old i) (len_put g i e)
      ∙ sum_but_one new old i g.len l (λ k ne. ap (owed w vars rows) (at_put_other g i k e ne))
      ∙ ap (λ (y : Entry). sum_to old g.len + owed w vars rows y) (at_put g i e s (omega (arith, s.len_le)))

  owed_two : (rows : List Row) (g : Group) (i j : ℕ) (e f : Entry) → Sized g → j ≢ i → i < g.len → j < g.len
      → owed_sum w vars rows (put_entry (put_entry g i e) j f)
      + (owed w vars rows (at g i) + owed w vars rows (at g j))
      ≡ owed_sum w vars rows g + (owed w vars rows e + owed w vars rows f)
  owed_two rows g i j e f s ne li lj =
      omega (
        arith,
        owed_put rows g i e s li,
        owed_put rows (put_entry g i e) j f (sized_put g i e s) (rw (len_put g i e) lj),
        ap (owed w vars rows) (at_put_other g i j e ne),
      )

-- ---- the state

pub record KeptRecovery (w : ℕ) (vars : List ℕ) (b : Tree) (g0 : Group) (rows0 : List Row) (c0 : ℕ) (x : Recovery)
    : Type 0 where
  pub sized : Sized x.group
  pub len_same : x.group.len ≡ g0.len
  pub all_fit : AllFit w vars b not_rewritten x.group x.rows
  pub grown : Grown w vars rows0 x.rows
  pub constant_lt : x.constant < 2 ^ w
  pub sum_same : Eqm (2 ^ w) (x.constant + owed_sum w vars x.rows x.group) (c0 + owed_sum w vars rows0 g0)

module _ (w : ℕ) (vars : List ℕ) (b : Tree) (g0 : Group) (rows0 : List Row) (c0 : ℕ) where
  pub kept_start : Sized g0 → AllFit w vars b not_rewritten g0 rows0 → c0 < 2 ^ w
      → KeptRecovery w vars b g0 rows0 c0 (record { group = g0; rows = rows0; constant = c0 })
  kept_start s a hc =
      record {
        sized = s;
        len_same = refl;
        all_fit = a;
        grown = grown_refl w vars rows0;
        constant_lt = hc;
        sum_same = eqm_refl (c0 + owed_sum w vars rows0 g0);
      }

  -- two entries put beside a table that has grown, and another constant
  pub kept_two : (x : Recovery) → KeptRecovery w vars b g0 rows0 c0 x → (l : List Row) → Grown w vars x.rows l
      → (c : ℕ) → c < 2 ^ w → (i j : ℕ) (e f : Entry) → j ≢ i → i < x.group.len → j < x.group.len
      → (is_live e ≡ true → Fits w vars b not_rewritten l e) → (is_live f ≡ true → Fits w vars b not_rewritten l f)
      → Eqm (2 ^ w) (c + (owed w vars l e + owed w vars l f))
      (x.constant + (owed w vars l (at x.group i) + owed w vars l (at x.group j)))
      → KeptRecovery w vars b g0 rows0 c0
      (record { group = put_entry (put_entry x.group i e) j f; rows = l; constant = c })
  kept_two x h l more c hc i j e f ne li lj he hf t =
      let g = x.group in
      let s = h.sized in
      let one = sized_put g i e s in
      let a = all_extends w vars b not_rewritten g more.extends h.all_fit in
      let old : ℕ = owed w vars l (at g i) + owed w vars l (at g j) in
      let new : ℕ = owed w vars l e + owed w vars l f in
      let same = owed_sum_grown w vars b x.rows l g more h.all_fit in
      let before : c + owed_sum w vars l (put_entry (put_entry g i e) j f) + old ≡ owed_sum w vars x.rows g + (c + new) =
      omega (arith, owed_two w vars l g i j e f s ne li lj, same) in
      record {
        sized = sized_put (put_entry g i e) j f one;
        len_same = len_put (put_entry g i e) j f ∙ len_put g i e ∙ h.len_same;
        all_fit =
            all_put w vars b not_rewritten (put_entry g i e) one l (all_put w vars b not_rewritten g s l a i e li he) j f
            (rw (len_put g i e) lj) hf;
        grown = grown_trans w vars h.grown more;
        constant_lt = hc;
        sum_same =
            eqm_trans
            (eqm_cancel old
            (eqm_trans (eqm_of_eq before)
            (eqm_trans (eqm_add (eqm_refl (owed_sum w vars x.rows g)) t) (eqm_of_eq (omega arith)))))
            h.sum_same;
      }
