-- Laws of the end of a pass (specs/Group.antt): every live entry is added to its row.
use mathlib.Core.Path.{◌≡◌, refl, ap, ◌∙◌}
use Prim.Native.Nat.{ℕ, zero, suc, ◌+◌, ◌*◌, ◌^◌, ◌≤◌, ◌<◌}
use native.Mathlib.Omega.{arith}
use mathlib.Core.List.{List, [], ◌∷◌}
use mathlib.Core.Bool.{Bool, true, false}
use lib.ListN.{length}
use Rattle.arith.specs.Congruence.{Eqm}
use Rattle.arith.specs.Width.{mod_add}
use Rattle.arith.proofs.CongruenceLaws.{eqm_of_eq, eqm_refl, eqm_trans, eqm_add, eqm_mul_r}
use Rattle.arith.proofs.WidthLaws.{mod_add_eqm, mod_add_lt}
use Rattle.base.specs.Choice.{when}
use Rattle.base.proofs.LoopLaws.{for_ind}
use Rattle.expr.specs.Value.{value}
use Rattle.group.specs.declared.Group.{Group}
use Rattle.semilinear.specs.Form.{Row, new_rows, sum_rows, rows_ok}
use Rattle.group.specs.Group.{Entry, at, is_live, settle_at, settle}
use Rattle.made.specs.Rows.{add_coeff}
use Rattle.semilinear.proofs.FormLaws.{Good, good_row, rows_cons}
use Rattle.group.proofs.TotalLaws.{sum_to}
use Rattle.group.proofs.WorkLaws.{row_value, Added, added_refl, added_trans, added_eqm}

pub sum_next : (f : ℕ → ℕ) (i : ℕ) → sum_to f (i + 1) ≡ sum_to f i + f i
unfolding sum_to
sum_next f i = ap (sum_to f) (let e : i + 1 ≡ suc i = omega arith in e)

-- what an entry adds to the sum
unfoldable pub owed : ℕ → List ℕ → List Row → Entry → ℕ
owed w vars rows e = when (is_live e) (λ _. e.coeff * row_value w vars rows e.atom) (λ _. 0)

module _ (w : ℕ) (vars : List ℕ) (rows : List Row) (e : Entry) where
  pub owed_live : is_live e ≡ true → owed w vars rows e ≡ e.coeff * row_value w vars rows e.atom
  unfolding owed
  owed_live h = simp h

  pub owed_consumed : is_live e ≡ false → owed w vars rows e ≡ 0
  unfolding owed
  owed_consumed h = simp h

module _ (w : ℕ) (vars : List ℕ) (le : w ≤ 64) where
  add_sum : (c j : ℕ) (l : List Row) → j < length l
      → Eqm (2 ^ w) (sum_rows w vars (add_coeff w c j l)) (sum_rows w vars l + c * row_value w vars l j)
  unfolding sum_rows add_coeff row_value
  add_sum c j [] lt = let z : ⊥ = omega (arith, lt) in absurd z
  add_sum c zero (x ∷ l) lt =
      let v : ℕ = value w vars x.tree in
      eqm_trans (eqm_add (eqm_mul_r v (mod_add_eqm x.coeff c w le)) (eqm_refl (sum_rows w vars l)))
      (eqm_of_eq (omega arith))
  add_sum c (suc j) (x ∷ l) lt =
      eqm_trans (eqm_add (eqm_refl (x.coeff * value w vars x.tree)) (add_sum c j l (omega (arith, lt))))
      (eqm_of_eq (omega arith))

  add_value : (c j : ℕ) (l : List Row) (k : ℕ) → row_value w vars (add_coeff w c j l) k ≡ row_value w vars l k
  unfolding add_coeff row_value
  add_value c j [] k = refl
  add_value c zero (x ∷ l) zero = refl
  add_value c zero (x ∷ l) (suc k) = refl
  add_value c (suc j) (x ∷ l) zero = refl
  add_value c (suc j) (x ∷ l) (suc k) = add_value c j l k

  pub add_length : (c j : ℕ) (l : List Row) → length (add_coeff w c j l) ≡ length l
  unfolding add_coeff
  add_length c j [] = refl
  add_length c zero (x ∷ l) = refl
  add_length c (suc j) (x ∷ l) = ap suc (add_length c j l)

  add_ok : (c j : ℕ) (l : List Row) → rows_ok w l ≡ true → rows_ok w (add_coeff w c j l) ≡ true
  unfolding add_coeff rows_ok
  add_ok c j [] e = refl
  add_ok c zero (x ∷ l) e =
      let p = rows_cons w x l e in
      let g : Good w (record { provenance = x.provenance; tree = x.tree; coeff = mod_add x.coeff c w }) =
      record { known = p.0.known; atom = p.0.atom; fits = mod_add_lt x.coeff c w le } in
      simp (good_row w _ g, p.1)
  add_ok c (suc j) (x ∷ l) e = let p = rows_cons w x l e in simp (good_row w x p.0, add_ok c j l p.1)

  add_new : (c j : ℕ) (l : List Row) → new_rows (add_coeff w c j l) ≡ new_rows l
  unfolding add_coeff new_rows
  add_new c j [] = refl
  add_new c zero (x ∷ l) = refl
  add_new c (suc j) (x ∷ l) = rw (add_new c j l)

  -- c added to row j
  pub added_coeff : (c j : ℕ) (l : List Row) → j < length l
      → Added w vars (c * row_value w vars l j) l (add_coeff w c j l)
  added_coeff c j l lt =
      record {
        extends =
            record {
              longer = omega (arith, add_length c j l);
              older = λ k h. add_value c j l k;
              ok = add_ok c j l;
              new = λ h. add_new c j l ∙ h;
            };
        sum = add_sum c j l lt;
      }

  -- ---- a group settled

  -- what the first i entries add to the sum
  abbrev owed_to : Group → List Row → ℕ → ℕ
  owed_to g rows i = sum_to (λ (k : ℕ). owed w vars rows (at g k)) i

  settle_turn : (g : Group) (rows : List Row) (i : ℕ) (t : List Row)
      → (is_live (at g i) ≡ true → (at g i).atom < length rows)
      → Added w vars (owed_to g rows i) rows t → Added w vars (owed_to g rows (i + 1)) rows (settle_at w g i t)
  unfolding settle_at
  settle_turn g rows i t has h = go (is_live (at g i)) refl
    where
      j : ℕ
      j = (at g i).atom

      c : ℕ
      c = (at g i).coeff

      next : owed_to g rows (i + 1) ≡ owed_to g rows i + owed w vars rows (at g i)
      next = sum_next (λ (k : ℕ). owed w vars rows (at g k)) i

      go : (b : Bool) → is_live (at g i) ≡ b
          → Added w vars (owed_to g rows (i + 1)) rows
          (when b (λ _. add_coeff w (at g i).coeff (at g i).atom t) (λ _. t))
      go true e =
          let n = has e in
          let same = ap (λ (v : ℕ). c * v) (h.extends.older j n) in
          added_eqm w vars (eqm_of_eq (omega (arith, next, same, owed_live w vars rows (at g i) e)))
          (added_trans w vars h (added_coeff c j t (omega (arith, n, h.extends.longer))))
      go false e = added_eqm w vars (eqm_of_eq (omega (arith, next, owed_consumed w vars rows (at g i) e))) h

  pub settled : (g : Group) (rows : List Row)
      → ((i : ℕ) → i < g.len → is_live (at g i) ≡ true → (at g i).atom < length rows)
      → Added w vars (sum_to (λ (k : ℕ). owed w vars rows (at g k)) g.len) rows (settle w g rows)
  unfolding settle sum_to
  settled g rows has =
      for_ind (λ (i : ℕ) (t : List Row). Added w vars (owed_to g rows i) rows t) (settle_at w g) 0 rows g.len
      (omega arith)
      (λ i t a u h. settle_turn g rows i t (has i u) h) (added_refl w vars rows)
