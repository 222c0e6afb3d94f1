-- Flattening (specs/FlattenComplexAtoms.antt) keeps the value of a form, and gives a valid form where its table keeps
-- the limits.
use mathlib.Core.Path.{◌≡◌, refl, ap}
use Prim.Native.Nat.{ℕ, ◌+◌, ◌*◌, ◌^◌, ◌≤◌, ◌<◌}
use native.Mathlib.Omega.{arith}
use mathlib.Core.List.{List, [], ◌∷◌, ◌++◌}
use mathlib.Core.Bool.{Bool, true, false}
use lib.Pow.{pow_pos}
use borrow.Author.Tests.{le-leb, lt-ltb}
use Rattle.arith.specs.Congruence.{Eqm}
use Rattle.arith.specs.Width.{mod_mul}
use Rattle.arith.proofs.CongruenceLaws.{eqm_of_eq, eqm_refl, eqm_trans, eqm_add}
use Rattle.arith.proofs.WidthLaws.{mod_add_lt}
use Rattle.base.specs.Choice.{when}
use Rattle.expr.specs.Value.{value}
use Rattle.semilinear.specs.Form.{Row, Form, sum_rows, form_value, rows_ok, fits_table, valid_form}
use Rattle.semilinear.proofs.FormLaws.{Good, good_row, rows_cons, form_parts}
use Rattle.structure_laws.specs.FlattenComplexAtoms.{is_complex, at_zero, Flat, flatten_row, flatten_rows}
use Rattle.structure_laws.specs.FlattenComplexAtoms.{kept_rows, flattened, flatten_form}
use Rattle.structure_laws.proofs.FlatRowsLaws.{sum_append, rows_append, complex_parts}
use Rattle.structure_laws.proofs.FlatRowsLaws.{flat_rows_ok, flat_rows_sum}

-- ---- all rows

kept_none : (w : ℕ) → kept_rows w [] ≡ []
unfolding kept_rows
kept_none w = refl

pub flatten_row_other : (w : ℕ) (x : Row) (s : Flat) → is_complex w x ≡ false → flatten_row w x s ≡ s
unfolding flatten_row
flatten_row_other w x s e = simp e

module _ (w : ℕ) (x : Row) (l : List Row) where
  kept_other : is_complex w x ≡ false → kept_rows w (x ∷ l) ≡ x ∷ kept_rows w l
  unfolding kept_rows
  kept_other e = simp e

  kept_complex : is_complex w x ≡ true
      → kept_rows w (x ∷ l) ≡ record { provenance = x.provenance; tree = x.tree; coeff = 0 } ∷ kept_rows w l
  unfolding kept_rows
  kept_complex e = simp e

-- the constant, and the sum of the rows that are being made
abbrev pub total : ℕ → List ℕ → Flat → ℕ
total w vars s = s.constant + sum_rows w vars s.added

module _ (w : ℕ) (hw : w ≤ 64) (vars : List ℕ) where
  -- a row that is flattened adds its coefficient times its value
  pub flatten_row_value : (x : Row) → Good w x → is_complex w x ≡ true → (s : Flat)
      → Eqm (2 ^ w) (total w vars (flatten_row w x s)) (x.coeff * value w vars x.tree + total w vars s)
  unfolding flatten_row
  flatten_row_value x g e s =
      simp e
      (eqm_trans (flat_rows_sum w hw x g (complex_parts w x e) vars s.constant s.added)
      (eqm_of_eq (omega arith)))

  -- all rows: what is kept and what is made have the sum of the rows
  pub flatten_rows_value : (l : List Row) → rows_ok w l ≡ true → (s : Flat)
      → Eqm (2 ^ w) (sum_rows w vars (kept_rows w l) + total w vars (flatten_rows w l s))
      (sum_rows w vars l + total w vars s)
  unfolding flatten_rows sum_rows
  flatten_rows_value [] ok s = eqm_of_eq (ap (λ (m : List Row). sum_rows w vars m + total w vars s) (kept_none w))
  flatten_rows_value (x ∷ l) ok s =
      let p = rows_cons w x l ok in
      go p.0 (flatten_rows_value l p.1) (is_complex w x) refl
    where
      v : ℕ
      v = x.coeff * value w vars x.tree

      go : Good w x
          → ((s : Flat) → Eqm (2 ^ w) (sum_rows w vars (kept_rows w l) + total w vars (flatten_rows w l s))
          (sum_rows w vars l + total w vars s))
          → (b : Bool) → is_complex w x ≡ b
          → Eqm (2 ^ w) (sum_rows w vars (kept_rows w (x ∷ l)) + total w vars (flatten_rows w l (flatten_row w x s)))
          (v + sum_rows w vars l + total w vars s)
      go g below true e =
          rw (kept_complex w x l e)
          (eqm_trans (eqm_of_eq (omega arith))
          (eqm_trans (below (flatten_row w x s))
          (eqm_trans (eqm_add (eqm_refl (sum_rows w vars l)) (flatten_row_value x g e s)) (eqm_of_eq (omega arith)))))
      go g below false e =
          rw (kept_other w x l e, flatten_row_other w x s e)
          (eqm_trans (eqm_of_eq (omega arith))
          (eqm_trans (eqm_add (eqm_refl v) (below s)) (eqm_of_eq (omega arith))))

-- flattening keeps the value of a form, under every assignment
pub value_flatten : (vars : List ℕ) (f : Form) → valid_form f ≡ true → form_value vars (flatten_form f) ≡ form_value vars f
unfolding form_value flatten_form flattened sum_rows
value_flatten vars f e =
    let v = form_parts f e in
    let w : ℕ = f.bitwidth in
    let start : Flat = record { added = []; constant = f.constant; flag = false } in
    let end : Flat = flatten_rows w f.rows start in
    let same : Eqm (2 ^ w) (end.constant + sum_rows w vars (kept_rows w f.rows ++ end.added))
    (f.constant + sum_rows w vars f.rows) =
    eqm_trans (eqm_of_eq (omega (arith, sum_append w vars (kept_rows w f.rows) end.added)))
    (eqm_trans (flatten_rows_value w v.width_le vars f.rows v.rows_ok_lem start) (eqm_of_eq (omega arith))) in
    same.eqm

-- ---- valid forms

kept_rows_ok : (w : ℕ) (l : List Row) → rows_ok w l ≡ true → rows_ok w (kept_rows w l) ≡ true
unfolding kept_rows rows_ok
kept_rows_ok w [] ok = refl
kept_rows_ok w (x ∷ l) ok =
    let p = rows_cons w x l ok in
    go (is_complex w x) p.0 (kept_rows_ok w l p.1)
  where
    bare : Row
    bare = record { provenance = x.provenance; tree = x.tree; coeff = 0 }

    go : (b : Bool) → Good w x → rows_ok w (kept_rows w l) ≡ true
        → rows_ok w (when b (λ _. bare ∷ kept_rows w l) (λ _. x ∷ kept_rows w l)) ≡ true
    go true g below =
        let good : Good w bare = record { known = g.known; atom = g.atom; fits = pow_pos w } in
        simp (good_row w bare good, below)
    go false g below = simp (good_row w x g, below)

-- what holds of the form that is being made
record GoodFlat (w : ℕ) (s : Flat) : Type 0 where
  fits : s.constant < 2 ^ w
  rows_ok_lem : rows_ok w s.added ≡ true

module _ (w : ℕ) (hw : w ≤ 64) where
  flatten_row_good : (x : Row) → Good w x → (s : Flat) → GoodFlat w s → GoodFlat w (flatten_row w x s)
  unfolding flatten_row
  flatten_row_good x g s h = go (is_complex w x) refl
    where
      go : (b : Bool) → is_complex w x ≡ b → GoodFlat w (flatten_row w x s)
      go true e =
          simp e
          (record {
            fits = mod_add_lt s.constant (mod_mul x.coeff (at_zero w x.tree) w) w hw;
            rows_ok_lem = flat_rows_ok w hw x g (complex_parts w x e) s.added h.rows_ok_lem;
          })
      go false e = simp e h

  flatten_rows_good : (l : List Row) → rows_ok w l ≡ true → (s : Flat) → GoodFlat w s → GoodFlat w (flatten_rows w l s)
  unfolding flatten_rows
  flatten_rows_good [] ok s h = h
  flatten_rows_good (x ∷ l) ok s h =
      let p = rows_cons w x l ok in
      flatten_rows_good l p.1 (flatten_row w x s) (flatten_row_good x p.0 s h)

-- flattening gives a valid form where its table keeps the limits
pub valid_flatten : (f : Form) → valid_form f ≡ true → fits_table (flatten_form f).rows ≡ true
    → valid_form (flatten_form f) ≡ true
unfolding valid_form flatten_form flattened rows_ok
valid_flatten f e fits =
    let v = form_parts f e in
    let w : ℕ = f.bitwidth in
    let start : Flat = record { added = []; constant = f.constant; flag = false } in
    let good : GoodFlat w (flatten_rows w f.rows start) =
    flatten_rows_good w v.width_le f.rows v.rows_ok_lem start (record { fits = v.fits; rows_ok_lem = refl }) in
    simp (
      le-leb 1 w v.width_pos,
      le-leb w 64 v.width_le,
      lt-ltb (flatten_rows w f.rows start).constant (2 ^ w) good.fits,
      fits,
      rows_append w (kept_rows w f.rows) (flatten_rows w f.rows start).added
          (kept_rows_ok w f.rows v.rows_ok_lem) good.rows_ok_lem,
    )
