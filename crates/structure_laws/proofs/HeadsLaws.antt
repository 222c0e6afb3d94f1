-- Flattening (specs/FlattenComplexAtoms.antt) gives a form with new heads where all heads before were such.
use mathlib.Core.Path.{◌≡◌, refl}
use Prim.Native.Nat.{ℕ}
use mathlib.Core.List.{List, [], ◌∷◌, ◌++◌}
use mathlib.Core.Bool.{true, false}
use lib.Dec.{eqb}
use Rattle.base.proofs.BoolLaws.{and_true}
use Rattle.base.proofs.LoopLaws.{when_both}
use Rattle.record.specs.Tree.Tree.{Variable}
use Rattle.semilinear.specs.Form.{Row, new_row, new_rows, Form}
use Rattle.semilinear.proofs.RetiredLaws.{new_append}
use Rattle.made.specs.Rows.{masked_tree}
use Rattle.structure_laws.specs.FlattenComplexAtoms.{is_complex, Flat, flat_row, flatten_row, flatten_rows, kept_rows}
use Rattle.structure_laws.specs.FlattenComplexAtoms.{flattened, flatten_form}

new_kept : (w : ℕ) (l : List Row) → new_rows l ≡ true → new_rows (kept_rows w l) ≡ true
unfolding kept_rows new_rows
new_kept w [] h = refl
new_kept w (x ∷ l) h =
    let p = and_true (eqb x.provenance 4) (new_rows l) h in
    let below = new_kept w l p.1 in
    when_both (λ (m : List Row). new_rows m ≡ true) (is_complex w x)
    (record { provenance = x.provenance; tree = x.tree; coeff = 0 } ∷ kept_rows w l) (x ∷ kept_rows w l)
    (λ _. simp (p.0, below)) (λ _. simp (p.0, below))

new_flat_row : (w v m c : ℕ) (l : List Row) → new_rows l ≡ true → new_rows (flat_row w v m c l) ≡ true
unfolding flat_row new_rows
new_flat_row w v m c l h =
    let x : Row = new_row (masked_tree w (Variable v) m) c in
    when_both (λ (k : List Row). new_rows k ≡ true) (eqb m 0) l (l ++ (x ∷ [])) (λ _. h)
    (λ _. new_append l (x ∷ []) h refl)

new_flatten_row : (w : ℕ) (x : Row) (s : Flat) → new_rows s.added ≡ true → new_rows (flatten_row w x s).added ≡ true
unfolding flatten_row
new_flatten_row w x s h =
    when_both (λ (t : Flat). new_rows t.added ≡ true) (is_complex w x) _ s
    (λ _. new_flat_row w _ _ _ _ (new_flat_row w _ _ _ s.added h)) (λ _. h)

new_flatten_rows : (w : ℕ) (l : List Row) (s : Flat) → new_rows s.added ≡ true
    → new_rows (flatten_rows w l s).added ≡ true
unfolding flatten_rows
new_flatten_rows w [] s h = h
new_flatten_rows w (x ∷ l) s h = new_flatten_rows w l (flatten_row w x s) (new_flatten_row w x s h)

pub new_flatten : (f : Form) → new_rows f.rows ≡ true → new_rows (flatten_form f).rows ≡ true
unfolding flatten_form flattened new_rows
new_flatten f h =
    new_append (kept_rows f.bitwidth f.rows) (flattened f).added (new_kept f.bitwidth f.rows h)
    (new_flatten_rows f.bitwidth f.rows (record { added = []; constant = f.constant; flag = false }) refl)
