-- The sum over atoms and terms on its way: what holds of it, and that each turn keeps it.
use mathlib.Core.Path.{◌≡◌, refl, ap, ap₂, sym, ◌∙◌}
use Prim.Native.Nat.{ℕ, ◌+◌, ◌*◌, ◌%◌, ◌^◌, ◌≤◌, ◌<◌}
use native.Mathlib.Omega.{arith}
use native.Mathlib.Nat.{mod-lt, mod-eq_of_lt, add-zero, zero-add, zero-mul, mod-add-mod, add-mod-mod, add_assoc}
use lib.Pow.{pow_pos}
use mathlib.Core.List.{List}
use mathlib.Core.Bool.{true, false}
use lib.ListN.{length, drop, length-drop}
use lib.Seq.{drop-drop}
use Rattle.arith.specs.Width.{mod_add, mod_mul}
use Rattle.arith.proofs.WidthLaws.{mod_add_lem, mod_mul_lem}
use Rattle.record.specs.Decode.{decode}
use Rattle.expr.specs.Value.{value}
use Rattle.std.specs.Prelude.{None, Some}
use Rattle.semilinear.specs.declared.items.FormRow.{FormRow}
use Rattle.semilinear.specs.Atoms.{RowsLeft, FrontRow}
use Rattle.semilinear.proofs.WalkLaws.{rows_left, left_none, left_row, left_ok, row_coeff_none, row_coeff_some}
use Rattle.semilinear.specs.Form.{Row, sum_rows}
use Rattle.semilinear.specs.Items.{is_atom, front_number, front_word, atom_length, tree_span, after_atom}
use Rattle.semilinear.specs.Valid.{atoms_ok}
use Rattle.semilinear.specs.DecodeForm.{has_term, coeff_at, row_at}
use Rattle.semilinear_value.specs.Running.{RowPassed}
use Rattle.semilinear.proofs.ItemsLaws.{atom_room, term_big, has_term_is}
use Rattle.semilinear.proofs.ItemsLaws.{after_some, after_none}

-- the sum so far and the rows left give the whole
pub record Summed (w : ℕ) (vars : List ℕ) (total sum : ℕ) (s : RowsLeft) : Type 0 where
  pub fits : sum < 2 ^ w
  pub atoms : atoms_ok w s.atoms ≡ true
  pub value : (sum + sum_rows w vars (rows_left s)) % 2 ^ w ≡ total

module _ (w : ℕ) (vars : List ℕ) where
  pub summed_end : (total sum : ℕ) (s : RowsLeft) → Summed w vars total sum s → is_atom s.atoms ≡ false → sum ≡ total
  unfolding sum_rows
  summed_end total sum s h e =
      let all : (sum + 0) % 2 ^ w ≡ total =
      ap (λ (l : List Row). (sum + sum_rows w vars l) % 2 ^ w) (sym (left_none s e)) ∙ h.value in
      sym (mod-eq_of_lt h.fits) ∙ ap (λ (n : ℕ). n % 2 ^ w) (sym (add-zero sum)) ∙ all

  module _ (total sum : ℕ) {s t : RowsLeft} {x : FormRow} (h : Summed w vars total sum s) (g : FrontRow s x t) where
    rest : ℕ
    rest = sum_rows w vars (rows_left t)

    all : (n : ℕ) → coeff_at s.number s.terms * value w vars (decode (tree_span s.atoms)) ≡ n
        → (sum + (n + rest)) % 2 ^ w ≡ total
    unfolding sum_rows row_at coeff_at value rest
    all n e =
        ap (λ (k : ℕ). (sum + (k + rest)) % 2 ^ w) (sym e)
        ∙ ap (λ (l : List Row). (sum + sum_rows w vars l) % 2 ^ w) (sym (left_row g))
        ∙ h.value

    pub summed_without : x.coeff ≡ None → Summed w vars total sum t
    unfolding rest
    summed_without e =
        record {
          fits = h.fits;
          atoms = left_ok g w h.atoms;
          value = ap (λ (k : ℕ). (sum + k) % 2 ^ w) (sym (zero-add rest)) ∙ all 0 (ap (λ (k : ℕ). k * value w vars (decode (tree_span s.atoms))) (row_coeff_none g e) ∙ zero-mul _);
        }

    pub summed_with : (c : ℕ) → x.coeff ≡ Some c → (y : ℕ)
        → y ≡ (sum + c * value w vars (decode x.atom.tree.now)) % 2 ^ w → Summed w vars total y t
    unfolding rest
    summed_with c e y ey =
        let n : ℕ = c * value w vars (decode x.atom.tree.now) in
        record {
          fits = rw ey (mod-lt _ (pow_pos w));
          atoms = left_ok g w h.atoms;
          value =
              ap (λ (k : ℕ). (k + rest) % 2 ^ w) ey
              ∙ mod-add-mod (sum + n) (2 ^ w) rest
              ∙ ap (λ (k : ℕ). k % 2 ^ w) (add_assoc sum n rest)
              ∙ all n
              (ap₂ (λ (k : ℕ) (l : List ℕ). k * value w vars (decode l)) (row_coeff_some g c e) (sym g.atom.tree));
        }

-- ---- one turn, by whether the atom has a term
module _ (f : List ℕ) (at next number : ℕ) (ha : at ≤ length f) (hn : next ≤ length f) (e : is_atom (drop at f) ≡ true)
    {r q : List ℕ} (er : r ≡ drop at f) (eq : q ≡ drop next f) {n : ℕ} (en : n ≡ atom_length r) where
  at_inside : at + n ≤ length f
  unfolding atom_length
  at_inside = omega (arith, en, ap front_number er, (atom_room (drop at f) e).fits, length-drop at f)

  at_later : at + 16 ≤ at + n
  unfolding atom_length
  at_later = omega (arith, en)

  at_rest : drop (at + n) f ≡ after_atom (drop at f)
  unfolding after_atom
  at_rest = sym (drop-drop n at f) ∙ ap (λ (m : ℕ). drop m (drop at f)) (en ∙ ap atom_length er)

  pub passed_without : has_term number q ≡ false → RowPassed f at next number (at + n) next (number + 1)
  passed_without h =
      let h' : has_term number (drop next f) ≡ false = rw eq at h in
      record {
        inside = at_inside;
        later = at_later;
        rest = at_rest;
        terms_inside = hn;
        terms = sym (after_none number (drop next f) h');
        next_number = refl;
      }

  pub passed_with : has_term number q ≡ true → RowPassed f at next number (at + n) (next + 16) (number + 1)
  passed_with h =
      let h' : has_term number (drop next f) ≡ true = rw eq at h in
      let big = term_big (drop next f) (has_term_is number (drop next f) h').0 in
      record {
        inside = at_inside;
        later = at_later;
        rest = at_rest;
        terms_inside = omega (arith, big, length-drop next f);
        terms = sym (drop-drop 16 next f) ∙ sym (after_some number (drop next f) h');
        next_number = refl;
      }

  -- the sum, where nothing is added and where a term is
  pub sum_without : has_term number q ≡ false → (w v : ℕ) {s : ℕ} → s < 2 ^ w
      → s ≡ (s + coeff_at number (drop next f) * v) % 2 ^ w
  unfolding coeff_at
  sum_without h w v {s} hs =
      let h' : has_term number (drop next f) ≡ false = rw eq at h in
      simp h'
      (sym
      (ap (λ (m : ℕ). (s + m) % 2 ^ w) (zero-mul v) ∙ ap (λ (m : ℕ). m % 2 ^ w) (add-zero s) ∙ mod-eq_of_lt hs))

  pub coeff_with : has_term number q ≡ true → front_word q ≡ coeff_at number (drop next f)
  unfolding coeff_at
  coeff_with h = let h' : has_term number (drop next f) ≡ true = rw eq at h in simp h' (ap front_word eq)

-- the sum that the code makes of a term
pub sum_step : (w : ℕ) → w ≤ 64 → (a c v : ℕ) {p s : ℕ} → p ≡ mod_mul c v w → s ≡ mod_add a p w → s ≡ (a + c * v) % 2 ^ w
sum_step w hw a c v {p} ep es =
    es ∙ mod_add_lem a p w hw
    ∙ ap (λ (x : ℕ). (a + x) % 2 ^ w) (ep ∙ mod_mul_lem c v w hw)
    ∙ add-mod-mod a (c * v) (2 ^ w)
