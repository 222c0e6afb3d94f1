-- One row of flattening as the code has it (specs/Flattening.antt): it has no term, keeps its coefficient, or is
-- flattened.
use Rattle.made.specs.declared.Made.{Made}
use mathlib.Core.Path.{◌≡◌, refl, ap, ap₂, sym, ◌∙◌}
use Prim.Native.Nat.{ℕ, ◌+◌, ◌-◌, ◌^◌, ◌≤◌, ◌<◌}
use native.Mathlib.Omega.{arith}
use mathlib.Core.List.{List, [], ◌∷◌, ◌++◌}
use mathlib.Core.Bool.{Bool, true, false, not, ◌&&◌}
use lib.ListN.{length, get_or, set, drop, length-set}
use lib.Dec.{eqb}
use borrow.Author.Tests.{eqb-true, eq-eqb, ne_eqb}
use lib.Bits.{bit_and}
use Rattle.base.specs.Limits.{var_limit}
use Rattle.arith.specs.Width.{mod_add, mod_mul, mod_neg}
use Rattle.record.specs.Tree.{Tree, IsBytes}
use Rattle.record.specs.Decode.{decode}
use Rattle.base.proofs.BoolLaws.{and_true}
use Rattle.expr.specs.Vars.{next_var, support}
use Rattle.expr_utils.specs.Utils.{has_shr}
use Rattle.expr.specs.Value.{value}
use Rattle.expr.proofs.AcceptLaws.{accept_expr}
use Rattle.expr.proofs.IsExprLaws.{occurs_lt}
use Rattle.semilinear.specs.Form.{Row}
use Rattle.semilinear.specs.Items.{is_atom, front_word, atom_length, tree_span, atom_count}
use Rattle.semilinear.specs.Valid.{atom_ok, terms_ok}
use Rattle.semilinear.specs.DecodeForm.{row_at, read_row}
use Rattle.semilinear.proofs.ItemsLaws.{has_term_is}
use Rattle.semilinear.proofs.ValidLaws.{atom_parts, term_parts, terms_first}
use Rattle.semilinear.proofs.AcceptLaws.{bytes_tree_span}
use Rattle.made.specs.Made.{with_constant, Room}
use Rattle.std.specs.Prelude.{None, Some}
use Rattle.semilinear.specs.declared.items.FormRow.{FormRow}
use Rattle.semilinear.specs.Atoms.{RowsLeft, FrontRow}
use Rattle.semilinear.proofs.WalkLaws.{row_with, row_coeff_none, row_coeff_some}
use Rattle.structure_laws.specs.FlattenComplexAtoms.{is_plain, is_complex, at_zero, at_ones, Flat, flat_row}
use Rattle.structure_laws.specs.FlattenComplexAtoms.{flatten_row}
use Rattle.flatten.specs.Flattening.{complex_tree, flat_tree, flat_constant, Extended, flat_with, Works}
use Rattle.flatten.specs.Flattening.{bare_row, kept_row, RowFlattened}
use Rattle.structure_laws.proofs.OneVarLaws.{one_var_occurs}
use Rattle.structure_laws.proofs.FlattenLaws.{flatten_row_other}
use Rattle.flatten.proofs.ShownLaws.{shown_put, extended_then, extended_as, extended_constant}

-- ---- an atom's constant and its two rows

module _ (w : ℕ) (t : Tree) (c : ℕ) where
  pub flat_constant_lem : {made : Made} {out : List ℕ} (coeffs : List ℕ) {zeroed product : ℕ} {made' : Made} → Room made out
      → zeroed ≡ value w [] t → product ≡ mod_mul c zeroed w → made' ≡ with_constant made (mod_add made.constant product w)
      → Extended w 0 (λ l. l) (flat_constant w t c) made out coeffs made' out coeffs
  unfolding flat_constant at_zero
  flat_constant_lem {made} {out} coeffs room ez ep e =
      extended_constant w made out coeffs room (λ k. mod_add k (mod_mul c (value w [] t) w) w)
      (e ∙ ap (λ (x : ℕ). with_constant made (mod_add made.constant x w)) (ep ∙ ap (λ (y : ℕ). mod_mul c y w) ez))

  pub flat_atom : {v zeroed raised passed inverted neg : ℕ}
      {made : Made} {out coeffs : List ℕ} {made₁ : Made} {out₁ coeffs₁ : List ℕ} {made₂ : Made} {out₂ coeffs₂ : List ℕ} {made₃ : Made} {out₃ coeffs₃ : List ℕ}
      → v ≡ next_var 0 t → zeroed ≡ value w [] t → raised ≡ at_ones w v t
      → passed ≡ bit_and raised (2 ^ w - 1 - zeroed) → inverted ≡ bit_and zeroed (2 ^ w - 1 - raised)
      → neg ≡ mod_neg c w
      → Extended w 0 (λ l. l) (flat_constant w t c) made out coeffs made₁ out₁ coeffs₁
      → Extended w 1 (flat_row w v passed c) (λ k. k) made₁ out₁ coeffs₁ made₂ out₂ coeffs₂
      → Extended w 1 (flat_row w v inverted neg) (λ k. k) made₂ out₂ coeffs₂ made₃ out₃ coeffs₃
      → Extended w 2 (flat_tree w t c) (flat_constant w t c) made out coeffs made₃ out₃ coeffs₃
  unfolding flat_tree at_zero
  flat_atom {v} {zeroed} {raised} {passed} {inverted} {neg} ev ez er ep ei en constant first second =
      extended_as same (λ x. refl) (extended_then (extended_then constant first) second)
    where
      same : (l : List Row) → flat_row w v inverted neg (flat_row w v passed c l) ≡ flat_tree w t c l
      same l = cc

-- ---- what a row comes to

module _ (w : ℕ) (x : Row) where
  complex_is : is_complex w x ≡ not (eqb x.coeff 0) && complex_tree w x.tree
  unfolding is_complex complex_tree
  complex_is = refl

  complex_none : x.coeff ≡ 0 → is_complex w x ≡ false
  complex_none e = complex_is ∙ simp (eq-eqb x.coeff 0 e)

  complex_some : (x.coeff ≡ 0 → ⊥) → is_complex w x ≡ complex_tree w x.tree
  complex_some e = complex_is ∙ simp (ne_eqb x.coeff 0 e)

  kept_same : is_complex w x ≡ false → kept_row w x ≡ x
  unfolding kept_row
  kept_same e = simp e

  kept_bare : is_complex w x ≡ true → kept_row w x ≡ bare_row x
  unfolding kept_row
  kept_bare e = simp e

  bare_same : x.coeff ≡ 0 → bare_row x ≡ x
  unfolding bare_row
  bare_same e = ap (λ (n : ℕ). record { provenance = x.provenance; tree = x.tree; coeff = n }) (sym e)

  bare_bare : bare_row (bare_row x) ≡ bare_row x
  unfolding bare_row
  bare_bare = refl

  pub flatten_row_tree : is_complex w x ≡ true → (s : Flat)
      → flatten_row w x s
      ≡ flat_with (flat_tree w x.tree x.coeff s.added) (flat_constant w x.tree x.coeff s.constant) true
  unfolding flatten_row flat_tree flat_constant
  flatten_row_tree e s = simp e

-- ---- the form that is being made, with the rows a before the row x and b behind it

module _ (w : ℕ) (x : Row) (made : Made) (out coeffs : List ℕ) (a b : List Row) (k : ℕ) (g h : Bool)
    (was : Works w g made out coeffs (flat_with (a ++ (bare_row x ∷ b)) k h)) where
  -- the form after the row, where it is not flattened
  other : is_complex w x ≡ false
      → flatten_row w x (flat_with (a ++ (kept_row w x ∷ b)) k h) ≡ flat_with (a ++ (x ∷ b)) k h
  other e =
      flatten_row_other w x (flat_with (a ++ (kept_row w x ∷ b)) k h) e
      ∙ ap (λ (r : Row). flat_with (a ++ (r ∷ b)) k h) (kept_same w x e)

  works_none : x.coeff ≡ 0 → Works w g made out coeffs (flatten_row w x (flat_with (a ++ (kept_row w x ∷ b)) k h))
  works_none e =
      rw (other (complex_none w x e)) (rw (bare_same w x e) at was)

  works_put : is_complex w x ≡ false → (coeffs' : List ℕ) → coeffs' ≡ set coeffs (length a) x.coeff
      → Works w g made out coeffs' (flatten_row w x (flat_with (a ++ (kept_row w x ∷ b)) k h))
  works_put e coeffs' put =
      rw (other e)
      (record {
        flag = was.flag;
        constant = was.constant;
        shown = shown_put (bare_row x) x (bare_bare w x) b w made out coeffs coeffs' a put was.shown;
      })

  works_flat : is_complex w x ≡ true → (made' : Made) (out' coeffs' : List ℕ)
      → Extended w 2 (flat_tree w x.tree x.coeff) (flat_constant w x.tree x.coeff) made out coeffs made' out'
      coeffs'
      → Works w true made' out' coeffs' (flatten_row w x (flat_with (a ++ (kept_row w x ∷ b)) k h))
  works_flat e made' out' coeffs' step =
      rw (flatten_row_tree w x e (flat_with (a ++ (kept_row w x ∷ b)) k h), kept_bare w x e)
      (record {
        flag = refl;
        constant = step.constant ∙ ap (flat_constant w x.tree x.coeff) was.constant;
        shown = step.shown (a ++ (bare_row x ∷ b)) was.shown;
      })

-- ---- the variable of a complex atom

complex_tree_parts : (w : ℕ) (t : Tree) → complex_tree w t ≡ true → length (support t) ≡ 1
unfolding complex_tree
complex_tree_parts w t e =
    let one : Bool = eqb (length (support t)) 1 in
    let p = and_true (not (is_plain w t)) (one && not (has_shr t)) e in
    eqb-true _ _ (and_true one (not (has_shr t)) p.1).0

-- it is a variable's
pub complex_index : (w : ℕ) (r : List ℕ) → IsBytes r → atom_ok w r ≡ true → {t : List ℕ} → t ≡ tree_span r
    → complex_tree w (decode t) ≡ true → next_var 0 (decode t) < var_limit
complex_index w r bytes ok {t} et e =
    let p = atom_parts w r ok in
    let expr = accept_expr w t (rw et (bytes_tree_span r bytes)) (rw et p.accepted) in
    occurs_lt (next_var 0 (decode t)) (decode t) expr (one_var_occurs (decode t) (complex_tree_parts w (decode t) e))

-- ---- the turns

-- the row that a walk has next
abbrev pub row_here : RowsLeft → Row
row_here s = read_row s.number s.atoms s.terms

module _ (w : ℕ) {s t : RowsLeft} {x : FormRow} (g : FrontRow s x t) {made : Made} {out : List ℕ} (room : Room made out)
    (coeffs : List ℕ) (flag : Bool) where
  pub turn_none : x.coeff ≡ None → RowFlattened w (row_here s) s.number flag flag made out coeffs made out coeffs
  unfolding row_at
  turn_none e =
      let none : (row_here s).coeff ≡ 0 = row_coeff_none g e in
      record {
        room = room;
        rows_le = omega arith;
        long = refl;
        wide = refl;
        turn = λ a b k d _ was. works_none w (row_here s) made out coeffs a b k flag d was none;
      }

  module _ (c : ℕ) (ec : x.coeff ≡ Some c)
      (ok : terms_ok w (s.number + atom_count s.atoms) s.number s.terms ≡ true) where
    abbrev row : Row
    row = row_here s

    coeff_row : c ≡ row.coeff
    unfolding row_at
    coeff_row = sym (row_coeff_some g c ec)

    tree_row_lem : decode x.atom.tree.now ≡ row.tree
    unfolding row_at
    tree_row_lem = ap decode g.atom.tree

    some : row.coeff ≡ 0 → ⊥
    some z =
        let n = s.number + atom_count s.atoms in
        let h = row_with g c ec in
        let p = has_term_is s.number s.terms h.0 in
        let good = term_parts w n s.number s.terms (terms_first w n s.number s.terms ok p.0).0 in
        good.nonzero (sym h.1 ∙ coeff_row ∙ z)

    complex_row : complex_tree w (decode x.atom.tree.now) ≡ is_complex w row
    complex_row = ap (complex_tree w) tree_row_lem ∙ sym (complex_some w row some)

    pub turn_put : complex_tree w (decode x.atom.tree.now) ≡ false → {coeffs' : List ℕ} → coeffs' ≡ set coeffs s.number c
        → RowFlattened w row s.number flag flag made out coeffs made out coeffs'
    turn_put plain {coeffs'} put =
        record {
          room = room;
          rows_le = omega arith;
          long = refl;
          wide = ap length put ∙ length-set coeffs s.number c;
          turn = λ a b k d l was.
              works_put w row made out coeffs a b k flag d was (sym complex_row ∙ plain) coeffs'
              (put ∙ ap₂ (λ (i v : ℕ). set coeffs i v) (sym l) coeff_row);
        }

    pub turn_flat : complex_tree w (decode x.atom.tree.now) ≡ true → {made' : Made} {out' coeffs' : List ℕ}
        → Extended w 2 (flat_tree w (decode x.atom.tree.now) c) (flat_constant w (decode x.atom.tree.now) c) made out
        coeffs made' out' coeffs'
        → RowFlattened w row s.number flag true made out coeffs made' out' coeffs'
    turn_flat complex {made'} {out'} {coeffs'} step =
        let step' : Extended w 2 (flat_tree w row.tree row.coeff) (flat_constant w row.tree row.coeff) made
        out coeffs made' out' coeffs' = rw (← tree_row_lem, ← coeff_row) step in
        record {
          room = step.room;
          rows_le = step.rows_le;
          long = step.long;
          wide = step.wide;
          turn = λ a b k d _ was.
              works_flat w row made out coeffs a b k flag d was (sym complex_row ∙ complex) made' out' coeffs'
              step';
        }
