-- The rows that flattening keeps and those that it adds, one row at a time; rows before those added do not matter.
use mathlib.Core.Path.{◌≡◌, refl, ap, sym, ◌∙◌}
use Prim.Native.Nat.{ℕ, ◌-◌, ◌^◌}
use mathlib.Core.List.{List, [], ◌∷◌, ◌++◌, append_assoc}
use mathlib.Core.Bool.{Bool, true, false}
use lib.ListN.{length}
use lib.Bits.{bit_and}
use lib.Dec.{eqb}
use Rattle.arith.specs.Width.{mod_neg}
use Rattle.base.specs.Choice.{when}
use Rattle.record.specs.Tree.{Tree}
use Rattle.record.specs.Tree.Tree.{Variable}
use Rattle.expr.specs.Vars.{next_var}
use Rattle.semilinear.specs.Form.{Row, new_row}
use Rattle.made.specs.Rows.{masked_tree}
use Rattle.structure_laws.specs.FlattenComplexAtoms.{is_complex, at_zero, at_ones, Flat, flat_row, flatten_row}
use Rattle.structure_laws.specs.FlattenComplexAtoms.{flatten_rows, kept_rows}
use Rattle.flatten.specs.Flattening.{flat_tree, flat_constant, flat_with, bare_row, kept_row}
use Rattle.structure_laws.proofs.FlattenLaws.{flatten_row_other}
use Rattle.flatten.proofs.FlatTurnLaws.{flatten_row_tree}

module _ (w : ℕ) where
  pub kept_more : (l : List Row) (x : Row) → kept_rows w (l ++ (x ∷ [])) ≡ kept_rows w l ++ (kept_row w x ∷ [])
  unfolding kept_rows kept_row bare_row
  kept_more [] x = go (is_complex w x)
    where
      go : (b : Bool)
          → when b (λ _. record { provenance = x.provenance; tree = x.tree; coeff = 0 } ∷ []) (λ _. x ∷ [])
          ≡ when b (λ _. record { provenance = x.provenance; tree = x.tree; coeff = 0 }) (λ _. x) ∷ []
      go true = refl
      go false = refl
  kept_more (y ∷ l) x = go (is_complex w y) (kept_more l x)
    where
      go : (b : Bool) → kept_rows w (l ++ (x ∷ [])) ≡ kept_rows w l ++ (kept_row w x ∷ [])
          → when b (λ _. record { provenance = y.provenance; tree = y.tree; coeff = 0 } ∷ kept_rows w (l ++ (x ∷ [])))
          (λ _. y ∷ kept_rows w (l ++ (x ∷ [])))
          ≡ when b (λ _. record { provenance = y.provenance; tree = y.tree; coeff = 0 } ∷ kept_rows w l)
          (λ _. y ∷ kept_rows w l) ++ (kept_row w x ∷ [])
      go true below = rw below
      go false below = rw below

  pub length_kept : (l : List Row) → length (kept_rows w l) ≡ length l
  unfolding kept_rows
  length_kept [] = refl
  length_kept (y ∷ l) = go (is_complex w y) (length_kept l)
    where
      go : (b : Bool) → length (kept_rows w l) ≡ length l
          → length (when b (λ _. record { provenance = y.provenance; tree = y.tree; coeff = 0 } ∷ kept_rows w l)
          (λ _. y ∷ kept_rows w l)) ≡ length (y ∷ l)
      go true below = rw below
      go false below = rw below

  pub flatten_more : (l : List Row) (x : Row) (s : Flat)
      → flatten_rows w (l ++ (x ∷ [])) s ≡ flatten_row w x (flatten_rows w l s)
  unfolding flatten_rows
  flatten_more [] x s = refl
  flatten_more (y ∷ l) x s = flatten_more l x (flatten_row w y s)

  flat_behind : (v m c : ℕ) (p l : List Row) → flat_row w v m c (p ++ l) ≡ p ++ flat_row w v m c l
  unfolding flat_row
  flat_behind v m c p l = go (eqb m 0)
    where
      new : List Row
      new = new_row (masked_tree w (Variable v) m) c ∷ []

      go : (b : Bool) → when b (λ _. p ++ l) (λ _. (p ++ l) ++ new) ≡ p ++ when b (λ _. l) (λ _. l ++ new)
      go true = refl
      go false = append_assoc p l new

  tree_behind : (t : Tree) (c : ℕ) (p l : List Row) → flat_tree w t c (p ++ l) ≡ p ++ flat_tree w t c l
  unfolding flat_tree
  tree_behind t c p l =
      ap (flat_row w (next_var 0 t) (bit_and (at_zero w t) (2 ^ w - 1 - at_ones w (next_var 0 t) t)) (mod_neg c w))
      (flat_behind (next_var 0 t) (bit_and (at_ones w (next_var 0 t) t) (2 ^ w - 1 - at_zero w t)) c p l)
      ∙ flat_behind (next_var 0 t) (bit_and (at_zero w t) (2 ^ w - 1 - at_ones w (next_var 0 t) t)) (mod_neg c w) p
      (flat_row w (next_var 0 t) (bit_and (at_ones w (next_var 0 t) t) (2 ^ w - 1 - at_zero w t)) c l)

  -- rows before those added do not matter
  pub flatten_behind : (x : Row) (p : List Row) (s : Flat)
      → flatten_row w x (flat_with (p ++ s.added) s.constant s.flag)
      ≡ flat_with (p ++ (flatten_row w x s).added) (flatten_row w x s).constant (flatten_row w x s).flag
  flatten_behind x p s = go (is_complex w x) refl
    where
      go : (b : Bool) → is_complex w x ≡ b
          → flatten_row w x (flat_with (p ++ s.added) s.constant s.flag)
          ≡ flat_with (p ++ (flatten_row w x s).added) (flatten_row w x s).constant (flatten_row w x s).flag
      go true e =
          flatten_row_tree w x e (flat_with (p ++ s.added) s.constant s.flag)
          ∙ ap (λ (l : List Row). flat_with l (flat_constant w x.tree x.coeff s.constant) true)
          (tree_behind x.tree x.coeff p s.added)
          ∙ ap (λ (z : Flat). flat_with (p ++ z.added) z.constant z.flag) (sym (flatten_row_tree w x e s))
      go false e =
          flatten_row_other w x (flat_with (p ++ s.added) s.constant s.flag) e
          ∙ ap (λ (z : Flat). flat_with (p ++ z.added) z.constant z.flag) (sym (flatten_row_other w x s e))
