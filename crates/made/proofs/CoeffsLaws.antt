-- The coefficients of rows, with zeros behind them: rows without a term that are added behind change nothing there; and
-- rows that keep the limits keep them without the last ones.
use mathlib.Core.Path.{◌≡◌, refl, sym, ◌∙◌}
use Prim.Native.Nat.{ℕ, suc, ◌+◌, ◌-◌, ◌≤◌, ◌<◌}
use native.Mathlib.Omega.{arith}
use mathlib.Core.List.{List, [], ◌∷◌, ◌++◌}
use mathlib.Core.Bool.{Bool, true, false}
use lib.ListN.{length, replicate, length-append}
use lib.Seq.{append_snoc}
use lib.Dec.{leb}
use borrow.Author.Tests.{leb-true}
use Rattle.base.specs.Put.{padded}
use Rattle.record.specs.Tree.{Tree}
use Rattle.base.proofs.BoolLaws.{false_true, and_true}
use Rattle.semilinear.specs.Form.{Row, new_row, tree_records, fits_table}
use Rattle.atom_table.specs.Terms.{coeffs_of}
use Rattle.atom_table.proofs.HoldsLaws.{past_more}
use Rattle.atom_table.proofs.TermsLaws.{length_coeffs, coeffs_append}
use Rattle.made.specs.Rows.{create_row}

pub length_create : (t : Tree) (l : List Row) → length (create_row t l) ≡ length l + 1
unfolding create_row
length_create t l = length-append l (new_row t 0 ∷ [])

-- rows that pass a limit pass it with a row more
pub create_past : (t : Tree) (l : List Row) → fits_table l ≡ false → fits_table (create_row t l) ≡ false
unfolding create_row
create_past t l h = past_more l (new_row t 0 ∷ []) h

-- a row more, without a term, where there is a word for it
pub coeffs_create : (m : ℕ) (t : Tree) (l : List Row) → length l < m
    → padded m (coeffs_of (create_row t l)) ≡ padded m (coeffs_of l)
unfolding padded create_row coeffs_of
coeffs_create m t l h =
    let x : Row = new_row t 0 in
    let e : coeffs_of (l ++ (x ∷ [])) ≡ coeffs_of l ++ (0 ∷ []) = coeffs_append l (x ∷ []) in
    let n : m - length (coeffs_of l) ≡ suc (m - length (coeffs_of l ++ (0 ∷ []))) =
    omega (arith, length-append (coeffs_of l) (0 ∷ []), length_coeffs l) in
    rw (e, n) (append_snoc (coeffs_of l) 0 (replicate (m - length (coeffs_of l ++ (0 ∷ []))) 0))

pub fits_length : (l : List Row) → fits_table l ≡ true → length l ≤ 256
unfolding fits_table
fits_length l e = leb-true (length l) 256 (and_true (leb (length l) 256) (leb (tree_records l) 3072) e).0

pub fits_less : (l m : List Row) → fits_table (l ++ m) ≡ true → fits_table l ≡ true
fits_less l m e = go (fits_table l) refl
  where
    go : (b : Bool) → fits_table l ≡ b → fits_table l ≡ true
    go true f = f
    go false f = false_true (sym (past_more l m f) ∙ e)
