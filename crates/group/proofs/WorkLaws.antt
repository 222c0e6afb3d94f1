-- Laws of a pass's table without limits (specs/Group.antt): the value of a row's tree by the row's number, what stays
-- where the table grows, with terms or without, and the atoms `basis & mask`.
use mathlib.Core.Path.{◌≡◌, refl, ap, sym, ◌∙◌}
use Prim.Native.Nat.{ℕ, zero, suc, ◌+◌, ◌-◌, ◌*◌, ◌^◌, ◌≤◌, ◌<◌}
use native.Mathlib.Omega.{arith}
use native.Mathlib.Nat.{mod-eq_of_lt}
use native.Mathlib.Decide.{ℕ_discrete}
use mathlib.Core.List.{List, [], ◌∷◌, ◌++◌}
use mathlib.Core.Bool.{Bool, true, false}
use lib.ListN.{length}
use lib.Bits.{bit_and}
use lib.Dec.{eqb}
use lib.Pow.{pow_pos}
use borrow.Author.Tests.{eq-eqb, ne_eqb}
use Rattle.arith.specs.Congruence.{Eqm}
use Rattle.arith.proofs.CongruenceLaws.{eqm_of_eq, eqm_refl, eqm_trans, eqm_add}
use Rattle.arith.proofs.MaskLaws.{and_full}
use Rattle.base.specs.Choice.{when}
use Rattle.base.specs.Put.{padded}
use Rattle.record.specs.Tree.{Tree}
use Rattle.record.specs.Tree.Tree.{Constant, Binary}
use Rattle.expr.specs.Value.{value, binary}
use Rattle.expr.proofs.ValueLaws.{value_lt}
use Rattle.semilinear.specs.Form.{Row, new_row, new_rows, sum_rows, is_atom_tree, row_ok, rows_ok, fits_table}
use Rattle.atom_table.specs.Terms.{coeffs_of}
use Rattle.made.specs.Rows.{create_row, masked_tree, create_masked}
use Rattle.semilinear.proofs.RetiredLaws.{new_append}
use Rattle.semilinear.proofs.FormLaws.{good_row, rows_cons}
use Rattle.semilinear.proofs.AtomLaws.{atom_tree_lem, tree_atom, masked_atom}
use Rattle.made.proofs.CoeffsLaws.{length_create, coeffs_create, fits_less}

-- ---- the value of a row's tree

-- of row j, 0 past the end
unfoldable pub row_value : ℕ → List ℕ → List Row → ℕ → ℕ
row_value w vars [] j = 0
row_value w vars (x ∷ l) zero = value w vars x.tree
row_value w vars (x ∷ l) (suc j) = row_value w vars l j

module _ (w : ℕ) (vars : List ℕ) where
  row_value_before : (l m : List Row) (j : ℕ) → j < length l → row_value w vars (l ++ m) j ≡ row_value w vars l j
  unfolding row_value
  row_value_before [] m j h = omega arith
  row_value_before (x ∷ l) m zero h = refl
  row_value_before (x ∷ l) m (suc j) h = row_value_before l m j (omega arith)

  row_value_next : (l : List Row) (x : Row) → row_value w vars (l ++ (x ∷ [])) (length l) ≡ value w vars x.tree
  unfolding row_value
  row_value_next [] x = refl
  row_value_next (y ∷ l) x = row_value_next l x

  sum_rows_more : (l : List Row) (x : Row) → x.coeff ≡ 0 → sum_rows w vars (l ++ (x ∷ [])) ≡ sum_rows w vars l
  unfolding sum_rows
  sum_rows_more [] x z = ap (λ (c : ℕ). c * value w vars x.tree + 0) z ∙ omega arith
  sum_rows_more (y ∷ l) x z = ap (λ (n : ℕ). y.coeff * value w vars y.tree + n) (sum_rows_more l x z)

rows_ok_more : (w : ℕ) (l : List Row) (x : Row) → row_ok w x ≡ true → rows_ok w l ≡ true → rows_ok w (l ++ (x ∷ [])) ≡ true
unfolding rows_ok
rows_ok_more w [] x h ok = simp h
rows_ok_more w (y ∷ l) x h ok =
    let p = rows_cons w y l ok in
    simp (good_row w y p.0, rows_ok_more w l x h p.1)

-- ---- tables that grow

-- after has the rows of before, the same trees under the same numbers whatever the coefficients, and perhaps others
pub record Extends (w : ℕ) (vars : List ℕ) (before after : List Row) : Type 0 where
  pub longer : length before ≤ length after
  pub older : (j : ℕ) → j < length before → row_value w vars after j ≡ row_value w vars before j
  pub ok : rows_ok w before ≡ true → rows_ok w after ≡ true
  pub new : new_rows before ≡ true → new_rows after ≡ true

-- and n more in its sum, modulo 2 ^ w
pub record Added (w : ℕ) (vars : List ℕ) (n : ℕ) (before after : List Row) : Type 0 where
  pub extends : Extends w vars before after
  pub sum : Eqm (2 ^ w) (sum_rows w vars after) (sum_rows w vars before + n)

-- or the same sum, and the same coefficients: the other rows have no term
pub record Grown (w : ℕ) (vars : List ℕ) (before after : List Row) : Type 0 where
  pub extends : Extends w vars before after
  pub sum_same : sum_rows w vars after ≡ sum_rows w vars before
  pub fits : fits_table after ≡ true → fits_table before ≡ true
  pub coeffs : (n : ℕ) → length after ≤ n → padded n (coeffs_of after) ≡ padded n (coeffs_of before)

module _ (w : ℕ) (vars : List ℕ) where
  pub extends_refl : (l : List Row) → Extends w vars l l
  extends_refl l = record { longer = omega arith; older = λ j h. refl; ok = λ h. h; new = λ h. h }

  pub extends_trans : {l m n : List Row} → Extends w vars l m → Extends w vars m n → Extends w vars l n
  extends_trans {l} {m} {n} p q =
      record {
        longer = omega (arith, p.longer, q.longer);
        older = λ j h. q.older j (omega (arith, p.longer)) ∙ p.older j h;
        ok = λ h. q.ok (p.ok h);
        new = λ h. q.new (p.new h);
      }

  pub added_refl : (l : List Row) → Added w vars 0 l l
  added_refl l = record { extends = extends_refl l; sum = eqm_of_eq (omega arith) }

  pub added_trans : {n m : ℕ} {a b c : List Row} → Added w vars n a b → Added w vars m b c → Added w vars (n + m) a c
  added_trans {n} {m} p q =
      record {
        extends = extends_trans p.extends q.extends;
        sum = eqm_trans q.sum (eqm_trans (eqm_add p.sum (eqm_refl m)) (eqm_of_eq (omega arith)));
      }

  pub added_eqm : {n m : ℕ} {a b : List Row} → Eqm (2 ^ w) n m → Added w vars n a b → Added w vars m a b
  added_eqm {n} {m} {a} {b} e p =
      record { extends = p.extends; sum = eqm_trans p.sum (eqm_add (eqm_refl (sum_rows w vars a)) e) }

  pub grown_refl : (l : List Row) → Grown w vars l l
  grown_refl l =
      record { extends = extends_refl l; sum_same = refl; fits = λ h. h; coeffs = λ n h. refl }

  pub grown_trans : {l m n : List Row} → Grown w vars l m → Grown w vars m n → Grown w vars l n
  grown_trans {l} {m} {n} p q =
      record {
        extends = extends_trans p.extends q.extends;
        sum_same = q.sum_same ∙ p.sum_same;
        fits = λ h. p.fits (q.fits h);
        coeffs = λ k h. q.coeffs k h ∙ p.coeffs k (omega (arith, q.extends.longer, h));
      }

  pub grown_added : {l m : List Row} → Grown w vars l m → Added w vars 0 l m
  grown_added g = record { extends = g.extends; sum = eqm_of_eq (omega (arith, g.sum_same)) }

  module _ (t : Tree) (l : List Row) where
    pub row_value_create : row_value w vars (create_row t l) (length l) ≡ value w vars t
    unfolding create_row
    row_value_create = row_value_next w vars l (new_row t 0)

    pub grown_create : is_atom_tree t ≡ true → Grown w vars l (create_row t l)
    unfolding create_row new_rows
    grown_create ht =
        let x : Row = new_row t 0 in
        record {
          extends =
              record {
                longer = omega (arith, length_create t l);
                older = row_value_before w vars l (x ∷ []);
                ok = rows_ok_more w l x (good_row w x (record { known = omega arith; atom = ht; fits = pow_pos w }));
                new = λ h. new_append l (x ∷ []) h refl;
              };
          sum_same = sum_rows_more w vars l x refl;
          fits = fits_less l (x ∷ []);
          coeffs = λ n h. coeffs_create n t l (omega (arith, length_create t l, h));
        }

-- ---- the basis under a mask

and_value : (w : ℕ) (vars : List ℕ) (b : Tree) (m : ℕ) → m < 2 ^ w
    → value w vars (Binary 4 b (Constant m)) ≡ bit_and (value w vars b) m
unfolding value binary
and_value w vars b m hm = ap (bit_and (value w vars b)) (mod-eq_of_lt hm)

pub masked_value : (w : ℕ) (vars : List ℕ) (b : Tree) (m : ℕ) → m < 2 ^ w
    → value w vars (masked_tree w b m) ≡ bit_and (value w vars b) m
unfolding masked_tree
masked_value w vars b m hm = go (ℕ_discrete m (2 ^ w - 1))
  where
    go : Dec (m ≡ 2 ^ w - 1) → value w vars (masked_tree w b m) ≡ bit_and (value w vars b) m
    go (yes e) =
        simp (eq-eqb m (2 ^ w - 1) e)
        (sym (ap (bit_and (value w vars b)) e ∙ and_full w (value w vars b) (value_lt w vars b)))
    go (no e) = simp (ne_eqb m (2 ^ w - 1) e) (and_value w vars b m hm)

pub masked_tree_atom : (w : ℕ) (b : Tree) (m : ℕ) → is_atom_tree b ≡ true → m < 2 ^ 64
    → is_atom_tree (masked_tree w b m) ≡ true
unfolding masked_tree
masked_tree_atom w b m hb hm = go (eqb m (2 ^ w - 1))
  where
    go : (full : Bool) → is_atom_tree (when full (λ _. b) (λ _. Binary 4 b (Constant m))) ≡ true
    go true = hb
    go false = atom_tree_lem (Binary 4 b (Constant m)) (masked_atom b m hm (tree_atom b hb))

module _ (w : ℕ) (vars : List ℕ) (b : Tree) (m : ℕ) (l : List Row) where
  pub length_masked : length (create_masked w b m l) ≡ length l + 1
  unfolding create_masked
  length_masked = length_create (masked_tree w b m) l

  pub row_value_masked : m < 2 ^ w → row_value w vars (create_masked w b m l) (length l) ≡ bit_and (value w vars b) m
  unfolding create_masked
  row_value_masked hm = row_value_create w vars (masked_tree w b m) l ∙ masked_value w vars b m hm

  pub grown_masked : is_atom_tree b ≡ true → m < 2 ^ 64 → Grown w vars l (create_masked w b m l)
  unfolding create_masked
  grown_masked hb hm = grown_create w vars (masked_tree w b m) l (masked_tree_atom w b m hb hm)
