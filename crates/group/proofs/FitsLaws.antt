-- What a pass keeps of the entries of a group beside its table: the row of a live entry is the basis b under the
-- entry's mask, where P holds of the entry. P is any entry in refining, and one that is not rewritten in recovering.
use mathlib.Core.Path.{◌≡◌, ap, sym, subst, ◌∙◌}
use Prim.Native.Nat.{ℕ, ◌^◌, ◌<◌}
use native.Mathlib.Omega.{arith}
use native.Mathlib.Decide.{ℕ_discrete}
use mathlib.Core.List.{List}
use mathlib.Core.Bool.{true}
use lib.ListN.{length}
use lib.Bits.{bit_and}
use Rattle.record.specs.Tree.{Tree}
use Rattle.expr.specs.Value.{value}
use Rattle.semilinear.specs.Form.{Row}
use Rattle.group.specs.declared.Group.{Group}
use Rattle.entries.specs.declared.Mark.{Mark}
use Rattle.group.specs.Group.{Entry, at, put_entry, is_live}
use Rattle.made.specs.Rows.{create_masked}
use Rattle.group.proofs.EntryLaws.{Sized, at_put, at_put_other}
use Rattle.group.proofs.TotalLaws.{len_put}
use Rattle.group.proofs.WorkLaws.{row_value, Extends, length_masked, row_value_masked}
use Rattle.group.proofs.GroupOfLaws.{Fresh}

-- the row is the basis under the mask
pub record Masked (w : ℕ) (vars : List ℕ) (b : Tree) (rows : List Row) (e : Entry) : Type 0 where
  pub mask_lt : e.mask < 2 ^ w
  pub atom_value : row_value w vars rows e.atom ≡ bit_and (value w vars b) e.mask

pub record Fits (w : ℕ) (vars : List ℕ) (b : Tree) (P : Entry → Type 0) (rows : List Row) (e : Entry) : Type 0 where
  pub coeff_lt : e.coeff < 2 ^ w
  pub atom_lt : e.atom < length rows
  pub masked : P e → Masked w vars b rows e

-- every live entry fits
pub record AllFit (w : ℕ) (vars : List ℕ) (b : Tree) (P : Entry → Type 0) (g : Group) (rows : List Row) : Type 0 where
  pub fit : (i : ℕ) → i < g.len → is_live (at g i) ≡ true → Fits w vars b P rows (at g i)

module _ (w : ℕ) (vars : List ℕ) (b : Tree) (P : Entry → Type 0) where
  -- beside a table that grows
  pub fits_extends : {l m : List Row} (e : Entry) → Extends w vars l m → Fits w vars b P l e → Fits w vars b P m e
  fits_extends e x f =
      record {
        coeff_lt = f.coeff_lt;
        atom_lt = omega (arith, x.longer, f.atom_lt);
        masked = λ p. record {
          mask_lt = (f.masked p).mask_lt;
          atom_value = x.older e.atom f.atom_lt ∙ (f.masked p).atom_value;
        };
      }

  pub all_extends : {l m : List Row} (g : Group) → Extends w vars l m → AllFit w vars b P g l → AllFit w vars b P g m
  all_extends g x a = record { fit = λ i l live. fits_extends (at g i) x (a.fit i l live) }

  -- an entry as it was gathered
  pub fits_fresh : {l m : List Row} (e : Entry) → Extends w vars l m → Fresh w vars b l e → Fits w vars b P m e
  fits_fresh e x f =
      fits_extends e x
      (record {
        coeff_lt = f.coeff_lt;
        atom_lt = f.atom_lt;
        masked = λ _. record { mask_lt = f.mask_lt; atom_value = f.atom_value };
      })

  -- an entry whose atom is made for its mask
  pub fits_made : (l : List Row) (c m : ℕ) (u : Mark) → c < 2 ^ w → m < 2 ^ w
      → Fits w vars b P (create_masked w b m l) (record { coeff = c; mask = m; atom = length l; mark = u })
  fits_made l c m u hc hm =
      record {
        coeff_lt = hc;
        atom_lt = omega (arith, length_masked w vars b m l);
        masked = λ _. record { mask_lt = hm; atom_value = row_value_masked w vars b m l hm };
      }

  -- an entry put
  pub all_put : (g : Group) → Sized g → (l : List Row) → AllFit w vars b P g l → (i : ℕ) (e : Entry) → i < g.len
      → (is_live e ≡ true → Fits w vars b P l e) → AllFit w vars b P (put_entry g i e) l
  all_put g s l a i e li h =
      record { fit = λ k lk live. go k (ℕ_discrete k i) (subst (λ (n : ℕ). k < n) (len_put g i e) lk) live }
    where
      go : (k : ℕ) → Dec (k ≡ i) → k < g.len → is_live (at (put_entry g i e) k) ≡ true
          → Fits w vars b P l (at (put_entry g i e) k)
      go k (yes q) lk =
          let new : at (put_entry g i e) k ≡ e =
          ap (at (put_entry g i e)) q ∙ at_put g i e s (omega (arith, s.len_le)) in
          subst (λ (y : Entry). is_live y ≡ true → Fits w vars b P l y) (sym new) h
      go k (no q) lk =
          subst (λ (y : Entry). is_live y ≡ true → Fits w vars b P l y) (sym (at_put_other g i k e q)) (a.fit k lk)
