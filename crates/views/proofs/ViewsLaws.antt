-- Laws of the views of rows (specs/Views.antt): when a view is that of a row, and which coefficient stays with the row.
use mathlib.Core.Path.{◌≡◌, refl, ap, sym, ◌∙◌}
use Prim.Native.Nat.{ℕ, suc, ◌+◌, ◌<◌}
use native.Mathlib.Omega.{arith}
use mathlib.Core.List.{List, [], ◌∷◌}
use mathlib.Core.Bool.{Bool, true, false}
use lib.ListN.{length, take, drop, set}
use lib.Seq.{set_split, append_snoc}
use Rattle.std.specs.Prelude.{Option, Some, None, is_some}
use Rattle.base.specs.Put.{put}
use Rattle.record.specs.Tree.{Tree}
use Rattle.record.specs.Decode.{decode}
use Rattle.semilinear.specs.Form.{Row}
use Rattle.decompose.specs.Decompose.{no_basis, masked}
use Rattle.atom_table.specs.Terms.{coeffs_of}
use Rattle.views.specs.declared.View.{View}
use Rattle.views.specs.Grouping.{view_row, ungrouped}
use Rattle.views.specs.Views.{found_at, view_or_blank, view_at, basis_bytes, split_of, kept_of, InGroup, Viewed}

-- ---- what stands at a row

module _ (views : List (Option View)) (i : ℕ) where
  pub view_some : {v : View} → found_at views i ≡ Some v → view_at views i ≡ v
  unfolding view_at view_or_blank
  view_some e = simp e

  -- none, or its view
  pub found_case : {R : Type 0} → (found_at views i ≡ None → R) → (found_at views i ≡ Some (view_at views i) → R) → R
  found_case {R} p q = go (found_at views i) refl
    where
      go : (o : Option View) → found_at views i ≡ o → R
      go None e = p e
      go (Some v) e = q (e ∙ ap Some (sym (view_some e)))

-- one word stored is a piece of one word put
pub set_put : (l : List ℕ) (i a : ℕ) → i < length l → set l i a ≡ put l i (a ∷ [])
unfolding put
set_put l i a h =
    let e : suc i ≡ i + 1 = omega arith in
    rw (← e) (set_split l i a h ∙ sym (append_snoc (take i l) a (drop (suc i) l)))

-- ---- the view of a row

module _ (only : Tree → Bool) (w : ℕ) (f : List ℕ) (x : Row) where
  -- in no group
  pub viewed_none : view_row only w x ≡ no_basis → Viewed only w f None x
  unfolding split_of
  viewed_none e = record { split = e; in_group = λ v n. cc; coeff = λ v n. cc }

  pub viewed_some : (v : View) → InGroup w f v → v.coeff ≡ x.coeff
      → view_row only w x ≡ masked (decode (basis_bytes f v)) v.mask → Viewed only w f (Some v) x
  unfolding split_of
  viewed_some v g c e =
      record {
        split = e;
        in_group = λ u s. let same : v ≡ u = cc in rw (← same) g;
        coeff = λ u s. let same : v ≡ u = cc in rw (← same) c;
      }

  module _ {found : Option View} (h : Viewed only w f found x) where
    pub row_no_basis : found ≡ None → view_row only w x ≡ no_basis
    unfolding split_of
    row_no_basis z = h.split ∙ simp z

    pub row_masked : {v : View} → found ≡ Some v → view_row only w x ≡ masked (decode (basis_bytes f v)) v.mask
    unfolding split_of
    row_masked s = h.split ∙ simp s

  -- what stays with the row
  pub kept_row_lem : (found : Option View) → Viewed only w f found x → (l : List Row)
      → coeffs_of (ungrouped only w (x ∷ l)) ≡ kept_of found x.coeff ∷ coeffs_of (ungrouped only w l)
  unfolding ungrouped coeffs_of kept_of
  kept_row_lem None h l = simp (row_no_basis h refl)
  kept_row_lem (Some v) h l = simp (row_masked h refl)

-- the coefficient that the code keeps
pub kept_here : (found : Option View) (c : ℕ) → is_some found ≡ false → c ≡ kept_of found c
unfolding kept_of
kept_here None c z = refl
kept_here (Some v) c z = cc

pub kept_away : (found : Option View) (c : ℕ) → is_some found ≡ true → 0 ≡ kept_of found c
unfolding kept_of
kept_away None c z = cc
kept_away (Some v) c z = refl
