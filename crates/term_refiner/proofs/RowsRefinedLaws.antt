-- Laws of the rows of a form refined (specs/Refining.antt): what the code knows of the views, and that all groups are
-- refined of the rows without the terms that are in groups.
use Rattle.made.specs.declared.Made.{Made}
use mathlib.Core.Path.{◌≡◌, ◌∙◌}
use Prim.Native.Nat.{ℕ, ◌≤◌}
use mathlib.Core.List.{List, []}
use mathlib.Core.Bool.{false}
use Rattle.base.specs.Put.{padded}
use Rattle.semilinear.specs.Items.{atom_count, after_atoms}
use Rattle.semilinear.specs.DecodeForm.{read_rows}
use Rattle.views.specs.Grouping.{any_basis, bases_of, ungrouped}
use Rattle.std.specs.Prelude.{Option}
use Rattle.views.specs.declared.View.{View}
use Rattle.views.specs.Views.{only_of, Views, ViewsRead}
use Rattle.group.proofs.PassLaws.{read_wide, read_shown}
use Rattle.views.proofs.SplitLaws.{only_any}
use Rattle.refiner_laws.specs.Refining.{AllRefined, RowsRefined}

module _ {w : ℕ} {f coeffs : List ℕ} {views : List (Option View)} {coeffs' : List ℕ} {n : ℕ}
    (v : ViewsRead (only_of false) w f (read_rows 0 f (after_atoms f)) coeffs views coeffs' n) where
  pub read_any : Views any_basis w f views (read_rows 0 f (after_atoms f))
  read_any = rw only_any at v.views

  -- all groups refined, of the rows without their terms
  pub rows_refined : coeffs ≡ padded 256 [] → atom_count f ≤ 256 → {made : Made} {out : List ℕ} {made' : Made} {out' coeffs'' : List ℕ}
      → AllRefined w (read_rows 0 f (after_atoms f)) (bases_of any_basis w (read_rows 0 f (after_atoms f)) []) made out coeffs'
      made' out' coeffs''
      → RowsRefined w (read_rows 0 f (after_atoms f)) made out made' out' coeffs''
  rows_refined e most r =
      record {
        room = r.room;
        long = r.long;
        wide = r.wide ∙ read_wide v e most;
        shown = λ fair held.
            r.shown (ungrouped any_basis w (read_rows 0 f (after_atoms f))) fair (rw only_any at (read_shown v e held));
      }
