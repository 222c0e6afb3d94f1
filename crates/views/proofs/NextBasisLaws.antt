-- What a pass that goes through the bases in order knows of the next one: the row that names it, its bytes and its
-- hash, and that its tree is the next of `bases_of` (specs/Grouping.antt).
use mathlib.Core.Path.{◌≡◌, refl, ap, sym, subst, ◌∙◌}
use Prim.Native.Nat.{ℕ, zero, suc, ◌+◌, ◌≤◌, ◌<◌}
use native.Mathlib.Omega.{arith}
use mathlib.Core.List.{List, [], ◌∷◌}
use mathlib.Core.Bool.{Bool}
use lib.ListN.{length, get_or, drop, drop_of_length-le}
use lib.Seq.{get_or-take}
use Rattle.std.specs.Prelude.{Option, Some}
use Rattle.record.specs.Tree.{Tree}
use Rattle.record.specs.Decode.{decode}
use Rattle.semilinear.specs.Form.{Row}
use Rattle.views.specs.Grouping.{bases_of}
use Rattle.views.specs.declared.View.{View}
use Rattle.views.specs.Views.{found_at, view_at, basis_bytes, InGroup, Views}
use Rattle.views.specs.Bases.{first_rows, trees_of, FirstAre, NoneBefore}
use Rattle.views.proofs.InsertLaws.{each_get_or}
use Rattle.views.proofs.FirstRowsLaws.{Named, first_rows_lem, first_trees}
use Rattle.views.proofs.NoneBeforeLaws.{IsFirst, rows_first}

module _ (f : List ℕ) (views : List (Option View)) where
  length_trees : (l : List ℕ) → length (trees_of f views l) ≡ length l
  unfolding trees_of
  length_trees [] = refl
  length_trees (x ∷ l) = ap suc (length_trees l)

  drop_trees : (l : List ℕ) (k : ℕ) → k < length l
      → drop k (trees_of f views l) ≡ decode (basis_bytes f (view_at views (get_or l k 0))) ∷ drop (suc k) (trees_of f views l)
  unfolding trees_of
  drop_trees [] k h = absurd (omega (arith, h))
  drop_trees (x ∷ l) zero h = refl
  drop_trees (x ∷ l) (suc k) h = drop_trees l k (omega (arith, h))

-- row x names the basis k
pub record NextBasis (only : Tree → Bool) (w : ℕ) (f : List ℕ) (views : List (Option View)) (rows : List Row) (k x : ℕ)
    : Type 0 where
  pub below : x < length rows
  pub some : found_at views x ≡ Some (view_at views x)
  pub none_before : NoneBefore f views (view_at views x).hash (basis_bytes f (view_at views x)) x
  pub group : InGroup w f (view_at views x)
  pub next : drop k (bases_of only w rows [])
      ≡ decode (basis_bytes f (view_at views x)) ∷ drop (k + 1) (bases_of only w rows [])

module _ (only : Tree → Bool) (w : ℕ) (f : List ℕ) (views : List (Option View)) (rows : List Row) (h : Views only w f views rows)
    {before bases : List ℕ} {r : ℕ} (s : FirstAre (first_rows f views (length rows)) before bases r) (k : ℕ) where
  abbrev first : List ℕ
  first = first_rows f views (length rows)

  pub next_basis : k < r → NextBasis only w f views rows k (get_or bases k 0)
  next_basis lt =
      let e : get_or bases k 0 ≡ get_or first k 0 =
      sym (get_or-take r bases k 0 lt) ∙ ap (λ (l : List ℕ). get_or l k 0) s.are in
      let in-first : k < length first = omega (arith, s.count) in
      let named : Named views (length rows) (get_or bases k 0) =
      subst (Named views (length rows)) (sym e)
      (each_get_or (Named views (length rows)) first (first_rows_lem f views (length rows)).named k in-first) in
      let is-first : IsFirst f views (get_or bases k 0) =
      subst (IsFirst f views) (sym e)
      (each_get_or (IsFirst f views) first (rows_first f views (length rows)) k in-first) in
      let one : k + 1 ≡ suc k = omega arith in
      record {
        below = named.below;
        some = named.some;
        none_before = is-first;
        group = (h.each (get_or bases k 0) named.below).in_group _ named.some;
        next = rw (one, e, ← first_trees only w f views rows h) (drop_trees f views first k in-first);
      }

  -- and there are no more
  pub bases_end : r ≤ k → drop k (bases_of only w rows []) ≡ []
  bases_end le =
      rw (← first_trees only w f views rows h)
      (drop_of_length-le (trees_of f views first) {i = k} (omega (arith, length_trees f views first, s.count)))
