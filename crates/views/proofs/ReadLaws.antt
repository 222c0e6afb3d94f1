-- The views on their way (specs/Views.antt): what holds while the rows are read, and that each turn keeps it.
use mathlib.Core.Path.{◌≡◌, refl, ap, sym, ◌∙◌}
use Prim.Native.Nat.{ℕ, ◌+◌, ◌-◌, ◌*◌, ◌≤◌, ◌<◌}
use native.Mathlib.Omega.{arith}
use native.Mathlib.Decide.{ℕ_discrete}
use mathlib.Core.List.{List, [], ◌∷◌, ◌++◌, append-nil}
use mathlib.Core.Bool.{Bool, true, false}
use lib.ListN.{length, get_or, take, drop, set, length-append, length-drop, length-set}
use lib.Seq.{append_snoc, drop-drop, get_or-drop, get_or-set_same, get_or-set_other}
use Rattle.std.specs.Prelude.{Option, None, Some}
use Rattle.std.specs.Option.{unwrap_or}
use Rattle.base.specs.Put.{put, padded}
use Rattle.record.specs.Tree.{Tree}
use Rattle.record.specs.Decode.{decode}
use Rattle.base.proofs.PutLaws.{length_put, put_then, put_padded_at}
use Rattle.expr_refusal.specs.Refusal.{tree_refusal}
use Rattle.expr_utils.specs.Utils.{has_var_dep}
use Rattle.semilinear.specs.Form.{Row}
use Rattle.semilinear.specs.Items.{is_atom, front_number, atom_length, tree_span, after_atom, after_atoms, atom_count}
use Rattle.semilinear.specs.Valid.{atoms_ok}
use Rattle.semilinear.specs.DecodeForm.{coeff_at, after_term, row_at, read_rows, read_row}
use Rattle.semilinear.specs.Scan.{AtomsEnd}
use Rattle.semilinear.proofs.ItemsLaws.{fold_atom, fold_done, atoms_ind}
use Rattle.semilinear.proofs.RetiredLaws.{read_rows_atom, read_rows_end}
use Rattle.semilinear.proofs.ValidLaws.{atom_parts, first_atom_ok}
use Rattle.semilinear.specs.declared.items.FormRow.{FormRow}
use Rattle.semilinear.specs.Atoms.{RowsLeft, FrontRow}
use Rattle.semilinear.proofs.ScanLaws.{given_length, given_after, atom_inside}
use Rattle.semilinear.proofs.WalkLaws.{left_ok, row_variable, row_coeff_none, row_coeff_some}
use Rattle.atom_table.specs.Terms.{coeffs_of}
use Rattle.views.specs.declared.View.{View}
use Rattle.views.specs.Grouping.{ungrouped}
use Rattle.views.specs.Views.{found_at, kept_of, Viewed, blank_row, ViewsRead}
use Rattle.views.proofs.ViewsLaws.{set_put, kept_row_lem}

-- as many rows as atoms
pub length_rows : (r : List ℕ) (i : ℕ) (q : List ℕ) → length (read_rows i r q) ≡ atom_count r
length_rows =
    atoms_ind (λ r. (i : ℕ) (q : List ℕ) → length (read_rows i r q) ≡ atom_count r)
    (λ r e i q. ap length (read_rows_end i r q e) ∙ sym (fold_done (λ r. 0) (λ r n. 1 + n) r e))
    (λ r e below i q.
    ap length (read_rows_atom i r q e)
    ∙ omega (arith, below (i + 1) (after_term i q), fold_atom (λ r. 0) (λ r n. 1 + n) r e))

-- the tree of the atom at `at`, by its places
module _ (w : ℕ) (f : List ℕ) (at : ℕ) {s t : RowsLeft} {x : FormRow} (g : FrontRow s x t) (place : s.atoms ≡ drop at f)
    {e : ℕ} (ee : e ≡ at + (16 + length x.atom.tree.now)) where
  tree_place : x.atom.tree.now ≡ take (e - (at + 16)) (drop (at + 16) f)
  unfolding tree_span atom_length
  tree_place =
      let m : e - (at + 16) ≡ 16 * front_number s.atoms = omega (arith, ee, given_length g.atom) in
      g.atom.tree ∙ rw (m, ← drop-drop 16 at f, place) refl

  pub tree_accepted : atoms_ok w s.atoms ≡ true → tree_refusal w (take (e - (at + 16)) (drop (at + 16) f)) ≡ 0
  tree_accepted ok =
      rw (← tree_place, g.atom.tree) (atom_parts w s.atoms (first_atom_ok w s.atoms ok g.atom.stands)).accepted

  pub tree_variable : atoms_ok w s.atoms ≡ true
      → has_var_dep (decode (take (e - (at + 16)) (drop (at + 16) f))) ≡ true
  tree_variable ok = rw (← tree_place) (row_variable g w ok)

  pub row_tree_lem : (read_row s.number s.atoms s.terms).tree ≡ decode (take (e - (at + 16)) (drop (at + 16) f))
  unfolding row_at
  row_tree_lem = ap decode (sym g.atom.tree ∙ tree_place)

-- the coefficient of a row, 0 without a term
pub row_coeff : {s t : RowsLeft} {x : FormRow} → FrontRow s x t
    → (read_row s.number s.atoms s.terms).coeff ≡ unwrap_or x.coeff 0
unfolding row_at
row_coeff {s} {t} {x} g = go x.coeff refl
  where
    go : (o : Option ℕ) → x.coeff ≡ o → coeff_at s.number s.terms ≡ unwrap_or o 0
    go None e = row_coeff_none g e
    go (Some c) e = row_coeff_some g c e

-- ---- reading

pub record Reads (only : Tree → Bool) (w : ℕ) (f : List ℕ) (rows : List Row) (views₀ : List (Option View))
    (coeffs₀ : List ℕ) (at number : ℕ) (views : List (Option View)) (coeffs : List ℕ) (s : RowsLeft) : Type 0 where
  pub inside : at ≤ length f
  pub place : s.atoms ≡ drop at f
  pub atoms : atoms_ok w s.atoms ≡ true
  pub left : drop number rows ≡ read_rows s.number s.atoms s.terms
  pub number_le : number ≤ length rows
  pub views_room : length rows ≤ length views
  pub coeffs_room : length rows ≤ length coeffs₀
  pub views_long : length views ≡ length views₀
  pub seen : (i : ℕ) → i < number → Viewed only w f (found_at views i) (get_or rows i blank_row)
  pub done : List ℕ
  pub counted : length done ≡ number
  pub kept : coeffs ≡ put coeffs₀ 0 done
  pub all : done ++ coeffs_of (ungrouped only w (drop number rows)) ≡ coeffs_of (ungrouped only w rows)

-- the first of what is left
front_row : (rows : List Row) (k : ℕ) {x : Row} {l : List Row} → drop k rows ≡ x ∷ l
    → (k < length rows) × (get_or rows k blank_row ≡ x) × (drop (k + 1) rows ≡ l)
front_row rows k e =
    let z : k ≡ k + 0 = omega arith in (
      omega (arith, ap length e, length-drop k rows),
      ap (λ (n : ℕ). get_or rows n blank_row) z
          ∙ sym (get_or-drop k rows 0 blank_row)
          ∙ ap (λ (m : List Row). get_or m 0 blank_row) e,
      sym (drop-drop 1 k rows) ∙ ap (drop 1) e,
    )

-- zeros before: the coefficients, with zeros behind
pub kept_padded : {only : Tree → Bool} {w : ℕ} {f : List ℕ} {rows : List Row} {coeffs : List ℕ}
    {views' : List (Option View)} {coeffs' : List ℕ} {r : ℕ}
    → ViewsRead only w f rows coeffs views' coeffs' r → (m : ℕ) → coeffs ≡ padded m []
    → coeffs' ≡ padded m (coeffs_of (ungrouped only w rows))
kept_padded {only} {w} {f} {rows} h m e =
    h.kept
    ∙ ap (λ (d : List ℕ). put d 0 (coeffs_of (ungrouped only w rows))) e
    ∙ put_padded_at m [] (coeffs_of (ungrouped only w rows)) 0 refl

module _ (only : Tree → Bool) (w : ℕ) (f : List ℕ) (views₀ : List (Option View)) (coeffs₀ : List ℕ) where
  pub reads_start : (terms : ℕ) → atoms_ok w f ≡ true → AtomsEnd f terms → atom_count f ≤ length views₀
      → atom_count f ≤ length coeffs₀
      → Reads only w f (read_rows 0 f (after_atoms f)) views₀ coeffs₀ 0 0 views₀ coeffs₀
      (record { number = 0; atoms = f; terms = drop terms f })
  unfolding put
  reads_start terms ok end hv hc =
      let n = length_rows f 0 (after_atoms f) in
      record {
        inside = omega arith;
        place = refl;
        atoms = ok;
        left = ap (read_rows 0 f) (sym end.rest);
        number_le = omega arith;
        views_room = omega (arith, n);
        coeffs_room = omega (arith, n);
        views_long = refl;
        seen = λ i l. absurd (omega arith);
        done = [];
        counted = refl;
        kept = refl;
        all = refl;
      }

  module _ (rows : List Row) (at number : ℕ) (views : List (Option View)) (coeffs : List ℕ) {s : RowsLeft}
      (h : Reads only w f rows views₀ coeffs₀ at number views coeffs s) where
    pub coeffs_long : length coeffs ≡ length coeffs₀
    coeffs_long = ap length h.kept ∙ length_put coeffs₀ 0 h.done
        (omega (arith, h.counted, h.number_le, h.coeffs_room))

    module _ {t : RowsLeft} {x : FormRow} (g : FrontRow s x t) where
      abbrev row : Row
      row = read_row s.number s.atoms s.terms

      abbrev later : List Row
      later = read_rows (s.number + 1) (after_atom s.atoms) (after_term s.number s.terms)

      first : drop number rows ≡ row ∷ later
      first = h.left ∙ read_rows_atom s.number s.atoms s.terms g.atom.stands

      pub number_lt : number < length rows
      number_lt = (front_row rows number first).0

      pub end_inside : at + (16 + length x.atom.tree.now) ≤ length f
      end_inside = omega (arith, given_length g.atom, atom_inside f at s.atoms h.place g.atom.stands h.inside)

      pub reads_row : {e : ℕ} → e ≡ at + (16 + length x.atom.tree.now) → (found : Option View)
          → Viewed only w f found row → {k : ℕ} → k ≡ kept_of found row.coeff
          → Reads only w f rows views₀ coeffs₀ e (number + 1) (set views number found) (set coeffs number k) t
      reads_row {e} ee found viewed {k} ek =
          let u = front_row rows number first in
          let long : length (set views number found) ≡ length views = length-set views number found in
          record {
            inside = omega (arith, ee, end_inside);
            place = rw ee (given_after g.atom f at h.place);
            atoms = left_ok g w h.atoms;
            left = rw (g.after, g.atom.rest, g.terms) u.2;
            number_le = omega (arith, u.0);
            views_room = omega (arith, long, h.views_room);
            coeffs_room = h.coeffs_room;
            views_long = long ∙ h.views_long;
            seen = λ i l. go i (ℕ_discrete i number) l;
            done = h.done ++ (k ∷ []);
            counted = length-append h.done (k ∷ []) ∙ omega (arith, h.counted);
            kept = wrote;
            all = rest;
          }
        where
          go : (i : ℕ) → Dec (i ≡ number) → i < number + 1
              → Viewed only w f (found_at (set views number found) i) (get_or rows i blank_row)
          go i (yes z) l =
              let room : number < length views = omega (arith, number_lt, h.views_room) in
              rw (z, get_or-set_same views number found None room, (front_row rows number first).1) viewed
          go i (no z) l = rw (get_or-set_other views number i found None z) (h.seen i (omega arith))

          wrote : set coeffs number k ≡ put coeffs₀ 0 (h.done ++ (k ∷ []))
          wrote =
              set_put coeffs number k (omega (arith, coeffs_long, number_lt, h.coeffs_room))
              ∙ ap (λ (d : List ℕ). put d number (k ∷ [])) h.kept
              ∙ put_then coeffs₀ 0 h.done (k ∷ []) number
              (omega (arith, h.counted, h.number_le, h.coeffs_room)) (omega (arith, h.counted))

          rest : (h.done ++ (k ∷ [])) ++ coeffs_of (ungrouped only w (drop (number + 1) rows))
              ≡ coeffs_of (ungrouped only w rows)
          rest =
              rw (ek, (front_row rows number first).2)
              (append_snoc h.done (kept_of found row.coeff) (coeffs_of (ungrouped only w later))
              ∙ ap (λ (l : List ℕ). h.done ++ l) (sym (kept_row_lem only w f row found viewed later))
              ∙ ap (λ (l : List Row). h.done ++ coeffs_of (ungrouped only w l)) (sym first)
              ∙ h.all)

    pub reads_end : is_atom s.atoms ≡ false → ViewsRead only w f rows coeffs₀ views coeffs number
    unfolding ungrouped coeffs_of
    reads_end e =
        let none : drop number rows ≡ [] = h.left ∙ read_rows_end s.number s.atoms s.terms e in
        let same : number ≡ length rows = omega (arith, ap length none, length-drop number rows, h.number_le) in
        record {
          number = same;
          views = record { room = h.views_room; each = λ i l. h.seen i (omega arith) };
          kept =
              h.kept
              ∙ ap (put coeffs₀ 0)
              (sym (append-nil h.done)
              ∙ ap (λ (l : List Row). h.done ++ coeffs_of (ungrouped only w l)) (sym none)
              ∙ h.all);
        }
