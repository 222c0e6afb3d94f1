-- The walk of flattening over the rows (specs/Flattening.antt): what holds of it on its way, that each row keeps it,
-- and what it comes to.
use Rattle.made.specs.declared.Made.{Made}
use mathlib.Core.Path.{◌≡◌, refl, ap, sym, ◌∙◌}
use Prim.Native.Nat.{ℕ, ◌+◌, ◌-◌, ◌*◌, ◌^◌, ◌≤◌, ◌<◌}
use native.Mathlib.Omega.{arith}
use native.Mathlib.Nat.{zero-add}
use mathlib.Core.List.{List, [], ◌∷◌, ◌++◌, append_assoc, append-nil}
use mathlib.Core.Bool.{Bool, true, false}
use lib.ListN.{length, get_or, drop, replicate, length-append, length-replicate, replicate-append-replicate}
use Rattle.base.specs.Put.{padded}
use Rattle.semilinear.specs.Form.{Row}
use Rattle.semilinear.specs.Items.{is_atom, atom_count, after_atoms}
use Rattle.semilinear.specs.Valid.{atoms_ok, terms_ok}
use Rattle.semilinear.specs.DecodeForm.{read_rows}
use Rattle.semilinear.specs.Scan.{AtomsEnd}
use Rattle.atom_table.specs.Terms.{coeffs_of}
use Rattle.atom_table.proofs.HoldsLaws.{bare_rows, length_bare, holds_bare}
use Rattle.semilinear.proofs.ItemsLaws.{fold_atom}
use Rattle.semilinear.proofs.RetiredLaws.{read_rows_atom, read_rows_end}
use Rattle.semilinear.proofs.ValidLaws.{FrontParts, first_atom_ok, later_atoms_ok}
use Rattle.compaction.proofs.CompactLaws.{terms_after}
use Rattle.made.specs.Made.{Room, Held}
use Rattle.views.proofs.ReadLaws.{length_rows}
use Rattle.base.specs.Limits.{var_limit}
use Rattle.record.specs.Tree.{IsBytes}
use Rattle.record.specs.Decode.{decode}
use Rattle.expr.specs.Vars.{next_var}
use Rattle.semilinear.specs.declared.items.FormRow.{FormRow}
use Rattle.semilinear.specs.Atoms.{RowsLeft, FrontRow}
use Rattle.semilinear.proofs.AcceptLaws.{bytes_after_atom}
use Rattle.flatten.proofs.FlatTurnLaws.{complex_index, row_here}
use Rattle.structure_laws.specs.FlattenComplexAtoms.{Flat, flatten_row}
use Rattle.structure_laws.specs.FlattenComplexAtoms.{flatten_rows, kept_rows}
use Rattle.made.specs.Shown.{Shown}
use Rattle.flatten.specs.Flattening.{flat_with, Works, bare_row, kept_row}
use Rattle.flatten.specs.Flattening.{complex_tree, RowFlattened, flat_rows, RowsFlattened}
use Rattle.made.proofs.CoeffsLaws.{fits_length}
use Rattle.flatten.proofs.KeptRowsLaws.{kept_more, length_kept, flatten_more, flatten_behind}

-- the rows that are left
abbrev pub left : RowsLeft → List Row
left s = read_rows s.number s.atoms s.terms

-- the rows `done` flattened, with those left behind them and those added last
abbrev so_far : ℕ → ℕ → List Row → List Row → Flat
so_far w k done rest =
    flat_with (kept_rows w done ++ (bare_rows rest ++ (flatten_rows w done (flat_with [] k false)).added))
    (flatten_rows w done (flat_with [] k false)).constant (flatten_rows w done (flat_with [] k false)).flag

pub record Walked (w : ℕ) (f : List ℕ) (k len : ℕ) (s : RowsLeft) (flag : Bool) (made : Made) (out coeffs : List ℕ)
    : Type 0 where
  pub bytes : IsBytes s.atoms
  pub atoms : atoms_ok w s.atoms ≡ true
  pub terms : terms_ok w (s.number + atom_count s.atoms) s.number s.terms ≡ true
  pub count_le : s.number + atom_count s.atoms ≤ 256
  pub room : Room made out
  pub rows_le : made.rows ≤ 256 + 2 * s.number
  pub long : length out ≡ len
  pub wide : length coeffs ≡ 256
  pub done : List Row
  pub numbered : length done ≡ s.number
  pub all : done ++ left s ≡ read_rows 0 f (after_atoms f)
  pub works : Works w flag made out coeffs (so_far w k done (left s))

coeffs_bare : (l : List Row) → coeffs_of (bare_rows l) ≡ replicate (length l) 0
unfolding coeffs_of bare_rows
coeffs_bare [] = refl
coeffs_bare (x ∷ l) = rw (coeffs_bare l)

bare_twice : (l : List Row) → bare_rows l ≡ bare_rows (bare_rows l)
unfolding bare_rows
bare_twice [] = refl
bare_twice (x ∷ l) =
    ap (λ (m : List Row). record { provenance = x.provenance; tree = x.tree; coeff = 0 } ∷ m) (bare_twice l)

-- rows without terms, and coefficients that are zeros
shown_bare : (w : ℕ) (made : Made) (out coeffs : List ℕ) (l : List Row) → Held w made out l → coeffs ≡ replicate 256 0
    → Shown w made out coeffs (bare_rows l)
unfolding padded
shown_bare w made out coeffs l h z =
    record {
      held =
          record {
            holds = holds_bare l (bare_rows l) (bare_twice l) w made.table out h.holds;
            clean = h.clean;
            rows = h.rows ∙ sym (length_bare l);
          };
      terms = λ fit.
          let n : length l ≤ 256 = omega (arith, fits_length (bare_rows l) fit, length_bare l) in
          let m : length l + (256 - length l) ≡ 256 = omega arith in
          z
          ∙ ap (λ (i : ℕ). replicate i 0) (sym m)
          ∙ sym (replicate-append-replicate (length l) (256 - length l) 0)
          ∙ rw (coeffs_bare l, length-replicate {A = ℕ} (length l) 0);
    }

-- one row more of them
works_row : (w k : ℕ) (g h : Bool) (made : Made) (out coeffs : List ℕ) (made' : Made) (out' coeffs' : List ℕ) (done rest : List Row) (x : Row)
    → ((a b : List Row) (j : ℕ) (d : Bool) → length a ≡ length done
    → Works w g made out coeffs (flat_with (a ++ (bare_row x ∷ b)) j d)
    → Works w h made' out' coeffs' (flatten_row w x (flat_with (a ++ (kept_row w x ∷ b)) j d)))
    → Works w g made out coeffs (so_far w k done (x ∷ rest))
    → Works w h made' out' coeffs' (so_far w k (done ++ (x ∷ [])) rest)
unfolding bare_rows bare_row
works_row w k g h made out coeffs made' out' coeffs' done rest x turn was =
    let s : Flat = flatten_rows w done (flat_with [] k false) in
    let a : List Row = kept_rows w done in
    let b : List Row = bare_rows rest in
    let more : flatten_rows w (done ++ (x ∷ [])) (flat_with [] k false) ≡ flatten_row w x s =
    flatten_more w done x (flat_with [] k false) in
    let rows : (z : Flat) → a ++ (kept_row w x ∷ (b ++ z.added)) ≡ kept_rows w (done ++ (x ∷ [])) ++ (b ++ z.added) =
    λ z. sym (append_assoc a (kept_row w x ∷ []) (b ++ z.added))
    ∙ ap (λ (l : List Row). l ++ (b ++ z.added)) (sym (kept_more w done x)) in
    let front : (z : Flat) → (a ++ (kept_row w x ∷ b)) ++ z.added ≡ a ++ (kept_row w x ∷ (b ++ z.added)) =
    λ z. append_assoc a (kept_row w x ∷ b) z.added in
    let same : flatten_row w x (flat_with (a ++ (kept_row w x ∷ (b ++ s.added))) s.constant s.flag)
    ≡ so_far w k (done ++ (x ∷ [])) rest =
    ap (λ (l : List Row). flatten_row w x (flat_with l s.constant s.flag)) (sym (front s))
    ∙ flatten_behind w x (a ++ (kept_row w x ∷ b)) s
    ∙ ap (λ (z : Flat). flat_with ((a ++ (kept_row w x ∷ b)) ++ z.added) z.constant z.flag) (sym more)
    ∙ ap (λ (l : List Row). flat_with l (flatten_rows w (done ++ (x ∷ [])) (flat_with [] k false)).constant
    (flatten_rows w (done ++ (x ∷ [])) (flat_with [] k false)).flag)
    (front (flatten_rows w (done ++ (x ∷ [])) (flat_with [] k false))
    ∙ rows (flatten_rows w (done ++ (x ∷ [])) (flat_with [] k false))) in
    rw (← same) (turn a (b ++ s.added) s.constant s.flag (length_kept w done) was)

module _ (w : ℕ) (f : List ℕ) (k len : ℕ) where
  pub walked_start : IsBytes f → FrontParts w f → (terms : ℕ) → AtomsEnd f terms → (made : Made) (out coeffs : List ℕ)
      → coeffs ≡ replicate 256 0 → Held w made out (read_rows 0 f (after_atoms f))
      → made.constant ≡ k → length out ≡ len
      → Walked w f k len (record { number = 0; atoms = f; terms = drop terms f }) false made out coeffs
  unfolding kept_rows flatten_rows
  walked_start bytes p terms end made out coeffs z h ek long =
      let rows : List Row = read_rows 0 f (after_atoms f) in
      let same : read_rows 0 f (drop terms f) ≡ rows = ap (read_rows 0 f) end.rest in
      record {
        bytes = bytes;
        atoms = p.atoms;
        terms = rw (end.rest, zero-add (atom_count f)) p.terms;
        count_le = omega (arith, p.atoms_le);
        room = record { placed = h.holds.placed };
        rows_le = omega (arith, h.rows, length_rows f 0 (after_atoms f), p.atoms_le);
        long = long;
        wide = ap length z ∙ length-replicate {A = ℕ} 256 0;
        done = [];
        numbered = refl;
        all = same;
        works =
            record {
              flag = refl;
              constant = ek;
              shown = rw (same, append-nil (bare_rows rows)) (shown_bare w made out coeffs rows h z);
            };
      }

  module _ {s t : RowsLeft} {x : FormRow} (flag : Bool) (made : Made) (out coeffs : List ℕ)
      (h : Walked w f k len s flag made out coeffs) (g : FrontRow s x t) where
    -- what a turn asks for: a place for the coefficient, and room in the counter of rows
    pub walked_number : (x.number < length coeffs) × (made.rows + 2 < 2 ^ 64)
    walked_number =
        let one = fold_atom (λ r. 0) (λ r m. 1 + m) s.atoms g.atom.stands in
        let low : s.number < 256 = omega (arith, h.count_le, one) in
        (omega (arith, h.wide, low, g.number), omega (arith, h.rows_le, low))

    -- the variable of its tree
    pub walked_index : complex_tree w (decode x.atom.tree.now) ≡ true → next_var 0 (decode x.atom.tree.now) < var_limit
    walked_index = complex_index w s.atoms h.bytes (first_atom_ok w s.atoms h.atoms g.atom.stands) g.atom.tree

    pub walked_row : (flag' : Bool) (made' : Made) (out' coeffs' : List ℕ)
        → RowFlattened w (row_here s) s.number flag flag' made out coeffs made' out' coeffs'
        → Walked w f k len t flag' made' out' coeffs'
    walked_row flag' made' out' coeffs' u =
        let r : List ℕ = s.atoms in
        let q : List ℕ = s.terms in
        let i : ℕ = s.number in
        let n : ℕ = i + atom_count r in
        let e = g.atom.stands in
        let count : n ≡ t.number + atom_count t.atoms =
        omega (arith, fold_atom (λ r. 0) (λ r m. 1 + m) r e, ap atom_count g.atom.rest, g.after) in
        let first : left s ≡ row_here s ∷ left t =
        read_rows_atom i r q e ∙ rw (g.after, g.atom.rest, g.terms) refl in
        record {
          bytes = rw g.atom.rest (bytes_after_atom r h.bytes);
          atoms = rw g.atom.rest (later_atoms_ok w r h.atoms e);
          terms = rw (← count) (rw (g.after, g.terms) (terms_after w n i r q e h.terms));
          count_le = omega (arith, count, h.count_le);
          room = u.room;
          rows_le = omega (arith, u.rows_le, h.rows_le, g.after);
          long = u.long ∙ h.long;
          wide = u.wide ∙ h.wide;
          done = h.done ++ (row_here s ∷ []);
          numbered = length-append h.done (row_here s ∷ []) ∙ omega (arith, h.numbered, g.after);
          all =
              append_assoc h.done (row_here s ∷ []) (left t)
              ∙ ap (λ (l : List Row). h.done ++ l) (sym first)
              ∙ h.all;
          works = works_row w k flag flag' made out coeffs made' out' coeffs' h.done (left t) (row_here s)
              (λ a b k d l. u.turn a b k d (l ∙ h.numbered))
              (rw first at h.works);
        }

  pub walked_end : (s : RowsLeft) (flag : Bool) (made : Made) (out coeffs : List ℕ) → Walked w f k len s flag made out coeffs
      → is_atom s.atoms ≡ false
      → RowsFlattened w (read_rows 0 f (after_atoms f)) k len flag made out coeffs
  unfolding bare_rows flat_rows
  walked_end s flag made out coeffs h e =
      let none : left s ≡ [] = read_rows_end s.number s.atoms s.terms e in
      let all : h.done ≡ read_rows 0 f (after_atoms f) =
      sym (append-nil h.done) ∙ ap (λ (l : List Row). h.done ++ l) (sym none) ∙ h.all in
      record {
        room = h.room;
        long = h.long;
        wide = h.wide;
        works = rw (none, all) at h.works;
      }
