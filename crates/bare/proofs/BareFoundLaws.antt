-- Laws of specs/Showing.antt: the number that the search finds, with the table as it is or with an atom more.
use Rattle.made.specs.declared.Made.{Made}
use mathlib.Core.Path.{◌≡◌, refl, ap, sym, ◌∙◌}
use Prim.Native.Nat.{ℕ, ◌^◌, ◌≤◌, ◌<◌}
use native.Mathlib.Omega.{arith}
use mathlib.Core.List.{List}
use mathlib.Core.Bool.{false}
use lib.ListN.{length, get_or, take, length-take}
use borrow.Author.Tests.{lt-ltb, le-ltb}
use Rattle.record.specs.Tree.{Tree}
use Rattle.record.specs.Decode.{decode}
use Rattle.semilinear.specs.Form.{Row}
use Rattle.made.specs.Rows.{create_row}
use Rattle.made.specs.Made.{Room, Held, Grew, Basis}
use Rattle.group.proofs.SteppedLaws.{later_none}
use Rattle.structure_laws.specs.RecoverStructure.{row_with, with_bare}
use Rattle.std.specs.Prelude.{Some, None}
use Rattle.semilinear.specs.Items.{atom_count}
use Rattle.bare.specs.Search.{atom_with, IsAtomWith}
use Rattle.bare.specs.Showing.{BareFound}
use Rattle.bare.proofs.SearchLaws.{row_found, count_atoms}

-- the atoms end inside the bytes
pub atoms_inside : {made : Made} {out : List ℕ} → Room made out → made.table.at ≤ length out
atoms_inside r = let p = r.placed in omega (arith, p.place, p.atoms_le, p.records_le, p.room)

pub taken_atoms : {made : Made} {out : List ℕ} → Room made out → made.table.at ≡ length (take made.table.at out)
taken_atoms {made} {out} r = omega (arith, length-take made.table.at out, atoms_inside r)

module _ (w : ℕ) (t : Tree) (l : List Row) where
  bare_there : row_with w t 0 l < length l → with_bare w t l ≡ l
  unfolding with_bare
  bare_there h = simp (lt-ltb (row_with w t 0 l) (length l) h)

  bare_new : length l ≤ row_with w t 0 l → with_bare w t l ≡ create_row t l
  unfolding with_bare
  bare_new h = simp (le-ltb (row_with w t 0 l) (length l) h)

module _ {w hash : ℕ} {b : List ℕ} (basis : Basis w hash b) (word : hash < 2 ^ 64) {made : Made} {out : List ℕ} where
  -- what the search finds where the table is not full, and the count of atoms and of rows
  found_row : made.table.full ≡ false → (l : List Row) → Held w made out l
      → (atom_with hash b (take made.table.at out) ≡ row_with w (decode b) 0 l) × (atom_count (take made.table.at out) ≡ length l)
  found_row more l h = (
    ap (atom_with hash b) (h.holds.kept more).bytes ∙ row_found w hash b basis word l,
    ap atom_count (h.holds.kept more).bytes ∙ count_atoms w hash b basis word l,
  )

  count_rows : made.table.full ≡ false → (l : List Row) → Held w made out l → made.table.count ≡ length l
  count_rows more l h = (h.holds.kept more).count

  pub bare_found : Room made out → {r : ℕ} → IsAtomWith hash b (take made.table.at out) (Some r)
      → BareFound w (decode b) r made out made out
  bare_found room s =
      record {
        room = room;
        later = later_none;
        long = refl;
        held = λ more l h.
            let f = found_row more l h in
            rw (bare_there w (decode b) l (omega (arith, f.0, f.1, s.0, s.1))) h;
        found = λ more l h. s.0 ∙ (found_row more l h).0;
      }

  pub bare_created : IsAtomWith hash b (take made.table.at out) None → {made' : Made} {out' : List ℕ}
      → Grew w 1 (create_row (decode b)) made out made' out'
      → BareFound w (decode b) made.table.count made out made' out'
  bare_created s g =
      record {
        room = g.room;
        later = g.later;
        long = g.long;
        held = λ more l h.
            let f = found_row more l h in
            rw (bare_new w (decode b) l (omega (arith, f.0, f.1, s))) (g.held l h);
        found = λ more l h. let f = found_row more l h in count_rows more l h ∙ sym f.1 ∙ sym s ∙ f.0;
      }
