-- A table with limits beside the rows of a table without them (specs/Table.antt, semilinear/specs/Form.antt): it holds
-- their atoms as long as they keep the limits, and is full exactly where they do not.
use mathlib.Core.Path.{◌≡◌, refl, ap, sym, ◌∙◌}
use Prim.Native.Nat.{ℕ, ◌+◌, ◌≤◌, ◌<◌}
use native.Mathlib.Omega.{arith}
use mathlib.Core.List.{List, [], ◌∷◌, ◌++◌, append_assoc, append-nil}
use mathlib.Core.Bool.{Bool, true, false, not}
use lib.ListN.{length, take, length-append}
use lib.Dec.{leb}
use borrow.Author.Tests.{le-leb, leb-true}
use Rattle.record.specs.Fields.{size}
use Rattle.record.specs.Span.{sized}
use Rattle.record.specs.Tree.{size_of, encode, IsBytes}
use Rattle.record.specs.Decode.{decode}
use Rattle.base.specs.Put.{put, padded}
use Rattle.base.proofs.BoolLaws.{false_true, and_true}
use Rattle.record.proofs.SizedLaws.{sized_length}
use Rattle.record.proofs.EncodeLaws.{length_encode}
use Rattle.base.proofs.PutLaws.{length_put, take_put}
use Rattle.expr_refusal.specs.Refusal.{tree_refusal}
use Rattle.expr_refusal.proofs.RefusalLaws.{sized_accepted}
use Rattle.expr.proofs.AcceptLaws.{accept_encode}
use Rattle.atom_table.specs.declared.table.Table.{Table}
use Rattle.semilinear.specs.Form.{head_byte, Row, new_row, new_rows, atom_bytes, atoms_bytes, tree_records, fits_table}
use Rattle.atom_table.specs.Table.{store_of, empty_table, atom_span}
use Rattle.atom_table.specs.Table.{Holds, Clean}
use Rattle.atom_table.specs.Table.{fits_more, more_atoms, full_table, create_atom}
use Rattle.semilinear.proofs.FormLaws.{length_atoms}
use Rattle.atom_table.proofs.TableLaws.{fits_more_within, fits_more_parts, length_atom_span, room_atom}
use Rattle.atom_table.proofs.TableLaws.{create_cases, placed_empty, placed_more, placed_full}

-- ---- rows appended to a table without limits

module _ (w : ℕ) (x : Row) where
  atoms_more : (l : List Row)
      → atoms_bytes w (l ++ (x ∷ [])) ≡ atoms_bytes w l ++ atom_bytes w x.provenance x.tree
  unfolding atoms_bytes
  atoms_more [] = append-nil (atom_bytes w x.provenance x.tree)
  atoms_more (y ∷ l) = rw (atoms_more l, append_assoc)

records_append : (l m : List Row) → tree_records (l ++ m) ≡ tree_records l + tree_records m
unfolding tree_records
records_append [] m = omega arith
records_append (y ∷ l) m = omega (arith, records_append l m)

-- what the limits' test says, and how it fails
fits_parts : (l : List Row) → fits_table l ≡ true → (length l ≤ 256) × (tree_records l ≤ 3072)
unfolding fits_table
fits_parts l e =
    let p = and_true (leb (length l) 256) (leb (tree_records l) 3072) e in
    (leb-true _ _ p.0, leb-true _ _ p.1)

-- rows that pass a limit pass it with more rows behind
pub past_more : (l m : List Row) → fits_table l ≡ false → fits_table (l ++ m) ≡ false
unfolding fits_table
past_more l m e = go (fits_table (l ++ m)) refl
  where
    go : (b : Bool) → fits_table (l ++ m) ≡ b → b ≡ false
    go false f = refl
    go true f =
        let p = fits_parts (l ++ m) f in
        let a : length l ≤ 256 = omega (arith, p.0, length-append l m) in
        let r : tree_records l ≤ 3072 = omega (arith, p.1, records_append l m) in
        let z : fits_table l ≡ true = simp (le-leb (length l) 256 a, le-leb (tree_records l) 3072 r) in
        false_true (sym e ∙ z)

-- ---- a table with limits beside the rows of a table without them

-- a table whose numbers and bytes are those of rows within the limits
pub holds_start : (w : ℕ) (tab : Table) (out : List ℕ) (l : List Row) → fits_table l ≡ true → 53248 ≤ length out
    → tab.full ≡ false → tab.count ≡ length l → tab.records ≡ tree_records l → tab.at ≡ length (atoms_bytes w l)
    → take tab.at out ≡ atoms_bytes w l → Holds w tab out l
holds_start w tab out l f big e n k i b =
    let q = fits_parts l f in
    record {
      placed =
          record {
            place = omega (arith, length_atoms w l);
            atoms_le = omega (arith, q.0);
            records_le = omega (arith, q.1);
            room = big;
          };
      kept = λ _. record { bytes = b; count = n; records = k; fits = f };
      past = λ d. false_true (sym e ∙ d);
    }

pub holds_empty : (w : ℕ) (out : List ℕ) → 53248 ≤ length out → Holds w empty_table out []
unfolding empty_table atoms_bytes tree_records fits_table
holds_empty w out h =
    record {
      placed = placed_empty (length out) h;
      kept = λ e. record { bytes = refl; count = refl; records = refl; fits = refl };
      past = λ e. false_true e;
    }

-- full exactly where the rows pass a limit
pub full_holds : (w : ℕ) (tab : Table) (out : List ℕ) (l : List Row) → Holds w tab out l
    → tab.full ≡ not (fits_table l)
full_holds w tab out l h = go tab.full refl
  where
    go : (b : Bool) → tab.full ≡ b → tab.full ≡ not (fits_table l)
    go true e = e ∙ sym (ap not (h.past e))
    go false e = e ∙ sym (ap not (h.kept e).fits)

-- the row of an atom whose tree has the bytes t
abbrev pub tree_row : List ℕ → ℕ → Row
tree_row t x = new_row (decode t) x

-- a tree is as large as its bytes say, and its atom has the bytes of a new row's
module _ (w : ℕ) (t : List ℕ) (ok : sized t ≡ true) (same : encode w (decode t) ≡ t) where
  size_same : size_of (decode t) ≡ size t
  size_same = omega (arith, length_encode w (decode t), ap length same, sized_length t ok)

  pub span_same : atom_span w t ≡ atom_bytes w head_byte (decode t)
  unfolding atom_span atom_bytes
  span_same = rw (size_same, same)

-- an atom more, of which the table has the bytes t: the rows have its tree, with any coefficient
module _ (w x : ℕ) (t : List ℕ) (tab : Table) (out : List ℕ) (l : List Row) (h : Holds w tab out l)
    (ok : sized t ≡ true) (same : encode w (decode t) ≡ t) where
  abbrev row : Row
  row = tree_row t x

  records_more : tree_records (l ++ (row ∷ [])) ≡ tree_records l + size t
  unfolding tree_records
  records_more = records_append l (row ∷ []) ∙ omega (arith, size_same w t ok same)

  length_more : length (l ++ (row ∷ [])) ≡ length l + 1
  length_more = length-append l (row ∷ [])

  holds_fits : tab.full ≡ false → fits_more tab t ≡ true
      → Holds w (more_atoms tab t) (put out tab.at (atom_span w t)) (l ++ (row ∷ []))
  unfolding more_atoms fits_table
  holds_fits e f =
      let k = h.kept e in
      let q = fits_more_parts tab t f in
      let fit = room_atom w t tab out h.placed ok f in
      let end : tab.at + 16 + length t ≡ tab.at + length (atom_span w t) =
      omega (arith, length_atom_span w t) in
      let a : length (l ++ (row ∷ [])) ≤ 256 = omega (arith, q.0, length_more, k.count) in
      let r : tree_records (l ++ (row ∷ [])) ≤ 3072 = omega (arith, q.1, records_more, k.records) in
      record {
        placed =
            rw (length_put out tab.at (atom_span w t) fit) (placed_more tab t (length out) h.placed ok f);
        kept = λ _.
            record {
              bytes =
                  ap (λ (n : ℕ). take n (put out tab.at (atom_span w t))) end
                  ∙ take_put out tab.at (atom_span w t) fit
                  ∙ rw (k.bytes, span_same w t ok same) (sym (atoms_more w row l));
              count = omega (arith, k.count, length_more);
              records = omega (arith, k.records, records_more);
              fits = simp (le-leb (length (l ++ (row ∷ []))) 256 a, le-leb (tree_records (l ++ (row ∷ []))) 3072 r);
            };
        past = λ b. false_true (sym e ∙ b);
      }

  holds_past : tab.full ≡ false → fits_more tab t ≡ false → Holds w (full_table tab) out (l ++ (row ∷ []))
  unfolding full_table
  holds_past e f =
      record {
        placed = placed_full tab (length out) h.placed;
        kept = λ b. false_true (sym b);
        past = λ _. go (fits_table (l ++ (row ∷ []))) refl;
      }
    where
      go : (b : Bool) → fits_table (l ++ (row ∷ [])) ≡ b → b ≡ false
      go false g = refl
      go true g =
          let k = h.kept e in
          let q = fits_parts (l ++ (row ∷ [])) g in
          let a : tab.count < 256 = omega (arith, q.0, length_more, k.count) in
          let r : tab.records + size t ≤ 3072 = omega (arith, q.1, records_more, k.records) in
          false_true (sym f ∙ fits_more_within tab t a r)

  pub holds_create : {r : Table} {wrote : List ℕ} → store_of r wrote ≡ create_atom w t (store_of tab out)
      → Holds w r wrote (l ++ (tree_row t x ∷ []))
  holds_create =
      create_cases w t tab out h.placed ok (λ r wrote. Holds w r wrote (l ++ (row ∷ [])))
      still holds_past holds_fits
    where
      still : tab.full ≡ true → Holds w tab out (l ++ (row ∷ []))
      still f =
          record {
            placed = h.placed;
            kept = λ n. false_true (sym n ∙ f);
            past = λ _. past_more l (row ∷ []) (h.past f);
          }

-- the same of a tree that no refusal applies to
pub holds_accepted : (w x : ℕ) (t : List ℕ) (tab : Table) (out : List ℕ) (l : List Row) → Holds w tab out l
    → IsBytes t → tree_refusal w t ≡ 0
    → {r : Table} {wrote : List ℕ} → store_of r wrote ≡ create_atom w t (store_of tab out)
    → Holds w r wrote (l ++ (tree_row t x ∷ []))
holds_accepted w x t tab out l h b e =
    holds_create w x t tab out l h (sized_accepted w t e) (accept_encode w t b e)

-- ---- what is read off at the end

-- zero behind the atoms: the slice is their bytes and zeros
pub padded_holds : (w : ℕ) (tab : Table) (out : List ℕ) (l : List Row) → Holds w tab out l → Clean tab out
    → tab.full ≡ false → out ≡ padded (length out) (atoms_bytes w l)
padded_holds w tab out l h z e = z ∙ ap (padded (length out)) (h.kept e).bytes

pub at_holds : (w : ℕ) (tab : Table) (out : List ℕ) (l : List Row) → Holds w tab out l → tab.full ≡ false
    → tab.at ≡ length (atoms_bytes w l)
at_holds w tab out l h e =
    let k = h.kept e in
    omega (arith, h.placed.place, length_atoms w l, k.count, k.records)

-- ---- coefficients do not matter

-- the rows without their coefficients
unfoldable pub bare_rows : List Row → List Row
bare_rows [] = []
bare_rows (x ∷ l) = record { provenance = x.provenance; tree = x.tree; coeff = 0 } ∷ bare_rows l

atoms_bare : (w : ℕ) (l : List Row) → atoms_bytes w (bare_rows l) ≡ atoms_bytes w l
unfolding bare_rows atoms_bytes
atoms_bare w [] = refl
atoms_bare w (x ∷ l) = rw (atoms_bare w l)

records_bare : (l : List Row) → tree_records (bare_rows l) ≡ tree_records l
unfolding bare_rows tree_records
records_bare [] = refl
records_bare (x ∷ l) = rw (records_bare l)

pub length_bare : (l : List Row) → length (bare_rows l) ≡ length l
unfolding bare_rows
length_bare [] = refl
length_bare (x ∷ l) = rw (length_bare l)

new_bare : (l : List Row) → new_rows (bare_rows l) ≡ new_rows l
unfolding bare_rows new_rows
new_bare [] = refl
new_bare (x ∷ l) = rw (new_bare l)

fits_bare : (l : List Row) → fits_table (bare_rows l) ≡ fits_table l
unfolding fits_table
fits_bare l = rw (length_bare l, records_bare l)

module _ (l m : List Row) (e : bare_rows l ≡ bare_rows m) where
  fits_same : fits_table l ≡ fits_table m
  fits_same = sym (fits_bare l) ∙ ap fits_table e ∙ fits_bare m

  pub new_same : new_rows l ≡ new_rows m
  new_same = sym (new_bare l) ∙ ap new_rows e ∙ new_bare m

  pub holds_bare : (w : ℕ) (tab : Table) (out : List ℕ) → Holds w tab out l → Holds w tab out m
  holds_bare w tab out h =
      record {
        placed = h.placed;
        kept = λ f.
            let k = h.kept f in
            record {
              bytes = k.bytes ∙ sym (atoms_bare w l) ∙ ap (atoms_bytes w) e ∙ atoms_bare w m;
              count = k.count ∙ sym (length_bare l) ∙ ap length e ∙ length_bare m;
              records = k.records ∙ sym (records_bare l) ∙ ap tree_records e ∙ records_bare m;
              fits = sym fits_same ∙ k.fits;
            };
        past = λ f. sym fits_same ∙ h.past f;
      }
