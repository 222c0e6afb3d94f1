-- Laws of specs/Table.antt: the bytes of an atom, what `create_atom` gives by case, that a table's numbers stay within
-- the limits, and that what is zero behind the atoms stays so.
use mathlib.Core.Path.{◌≡◌, refl, ap, sym, ◌∙◌, subst}
use Prim.Native.Nat.{ℕ, ◌+◌, ◌*◌, ◌≤◌, ◌<◌}
use native.Mathlib.Omega.{arith}
use mathlib.Core.List.{List, [], ◌++◌}
use mathlib.Core.Bool.{Bool, true, false}
use lib.ListN.{length, take, replicate, length-append, length-take, length-replicate}
use lib.Dec.{ltb, leb}
use borrow.Author.Tests.{lt-ltb, le-ltb, le-leb, lt-leb, ltb-true, leb-true}
use Rattle.record.specs.Fields.{size}
use Rattle.record.specs.Span.{sized}
use Rattle.record.specs.Tree.{record_bytes}
use Rattle.record.specs.Decode.{decode}
use Rattle.base.specs.Put.{put, padded}
use Rattle.base.proofs.BoolLaws.{and_true}
use Rattle.record.proofs.SizedLaws.{sized_length}
use Rattle.record.proofs.BytesLaws.{length_record}
use Rattle.base.proofs.PutLaws.{length_put, take_put, put_then, padded_nil, put_padded}
use Rattle.expr.specs.Hash.{structural_hash}
use Rattle.semilinear.specs.Form.{head_byte}
use Rattle.atom_table.specs.declared.table.Table.{Table}
use Rattle.atom_table.specs.Table.{Placed, Store, store_of, empty_table, atom_span}
use Rattle.atom_table.specs.Table.{fits_more, more_atoms, full_table, create_atom}
use Rattle.atom_table.specs.Table.{Clean}

-- ---- the writer of an atom

pub length_atom_span : (w : ℕ) (t : List ℕ) → length (atom_span w t) ≡ 16 + length t
unfolding atom_span
length_atom_span w t =
    let h : List ℕ = record_bytes 33 head_byte (size t) w (structural_hash (decode t)) in
    length-append h t ∙ ap (λ (n : ℕ). n + length t) (length_record [] 33 head_byte (size t) w (structural_hash (decode t)))

-- the head, and the tree behind it
pub put_atom_span : (d : List ℕ) (at w : ℕ) (t : List ℕ) → at + 16 + length t ≤ length d
    → put (put d at (record_bytes 33 head_byte (size t) w (structural_hash (decode t)))) (at + 16) t ≡ put d at (atom_span w t)
unfolding atom_span
put_atom_span d at w t h =
    let v : ℕ = structural_hash (decode t) in
    let n : length (record_bytes 33 head_byte (size t) w v) ≡ 16 = length_record [] 33 head_byte (size t) w v in
    put_then d at (record_bytes 33 head_byte (size t) w v) t (at + 16) (omega arith) (omega arith)

-- ---- `create_atom` by case

module _ (w : ℕ) (t : List ℕ) (tab : Table) (out : List ℕ) where
  pub create_full : tab.full ≡ true → create_atom w t (store_of tab out) ≡ store_of tab out
  unfolding create_atom
  create_full e = simp e

  -- no atom more, or no tree record more
  pub create_past : tab.full ≡ false → fits_more tab t ≡ false
      → create_atom w t (store_of tab out) ≡ store_of (full_table tab) out
  unfolding create_atom
  create_past e f = simp (e, f)

  pub create_fits : tab.full ≡ false → fits_more tab t ≡ true
      → create_atom w t (store_of tab out) ≡ store_of (more_atoms tab t) (put out tab.at (atom_span w t))
  unfolding create_atom
  create_fits e f = simp (e, f)

module _ (tab : Table) (t : List ℕ) where
  pub fits_more_count : 256 ≤ tab.count → fits_more tab t ≡ false
  unfolding fits_more
  fits_more_count h = simp (le-ltb tab.count 256 h)

  pub fits_more_records : tab.count < 256 → 3072 < tab.records + size t → fits_more tab t ≡ false
  unfolding fits_more
  fits_more_records l h = simp (lt-ltb tab.count 256 l, lt-leb (tab.records + size t) 3072 h)

  pub fits_more_within : tab.count < 256 → tab.records + size t ≤ 3072 → fits_more tab t ≡ true
  unfolding fits_more
  fits_more_within l h = simp (lt-ltb tab.count 256 l, le-leb (tab.records + size t) 3072 h)

-- the same with the numbers and the bytes as the code has them
pub created : (w : ℕ) (t : List ℕ) (tab : Table) (out : List ℕ) → tab.full ≡ false → tab.count < 256
    → {n : ℕ} → n ≡ size t → tab.records + n ≤ 3072 → {wrote : List ℕ} → wrote ≡ put out tab.at (atom_span w t)
    → store_of
    (record {
      at = tab.at + 16 + length t;
      count = tab.count + 1;
      records = tab.records + n;
      full = tab.full;
    })
    wrote
    ≡ create_atom w t (store_of tab out)
unfolding more_atoms
created w t tab out e l hn h hw =
    rw (hn, hw) (sym (create_fits w t tab out e (fits_more_within tab t l (rw hn at h))))

-- ---- the numbers of a table

pub placed_empty : (len : ℕ) → 53248 ≤ len → Placed empty_table len
unfolding empty_table
placed_empty len h = record { place = refl; atoms_le = omega arith; records_le = omega arith; room = h }

-- what the test says
pub fits_more_parts : (tab : Table) (t : List ℕ) → fits_more tab t ≡ true
    → (tab.count < 256) × (tab.records + size t ≤ 3072)
unfolding fits_more
fits_more_parts tab t e =
    let p = and_true (ltb tab.count 256) (leb (tab.records + size t) 3072) e in
    (ltb-true _ _ p.0, leb-true _ _ p.1)

pub placed_more : (tab : Table) (t : List ℕ) (len : ℕ) → Placed tab len → sized t ≡ true → fits_more tab t ≡ true
    → Placed (more_atoms tab t) len
unfolding more_atoms
placed_more tab t len h ok e =
    let p = fits_more_parts tab t e in
    let n : size t * 16 ≡ length t = sized_length t ok in
    record { place = omega (arith, h.place); atoms_le = omega (arith, p.0); records_le = p.1; room = h.room }

pub placed_full : (tab : Table) (len : ℕ) → Placed tab len → Placed (full_table tab) len
unfolding full_table
placed_full tab len h =
    record { place = h.place; atoms_le = h.atoms_le; records_le = h.records_le; room = h.room }

module _ (w : ℕ) (t : List ℕ) (tab : Table) (out : List ℕ) (h : Placed tab (length out)) (ok : sized t ≡ true) where
  pub room_atom : fits_more tab t ≡ true → tab.at + length (atom_span w t) ≤ length out
  room_atom f =
      let q = fits_more_parts tab t f in
      omega (arith, q.0, q.1, h.place, h.room, length_atom_span w t, sized_length t ok)

  -- what holds of the three stores holds of the one that is made
  pub create_cases : (P : Table → List ℕ → Type 0)
      → (tab.full ≡ true → P tab out)
      → (tab.full ≡ false → fits_more tab t ≡ false → P (full_table tab) out)
      → (tab.full ≡ false → fits_more tab t ≡ true → P (more_atoms tab t) (put out tab.at (atom_span w t)))
      → {r : Table} {wrote : List ℕ} → store_of r wrote ≡ create_atom w t (store_of tab out) → P r wrote
  create_cases P full past fits {r} {wrote} e = go tab.full refl (fits_more tab t) refl
    where
      move : (s : Store) → create_atom w t (store_of tab out) ≡ s → P s.table s.bytes → P r wrote
      move s f = subst (λ (s : Store). P s.table s.bytes) (sym (e ∙ f))

      go : (b : Bool) → tab.full ≡ b → (d : Bool) → fits_more tab t ≡ d → P r wrote
      go true f d g = move _ (create_full w t tab out f) (full f)
      go false f false g = move _ (create_past w t tab out f g) (past f g)
      go false f true g = move _ (create_fits w t tab out f g) (fits f g)

  pub placed_create : {r : Table} {wrote : List ℕ} → store_of r wrote ≡ create_atom w t (store_of tab out)
      → Placed r (length wrote)
  placed_create =
      create_cases (λ r wrote. Placed r (length wrote)) (λ _. h) (λ _ _. placed_full tab (length out) h)
      (λ _ f. rw (length_put out tab.at (atom_span w t) (room_atom f)) (placed_more tab t (length out) h ok f))

-- ---- zeros behind the atoms

pub clean_empty : (len : ℕ) → Clean empty_table (replicate len 0)
unfolding empty_table
clean_empty len = rw length-replicate (padded_nil len)

module _ (w : ℕ) (t : List ℕ) (tab : Table) (out : List ℕ) (h : Placed tab (length out)) (ok : sized t ≡ true)
    (clean : Clean tab out) where
  clean_fits : fits_more tab t ≡ true → Clean (more_atoms tab t) (put out tab.at (atom_span w t))
  unfolding more_atoms
  clean_fits f =
      let s : List ℕ = atom_span w t in
      let fit : tab.at + length s ≤ length out = room_atom w t tab out h ok f in
      let end : tab.at + 16 + length t ≡ tab.at + length s = omega (arith, length_atom_span w t) in
      let b : List ℕ = take tab.at out in
      let n : length b ≡ tab.at = simp length-take (omega arith) in
      let wrote : put out tab.at s ≡ padded (length out) (b ++ s) =
      ap (λ (d : List ℕ). put d tab.at s) clean
      ∙ ap (λ (i : ℕ). put (padded (length out) b) i s) (sym n)
      ∙ put_padded (length out) b s in
      rw (end, take_put out tab.at s fit, length_put out tab.at s fit) wrote

  pub clean_create : {r : Table} {wrote : List ℕ} → store_of r wrote ≡ create_atom w t (store_of tab out)
      → Clean r wrote
  unfolding full_table
  clean_create = create_cases w t tab out h ok Clean (λ _. clean) (λ _ _. clean) (λ _ f. clean_fits f)
