-- The atom table beside its index (specs/Index.antt), after one step: a coefficient that grows, an atom more, or a
-- table that would pass a limit.
use mathlib.Core.Path.{◌≡◌, refl, ap, ap₂, sym, ◌∙◌}
use Prim.Native.Nat.{ℕ, ◌+◌, ◌-◌, ◌≤◌, ◌<◌}
use native.Mathlib.Omega.{arith}
use native.Mathlib.Decide.{dec_lt}
use mathlib.Core.List.{List, [], ◌∷◌, ◌++◌}
use mathlib.Core.Bool.{true, false}
use lib.ListN.{length, take, set, length-set}
use lib.Seq.{take-length, drop_at, get_or-set_same, get_or-set_other}
use Rattle.record.specs.Fields.{size}
use Rattle.record.specs.Span.{sized}
use Rattle.record.specs.Tree.{record_bytes, IsBytes}
use Rattle.record.specs.Decode.{decode}
use Rattle.base.specs.Put.{put}
use Rattle.base.proofs.BoolLaws.{false_true}
use Rattle.record.proofs.BytesLaws.{length_record}
use Rattle.base.proofs.PutLaws.{take_put_front}
use Rattle.expr_refusal.specs.Refusal.{tree_refusal}
use Rattle.expr.specs.Hash.{structural_hash}
use Rattle.expr_refusal.proofs.RefusalLaws.{sized_accepted}
use Rattle.truth.specs.Key.{key_of}
use Rattle.atom_table.specs.declared.table.Table.{Table}
use Rattle.semilinear.specs.Form.{head_byte, Row}
use Rattle.atom_table.specs.Table.{Placed, store_of, atom_span, fits_more, more_atoms, full_table, create_atom, Holds}
use Rattle.atom_table.proofs.TableLaws.{length_atom_span, create_cases, fits_more_parts, room_atom, clean_create}
use Rattle.atom_table.proofs.HoldsLaws.{holds_accepted, holds_bare}
use Rattle.normalizer_laws.specs.Register.{add_row}
use Rattle.ways.specs.Spans.{span_of}
use Rattle.register.specs.declared.index.Entry.{Entry}
use Rattle.register.specs.Index.{no_entry, entry_at, entry_span, grown}
use Rattle.register.specs.Index.{entry_row, index_rows, EntryOk, Indexed, RoomMore, Registers, emitted}
use Rattle.register.specs.Index.{appended_row}
use Rattle.register.proofs.IndexLaws.{length_rows_in, rows_in_more, rows_in_ext, row_kept, rows_in_add}
use Rattle.register.proofs.IndexLaws.{entry_kept, entry_later, entry_set_kept}
use Rattle.register.proofs.RegisteredLaws.{bare_add_row}
use Rattle.ways.proofs.PutSpanLaws.{span_put_piece}

-- the tree in the bytes of its atom
span_atom : (w : ℕ) (t : List ℕ) → span_of (atom_span w t) 16 (16 + length t) ≡ t
unfolding span_of atom_span
span_atom w t =
    let head : List ℕ = record_bytes 33 head_byte (size t) w (structural_hash (decode t)) in
    let n : 16 + length t - 16 ≡ length t = omega arith in
    rw (n, drop_at head t 16 (length_record [] 33 head_byte (size t) w (structural_hash (decode t)))) (take-length t)

-- the table and its bytes where the atom is appended
record AtomMade (w : ℕ) (t : List ℕ) (tab : Table) (out : List ℕ) (r : Table) (wrote : List ℕ) : Type 0 where
  table_is : r ≡ more_atoms tab t
  bytes_are : wrote ≡ put out tab.at (atom_span w t)
  within : fits_more tab t ≡ true

made_of : (w : ℕ) (t : List ℕ) (tab : Table) (out : List ℕ) → Placed tab (length out) → sized t ≡ true
    → tab.full ≡ false → {r : Table} {wrote : List ℕ} → store_of r wrote ≡ create_atom w t (store_of tab out)
    → r.full ≡ false → AtomMade w t tab out r wrote
unfolding full_table
made_of w t tab out h ok f =
    create_cases w t tab out h ok (λ r wrote. r.full ≡ false → AtomMade w t tab out r wrote)
    (λ g _. false_true (sym f ∙ g)) (λ _ _ g. false_true (sym g))
    (λ _ g _. record { table_is = refl; bytes_are = refl; within = g })

module _ (w : ℕ) (tab : Table) (index : List Entry) (out : List ℕ) (h : Indexed w tab index out) where
  -- the entries of all atoms
  pub index_room : tab.count ≤ length index
  index_room = h.room

  pub at_inside : tab.at ≤ length out
  at_inside =
      let p = h.holds.placed in
      omega (arith, p.place, p.atoms_le, p.records_le, p.room)

  -- ---- a coefficient that grows

  pub registers_add : (new : Row) (j : ℕ) → j < tab.count → {after : List Entry}
      → after ≡ set index j (grown w new.coeff (entry_at index j))
      → Registers w (add_row w new j (index_rows index out tab.count)) after out tab
  registers_add new j lt {after} e =
      let n : ℕ = tab.count in
      let rows : index_rows after out n ≡ add_row w new j (index_rows index out n) =
      ap (λ (l : List Entry). index_rows l out n) e ∙ rows_in_add w new index out j n lt index_room in
      let low : j < length (index_rows index out n) = omega (arith, length_rows_in index out n) in
      record {
        rows_are = λ _. rows;
        indexed = λ f.
            record {
              more = f;
              holds = rw rows (holds_bare _ _ (bare_add_row w new j (index_rows index out n) low) w tab out h.holds);
              clean = h.clean;
              entries = λ k l.
                  rw e (entry_set_kept w new.coeff out tab.at index j k (omega (arith, index_room)) (h.entries k l));
              room = rw e (omega (arith, length-set index j (grown w new.coeff (entry_at index j)), h.room));
            };
        past = λ f. false_true (sym h.more ∙ f);
      }

  -- ---- an atom more

  module _ (space : RoomMore tab index) (c : ℕ) (t : List ℕ) (bytes : IsBytes t) (ok : tree_refusal w t ≡ 0)
      {r : Table} {wrote : List ℕ} (made : store_of r wrote ≡ create_atom w t (store_of tab out)) where
    abbrev rows : List Row
    rows = index_rows index out tab.count

    abbrev longer : List Row
    longer = rows ++ (appended_row (emitted c t) ∷ [])

    appended_holds : Holds w r wrote longer
    appended_holds = holds_accepted w c t tab out rows h.holds bytes ok made

    pub registers_past : r.full ≡ true → {after : List Entry} → Registers w longer after wrote r
    registers_past f =
        record {
          rows_are = λ g. false_true (sym g ∙ f);
          indexed = λ g. false_true (sym g ∙ f);
          past = λ _. appended_holds.past f;
        }

    -- where it is not full there is room for an atom more
    made_here : r.full ≡ false → AtomMade w t tab out r wrote
    made_here = made_of w t tab out h.holds.placed (sized_accepted w t ok) h.more made

    pub room_more : r.full ≡ false → tab.count < length index
    room_more left = space (fits_more_parts tab t (made_here left).within).0

    -- the entry of an atom more
    module _ (left : r.full ≡ false) {e : Entry} (span : (e.start ≡ tab.at + 16) × (e.end ≡ r.at))
        (own : (e.coeff ≡ c) × (e.hash ≡ structural_hash (decode t)) × (e.key ≡ key_of (decode t))) where
      abbrev n : ℕ
      n = tab.count

      abbrev after : List Entry
      after = set index n e

      m : AtomMade w t tab out r wrote
      m = made_here left

      end_is : r.at ≡ tab.at + 16 + length t
      unfolding more_atoms
      end_is = ap (λ (x : Table). x.at) m.table_is

      count_is : r.count ≡ n + 1
      unfolding more_atoms
      count_is = ap (λ (x : Table). x.count) m.table_is

      room_bytes : tab.at + length (atom_span w t) ≤ length out
      room_bytes = room_atom w t tab out h.holds.placed (sized_accepted w t ok) m.within

      -- the tree's bytes
      span_is : entry_span wrote e ≡ t
      unfolding entry_span
      span_is =
          let top : r.at ≡ tab.at + (16 + length t) = omega (arith, end_is) in
          let last : 16 + length t ≤ length (atom_span w t) = omega (arith, length_atom_span w t) in
          rw (span.0, span.1, m.bytes_are, top)
          (span_put_piece out tab.at (atom_span w t) room_bytes 16 (16 + length t) (omega arith) last
          ∙ span_atom w t)

      here : entry_at after n ≡ e
      here = get_or-set_same index n e no_entry (room_more left)

      before : (j : ℕ) → j < n → entry_at after j ≡ entry_at index j
      before j l = get_or-set_other index n j e no_entry (omega arith)

      entry_last : EntryOk w wrote r.at e
      entry_last =
          record {
            rising = omega (arith, span.0, span.1, end_is);
            inside = omega (arith, span.1);
            tree = rw span_is ok;
            hash = rw span_is own.1;
            key = rw span_is own.2;
          }

      row_last : entry_row wrote e ≡ appended_row (emitted c t)
      unfolding entry_row
      row_last = rw (span_is, own.0) refl

      bytes_before : take tab.at wrote ≡ take tab.at out
      bytes_before = ap (take tab.at) m.bytes_are ∙ take_put_front out tab.at (atom_span w t) room_bytes

      rows_before : index_rows after wrote n ≡ index_rows index out n
      rows_before =
          rows_in_ext index out after wrote n
          (λ j l.
          ap (entry_row wrote) (before j l)
          ∙ row_kept out wrote tab.at bytes_before _ (h.entries j l).rising (h.entries j l).inside)

      rows_more : index_rows after wrote r.count ≡ longer
      rows_more =
          ap (index_rows after wrote) count_is
          ∙ rows_in_more after wrote n
          ∙ ap₂ (λ (l : List Row) (x : Row). l ++ (x ∷ [])) rows_before (ap (entry_row wrote) here ∙ row_last)

      entries_more : (j : ℕ) → j < r.count → EntryOk w wrote r.at (entry_at after j)
      entries_more j l = go (dec_lt j n)
        where
          go : Dec (j < n) → EntryOk w wrote r.at (entry_at after j)
          go (yes k) =
              rw (before j k)
              (entry_later w wrote tab.at r.at _ (omega (arith, end_is))
              (entry_kept out wrote tab.at bytes_before w _ (h.entries j k)))
          go (no k) = let f : j ≡ n = omega (arith, count_is) in rw (f, here) entry_last

      pub registers_more : {index' : List Entry} → index' ≡ after → Registers w longer index' wrote r
      registers_more f =
          rw f
          record {
            rows_are = λ _. rows_more;
            indexed = λ g.
                record {
                  more = g;
                  holds = rw rows_more appended_holds;
                  clean = clean_create w t tab out h.holds.placed (sized_accepted w t ok) h.clean made;
                  entries = entries_more;
                  room = omega (arith, length-set index n e, count_is, room_more left);
                };
            past = λ g. false_true (sym left ∙ g);
          }
