-- All atoms registered one by one (normalizer_laws/specs/Register.antt, specs/Index.antt): what holds after the first i
-- spots, and that a table that is full before the end is so with all spots too.
use mathlib.Core.Path.{◌≡◌, refl, ap, sym, ◌∙◌}
use Prim.Native.Nat.{ℕ, ◌+◌, ◌≤◌, ◌<◌, min}
use native.Mathlib.Omega.{arith}
use mathlib.Core.List.{List, []}
use mathlib.Core.Bool.{true, false}
use lib.ListN.{length, get_or, take}
use Rattle.base.specs.Put.{padded}
use Rattle.base.proofs.BoolLaws.{false_true}
use Rattle.base.proofs.PutLaws.{length_padded}
use Rattle.atom_table.specs.declared.table.Table.{Table}
use Rattle.atom_table.specs.Table.{empty_table}
use Rattle.atom_table.proofs.HoldsLaws.{holds_empty}
use Rattle.normalizer_laws.specs.Collect.{Emitted}
use Rattle.normalizer_laws.specs.Register.{register_atom, register_all}
use Rattle.descent.specs.declared.collect.Atom.{Atom}
use Rattle.descent.specs.Spots.{no_atom, atom_of, spot_at, spots_in}
use Rattle.register.specs.declared.index.Entry.{Entry}
use Rattle.register.specs.Index.{index_rows, Indexed, RoomMore, Registers, Built, emitted}
use Rattle.register.proofs.RegisteredLaws.{spot_rows, spot_rows_more, spot_rows_le, past_spots}
use Rattle.register.proofs.IndexLaws.{length_rows_in}

-- the table without atoms, beside a slice of zeros
indexed_empty : (w : ℕ) (index : List Entry) (out : List ℕ) → out ≡ padded 57360 []
    → Indexed w empty_table index out
unfolding empty_table index_rows
indexed_empty w index out e =
    let len : length out ≡ 57360 = ap length e ∙ length_padded 57360 [] (omega arith) in
    record {
      more = refl;
      holds = holds_empty w out (omega (arith, len));
      clean = e ∙ ap (λ (k : ℕ). padded k []) (sym len);
      entries = λ j l. absurd (omega arith);
      room = omega arith;
    }

-- the tree that was built for an atom, with the atom's coefficient
pub emitted_spot : (w : ℕ) (file : List ℕ) (spots : List Atom) (i : ℕ) {before after : List ℕ} {r : ℕ}
    → Built w (atom_of file (get_or spots i no_atom)).tree before after r
    → emitted (get_or spots i no_atom).spot.coeff (take r after) ≡ spot_at file spots i
unfolding spot_at atom_of
emitted_spot w file spots i b = rw b.tree_is refl

-- the table holds the rows of the first i spots of n
pub record Reached (w : ℕ) (file : List ℕ) (spots : List Atom) (n i : ℕ) (tab : Table) (index : List Entry)
    (out : List ℕ) : Type 0 where
  pub inside : i ≤ n
  pub indexed : Indexed w tab index out
  pub rows_are : index_rows index out tab.count ≡ spot_rows w file spots i

module _ (w : ℕ) (file : List ℕ) (spots : List Atom) (n : ℕ) where
  pub reached_start : (index : List Entry) (out : List ℕ) → out ≡ padded 57360 [] → {tab : Table}
      → tab ≡ empty_table → Reached w file spots n 0 tab index out
  unfolding empty_table index_rows spots_in register_all
  reached_start index out e f =
      rw f (record { inside = omega arith; indexed = indexed_empty w index out e; rows_are = refl })

  module _ (i : ℕ) {tab : Table} {index : List Entry} {out : List ℕ} (h : Reached w file spots n i tab index out) where
    -- an index for n atoms, or for the most, has room for one more
    pub reached_room : i < n → {len : ℕ} → min 256 n ≤ len → length index ≡ len → RoomMore tab index
    reached_room l room e few =
        let le = spot_rows_le w file spots i in
        let count = length_rows_in index out tab.count in
        omega (arith, le, count, ap length h.rows_are)

    pub registers_end : n ≤ i → Registers w (spot_rows w file spots n) index out tab
    registers_end l =
        let e : i ≡ n = omega (arith, h.inside) in
        record {
          rows_are = λ _. h.rows_are ∙ ap (spot_rows w file spots) e;
          indexed = λ _. h.indexed;
          past = λ f. false_true (sym h.indexed.more ∙ f);
        }

    -- the next spot
    module _ (l : i < n) {e : Emitted} (spot : e ≡ spot_at file spots i) {after : List Entry} {wrote : List ℕ} {r : Table}
        (g : Registers w (register_atom w e (index_rows index out tab.count)) after wrote r) where
      next : Registers w (spot_rows w file spots (i + 1)) after wrote r
      next = rw (spot, h.rows_are, ← spot_rows_more w file spots i) at g

      pub reached_next : r.full ≡ false → Reached w file spots n (i + 1) r after wrote
      reached_next f =
          record { inside = omega arith; indexed = next.indexed f; rows_are = next.rows_are f }

      pub registers_full : r.full ≡ true → Registers w (spot_rows w file spots n) after wrote r
      registers_full f =
          record {
            rows_are = λ d. false_true (sym d ∙ f);
            indexed = λ d. false_true (sym d ∙ f);
            past = λ _. past_spots w file spots (i + 1) n (omega arith) (next.past f);
          }
