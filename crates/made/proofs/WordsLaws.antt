-- Laws of a table in words (specs/Made.antt): what is stored is read back, the bytes of `basis & mask`, and that an atom
-- more is a row more of every table that the words and bytes hold.
use Rattle.made.specs.declared.Made.{Made}
use mathlib.Core.Path.{◌≡◌, refl, ap, sym, ◌∙◌}
use Prim.Native.Nat.{ℕ, ◌+◌, ◌-◌, ◌*◌, ◌^◌, ◌≤◌, ◌<◌}
use native.Mathlib.Omega.{arith}
use mathlib.Core.List.{List, [], ◌∷◌, ◌++◌, append_assoc}
use mathlib.Core.Bool.{Bool, true, false, not}
use lib.ListN.{length, get_or, set, length-append}
use lib.Dec.{eqb}
use borrow.Author.Tests.{eq-eqb, ne_eqb}
use Rattle.record.specs.Fields.{size, arity}
use Rattle.record.specs.Span.{sized}
use Rattle.record.specs.Tree.{Tree, size_of, record_bytes, encode, Encodable}
use Rattle.record.specs.Tree.Tree.{Constant, Binary}
use Rattle.record.specs.Decode.{decode}
use Rattle.base.specs.Put.{put, padded}
use Rattle.record.proofs.BytesLaws.{length_record}
use Rattle.record.proofs.EncodeLaws.{length_encode, size_encode, Encoded, encoded}
use Rattle.base.proofs.PutLaws.{length_put, put_then}
use Rattle.expr.specs.Hash.{mix_hash, tag_hash, structural_hash}
use Rattle.atom_table.specs.declared.table.Table.{Table}
use Rattle.semilinear.specs.Form.{head_byte, Row, new_row, atoms_bytes, fits_table}
use Rattle.made.specs.Rows.{create_row, masked_tree, create_masked}
use Rattle.atom_table.specs.Table.{Placed, Holds, Clean, Store, store_of, atom_span, full_table, more_atoms, create_atom}
use Rattle.made.specs.Made.{made_of, Room, Later, Held, Grew, Basis, Makes}
use Rattle.atom_table.proofs.TableLaws.{created, create_cases, room_atom, placed_create, clean_create}
use Rattle.atom_table.proofs.HoldsLaws.{holds_create, full_holds, padded_holds}

-- ---- an atom more

-- F and G that agree on every list of rows
pub grew_as : {w n : ℕ} {F G : List Row → List Row} {made : Made} {out : List ℕ} {made' : Made} {out' : List ℕ} → ((l : List Row) → F l ≡ G l)
    → Grew w n F made out made' out' → Grew w n G made out made' out'
grew_as {w} {made' = made'} {out' = out'} e g =
    record {
      room = g.room;
      later = g.later;
      long = g.long;
      held = λ l h. rw (← (e l)) (g.held l h);
    }

module _ (w : ℕ) (t : List ℕ) (ok : sized t ≡ true) (same : encode w (decode t) ≡ t) (made : Made) (out : List ℕ)
    (r : Room made out) where
  pub grew_create : {tab : Table} {wrote : List ℕ} {made' : Made}
      → store_of tab wrote ≡ create_atom w t (store_of made.table out)
      → made' ≡ made_of tab (made.rows + 1) made.constant
      → Grew w 1 (create_row (decode t)) made out made' wrote
  unfolding create_row
  grew_create {tab} {wrote} {made'} e q =
      let n : ℕ = made.rows + 1 in
      let k : ℕ = made.constant in
      let m : made'.table ≡ tab = ap (λ (s : Made). s.table) q in
      let rows' : made'.rows ≡ n = ap (λ (s : Made). s.rows) q in
      record {
        room = record { placed = rw m (placed_create w t made.table out r.placed ok e) };
        later =
            record {
              rows_le = omega (arith, rows');
              constant = ap (λ (s : Made). s.constant) q;
            };
        long =
            create_cases w t made.table out r.placed ok (λ _ o. length o ≡ length out) (λ _. refl) (λ _ _. refl)
            (λ _ f.
            length_put out made.table.at (atom_span w t) (room_atom w t made.table out r.placed ok f)) e;
        held = λ l h.
            record {
              holds = rw m (holds_create w 0 t made.table out l h.holds ok same e);
              clean = rw m (clean_create w t made.table out r.placed ok h.clean e);
              rows =
                  rows' ∙ ap (λ (x : ℕ). x + 1) h.rows
                  ∙ sym (length-append l (new_row (decode t) 0 ∷ []));
            };
      }

-- ---- a basis, and the basis under a mask

-- the bytes of the basis b under the mask m
abbrev pub masked_bytes : ℕ → List ℕ → ℕ → List ℕ
masked_bytes w b m = encode w (Binary 4 (decode b) (Constant m))

module _ (w hash : ℕ) (b : List ℕ) (h : Basis w hash b) where
  basis_encoded : Encoded w (decode b)
  basis_encoded = encoded w (decode b) h.encodable

  pub basis_sized : sized b ≡ true
  basis_sized = rw h.same at basis_encoded.ok

  pub basis_size : size_of (decode b) * 16 ≡ length b
  basis_size = sym (length_encode w (decode b)) ∙ ap length h.same

  basis_fields : size b ≡ size_of (decode b)
  basis_fields = sym (ap size h.same) ∙ size_encode w (decode b)

  module _ (m : ℕ) where
    pub masked_size : size (masked_bytes w b m) ≡ size b + 2
    unfolding size_of
    masked_size = omega (arith, size_encode w (Binary 4 (decode b) (Constant m)), basis_fields)

    pub masked_length : length (masked_bytes w b m) ≡ length b + 32
    unfolding size_of
    masked_length = omega (arith, length_encode w (Binary 4 (decode b) (Constant m)), basis_size)

    -- the table with this atom more, with the numbers as the code has them
    pub created_masked : (tab : Table) (out : List ℕ) → tab.full ≡ false → tab.count < 256
        → {n : ℕ} → n ≡ size b → tab.records + (n + 2) ≤ 3072
        → {wrote : List ℕ} → wrote ≡ put out tab.at (atom_span w (masked_bytes w b m))
        → store_of
        (record {
          at = tab.at + 48 + length b;
          count = tab.count + 1;
          records = tab.records + (n + 2);
          full = tab.full;
        })
        wrote
        ≡ create_atom w (masked_bytes w b m) (store_of tab out)
    created_masked tab out e l {n} hn fit {wrote} hw =
        let at_same : tab.at + 48 + length b ≡ tab.at + 16 + length (masked_bytes w b m) = omega (arith, masked_length) in
        let hn' : n + 2 ≡ size (masked_bytes w b m) = omega (arith, masked_size) in
        ap (λ (x : ℕ). store_of (record { at = x; count = tab.count + 1; records = tab.records + (n + 2); full = tab.full }) wrote) at_same
        ∙ created w (masked_bytes w b m) tab out e l hn' fit hw

  module _ (m : ℕ) (hm : m < 2 ^ 64) where
    abbrev masked_basis : Tree
    masked_basis = Binary 4 (decode b) (Constant m)

    masked_encoded : Encoded w masked_basis
    unfolding Encodable arity
    masked_encoded = encoded w masked_basis (refl, h.encodable, hm)

    pub masked_sized : sized (encode w masked_basis) ≡ true
    masked_sized = masked_encoded.ok

    pub masked_back : decode (encode w masked_basis) ≡ masked_basis
    masked_back = masked_encoded.back

    masked_bytes_lem : encode w masked_basis
        ≡ (b ++ record_bytes 0 0 1 w m) ++ record_bytes 4 0 (size_of (decode b) + 1 + 1) w 0
    unfolding encode size_of
    masked_bytes_lem =
        ap (λ (s : List ℕ). (s ++ record_bytes 0 0 1 w m) ++ record_bytes 4 0 (size_of (decode b) + 1 + 1) w 0) h.same

    masked_hash : mix_hash (mix_hash 4 hash) (tag_hash 0 m) ≡ structural_hash (decode (encode w masked_basis))
    unfolding structural_hash
    masked_hash = rw masked_back (ap (λ (x : ℕ). mix_hash (mix_hash 4 x) (tag_hash 0 m)) h.hashed)

    -- the head, the basis, the literal and the root
    put_masked_span : (d : List ℕ) (at n v : ℕ) → at + 48 + length b ≤ length d → n * 16 ≡ length b + 32
        → v ≡ mix_hash (mix_hash 4 hash) (tag_hash 0 m)
        → put (put (put (put d at (record_bytes 33 head_byte n w v)) (at + 16) b) (at + 16 + length b) (record_bytes 0 0 1 w m))
        (at + 16 + length b + 16) (record_bytes 4 0 n w 0)
        ≡ put d at (atom_span w (encode w masked_basis))
    unfolding atom_span
    put_masked_span d at n v room hn hv =
        let head : List ℕ = record_bytes 33 head_byte n w v in
        let one : List ℕ = record_bytes 0 0 1 w m in
        let root : List ℕ = record_bytes 4 0 n w 0 in
        let lh : length head ≡ 16 = length_record [] 33 head_byte n w v in
        let lo : length one ≡ 16 = length_record [] 0 0 1 w m in
        let l2 : length (head ++ b) ≡ length head + length b = length-append head b in
        let l3 : length ((head ++ b) ++ one) ≡ length (head ++ b) + length one = length-append (head ++ b) one in
        let same-n : n ≡ size_of (decode b) + 1 + 1 = omega (arith, basis_size) in
        let size_same : size (encode w masked_basis) ≡ n = omega (arith, masked_size m, basis_fields) in
        let bytes : encode w masked_basis ≡ (b ++ one) ++ root =
        masked_bytes_lem ∙ ap (λ (k : ℕ). (b ++ one) ++ record_bytes 4 0 k w 0) (sym same-n) in
        let front : record_bytes 33 head_byte (size (encode w masked_basis)) w (structural_hash (decode (encode w masked_basis))) ≡ head =
        rw (size_same, ← masked_hash, ← hv) refl in
        ap (λ (s : List ℕ). put (put s (at + 16 + length b) one) (at + 16 + length b + 16) root)
        (put_then d at head b (at + 16) (omega arith) (omega arith))
        ∙ ap (λ (s : List ℕ). put s (at + 16 + length b + 16) root)
        (put_then d at (head ++ b) one (at + 16 + length b) (omega arith) (omega arith))
        ∙ put_then d at ((head ++ b) ++ one) root (at + 16 + length b + 16) (omega arith) (omega arith)
        ∙ ap (put d at)
        (append_assoc (head ++ b) one root ∙ append_assoc head b (one ++ root)
        ∙ ap (λ (s : List ℕ). head ++ s) (sym (append_assoc b one root))
        ∙ sym (ap₂_append front bytes))
      where
        ap₂_append : {x y u v : List ℕ} → x ≡ y → u ≡ v → x ++ u ≡ y ++ v
        ap₂_append p q = cc

-- the same as the code has it, write by write
pub wrote_masked : (w hash : ℕ) (b : List ℕ) (h : Basis w hash b) (m : ℕ) → m < 2 ^ 64 → (d : List ℕ) (at n : ℕ)
    → at + 48 + length b ≤ length d → n * 16 ≡ length b + 32
    → {v : ℕ} {o1 o2 o3 o4 : List ℕ} → v ≡ mix_hash (mix_hash 4 hash) (tag_hash 0 m)
    → o1 ≡ put d at (record_bytes 33 head_byte n w v) → o2 ≡ put o1 (at + 16) b
    → o3 ≡ put o2 (at + 16 + length b) (record_bytes 0 0 1 w m)
    → o4 ≡ put o3 (at + 16 + length b + 16) (record_bytes 4 0 n w 0)
    → o4 ≡ put d at (atom_span w (masked_bytes w b m))
wrote_masked w hash b h m hm d at n room hn {v} hv e1 e2 e3 e4 =
    e4
    ∙ ap (λ (o : List ℕ). put o (at + 16 + length b + 16) (record_bytes 4 0 n w 0))
    (e3 ∙ ap (λ (o : List ℕ). put o (at + 16 + length b) (record_bytes 0 0 1 w m))
    (e2 ∙ ap (λ (o : List ℕ). put o (at + 16) b) e1))
    ∙ put_masked_span w hash b h m hm d at n v room hn hv

module _ (w m : ℕ) (b : Tree) (l : List Row) where
  pub masked_full : m ≡ 2 ^ w - 1 → create_row b l ≡ create_masked w b m l
  unfolding create_masked masked_tree
  masked_full e = sym (simp (eq-eqb m (2 ^ w - 1) e))

  pub masked_part : (m ≡ 2 ^ w - 1 → ⊥) → create_row (Binary 4 b (Constant m)) l ≡ create_masked w b m l
  unfolding create_masked masked_tree
  masked_part e = sym (simp (ne_eqb m (2 ^ w - 1) e))

-- the basis under a mask that is not full
module _ (w hash : ℕ) (b : List ℕ) (h : Basis w hash b) (m : ℕ) (hm : m < 2 ^ 64) (made : Made) (out : List ℕ)
    (r : Room made out) (part : m ≡ 2 ^ w - 1 → ⊥) where
  pub grew_masked : {tab : Table} {wrote : List ℕ} {made' : Made}
      → store_of tab wrote ≡ create_atom w (masked_bytes w b m) (store_of made.table out)
      → made' ≡ made_of tab (made.rows + 1) made.constant
      → Grew w 1 (create_masked w (decode b) m) made out made' wrote
  grew_masked e q =
      let t = masked_bytes w b m in
      grew_as (λ l. ap (λ (u : Tree). create_row u l) (masked_back w hash b h m hm) ∙ masked_part w m (decode b) l part)
      (grew_create w t (masked_sized w hash b h m hm) (ap (encode w) (masked_back w hash b h m hm)) made out r e q)

-- ---- the start and the end of a pass

pub held_start : (w : ℕ) (tab : Table) (out : List ℕ) (l : List Row) (k : ℕ) → Holds w tab out l → Clean tab out
    → Held w (made_of tab (length l) k) out l
held_start w tab out l k h z = record { holds = h; clean = z; rows = refl }

module _ (w : ℕ) (made : Made) (out : List ℕ) (l : List Row) (h : Held w made out l) where
  -- it is full where the rows pass a limit
  pub held_full : made.table.full ≡ not (fits_table l)
  held_full = full_holds w made.table out l h.holds

  pub held_bytes : made.table.full ≡ false → out ≡ padded (length out) (atoms_bytes w l)
  held_bytes n = padded_holds w made.table out l h.holds h.clean n

-- ---- what is asked of a step

-- where n atoms can be made, fewer can, also after rows were added
module _ {w n hash : ℕ} {b : List ℕ} {made : Made} {out : List ℕ} (h : Makes w n hash b made out) where
  pub makes_fewer : {m : ℕ} → m ≤ n → Makes w m hash b made out
  makes_fewer le =
      record { width = h.width; basis = h.basis; room = h.room; more = omega (arith, h.more, le) }

  pub makes_later : {m : ℕ} {made' : Made} {out' : List ℕ} → Room made' out' → made'.rows + m ≤ made.rows + n
      → Makes w m hash b made' out'
  makes_later room le =
      record { width = h.width; basis = h.basis; room = room; more = omega (arith, h.more, le) }
