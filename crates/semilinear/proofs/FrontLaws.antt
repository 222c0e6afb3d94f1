-- Laws of the readers of specs/Items.antt: what is read of a record, an atom and a term at the front, and that the
-- record at the front is the record of its fields.
use mathlib.Core.Path.{◌≡◌, refl, ◌∙◌}
use Prim.Native.Nat.{ℕ, ◌+◌, ◌*◌, ◌^◌, ◌≤◌, ◌<◌}
use native.Mathlib.Omega.{arith}
use mathlib.Core.List.{List, [], ◌++◌, append_assoc}
use mathlib.Core.Bool.{true, false, and-false}
use lib.ListN.{length, get_or, take, drop, length-append, length-take}
use lib.Seq.{take_at, drop_at, get_or-take}
use lib.Dec.{lit<}
use borrow.Author.Tests.{le-leb, eq-eqb, ne_eqb}
use Rattle.record.specs.Fields.{u16, u32, u64, kind, byte1, byte5, size, width, literal, spare_high, spare}
use Rattle.record.specs.Tree.{Tree, size_of, record_bytes, encode, IsBytes}
use Rattle.record.proofs.BytesLaws.{literal_record, last_record, bytes_take}
use Rattle.record.proofs.EncodeLaws.{length_encode}
use Rattle.expr.specs.Hash.{structural_hash}
use Rattle.semilinear.specs.Form.{atom_bytes, term_bytes}
use Rattle.semilinear.specs.Items.{front_kind, provenance, front_number, front_width, front_spare, front_word}
use Rattle.semilinear.specs.Items.{atom_length, is_atom, tree_span, after_atom, is_term}
use Rattle.semilinear.specs.DecodeForm.{has_term, coeff_at, after_term}

-- ---- a record at the front

module _ (k a n w v : ℕ) (r : List ℕ) where
  pub kind_front : front_kind (record_bytes k a n w v ++ r) ≡ k
  unfolding front_kind record_bytes
  kind_front = refl

  pub provenance_front : provenance (record_bytes k a n w v ++ r) ≡ a
  unfolding provenance record_bytes
  provenance_front = refl

  pub number_front : front_number (record_bytes k a n w v ++ r) ≡ n
  unfolding front_number u16 record_bytes
  number_front = omega arith

  pub width_front : front_width (record_bytes k a n w v ++ r) ≡ w
  unfolding front_width record_bytes
  width_front = refl

  pub spare_front : front_spare (record_bytes k a n w v ++ r) ≡ 0
  unfolding front_spare record_bytes
  spare_front = refl

  pub word_front : v < 2 ^ 64 → front_word (record_bytes k a n w v ++ r) ≡ v
  unfolding front_word literal u64 u32 u16 record_bytes
  word_front h = literal_record [] k a n w v h

  pub length_front : length (record_bytes k a n w v ++ r) ≡ 16 + length r
  unfolding record_bytes
  length_front = omega arith

  pub drop_front : drop 16 (record_bytes k a n w v ++ r) ≡ r
  unfolding record_bytes
  drop_front = refl

-- and the other way: the record at the front is the record of its fields
module _ (r : List ℕ) (big : 16 ≤ length r) where
  length_first : length (take 16 r) ≡ 16
  length_first = simp length-take (omega arith)

  at : (i : ℕ) → i < 16 → get_or (take 16 r) i 0 ≡ get_or r i 0
  at i h = get_or-take 16 r i 0 h

  pub front_record : IsBytes r → front_spare r ≡ 0
      → record_bytes (front_kind r) (provenance r) (front_number r) (front_width r) (front_word r) ≡ take 16 r
  unfolding front_kind provenance front_number front_width front_spare front_word kind byte1 byte5 size width literal
      spare_high spare u64 u32 u16
  front_record h z =
      let big' : 16 ≤ length (take 16 r) = omega (arith, length_first) in
      let a0 = at 0 (lit< tt) in
      let a1 = at 1 (lit< tt) in
      let a2 = at 2 (lit< tt) in
      let a3 = at 3 (lit< tt) in
      let a4 = at 4 (lit< tt) in
      let a5 = at 5 (lit< tt) in
      let a6 = at 6 (lit< tt) in
      let a7 = at 7 (lit< tt) in
      let a8 = at 8 (lit< tt) in
      let a9 = at 9 (lit< tt) in
      let a10 = at 10 (lit< tt) in
      let a11 = at 11 (lit< tt) in
      let a12 = at 12 (lit< tt) in
      let a13 = at 13 (lit< tt) in
      let a14 = at 14 (lit< tt) in
      let a15 = at 15 (lit< tt) in
      let z' : spare (take 16 r) ≡ 0 = rw (length_first, a5, a6, a7) (omega arith) in
      let e = rw length_first at (last_record (take 16 r) big' (bytes_take 16 r h) z') in
      cc

-- ---- an atom at the front

module _ (w p : ℕ) (t : Tree) where
  pub length_atom : length (atom_bytes w p t) ≡ 16 + 16 * size_of t
  unfolding atom_bytes
  length_atom = length_front 33 p (size_of t) w (structural_hash t) (encode w t) ∙ omega (arith, length_encode w t)

  module _ (r : List ℕ) where
    atom_head : atom_bytes w p t ++ r ≡ record_bytes 33 p (size_of t) w (structural_hash t) ++ (encode w t ++ r)
    unfolding atom_bytes
    atom_head = append_assoc (record_bytes 33 p (size_of t) w (structural_hash t)) (encode w t) r

    pub provenance_atom : provenance (atom_bytes w p t ++ r) ≡ p
    provenance_atom = rw atom_head (provenance_front 33 p (size_of t) w (structural_hash t) (encode w t ++ r))

    pub number_atom : front_number (atom_bytes w p t ++ r) ≡ size_of t
    number_atom = rw atom_head (number_front 33 p (size_of t) w (structural_hash t) (encode w t ++ r))

    pub width_atom : front_width (atom_bytes w p t ++ r) ≡ w
    width_atom = rw atom_head (width_front 33 p (size_of t) w (structural_hash t) (encode w t ++ r))

    pub spare_atom : front_spare (atom_bytes w p t ++ r) ≡ 0
    spare_atom = rw atom_head (spare_front 33 p (size_of t) w (structural_hash t) (encode w t ++ r))

    pub word_atom : structural_hash t < 2 ^ 64 → front_word (atom_bytes w p t ++ r) ≡ structural_hash t
    word_atom = rw atom_head (word_front 33 p (size_of t) w (structural_hash t) (encode w t ++ r))

    kind_atom : front_kind (atom_bytes w p t ++ r) ≡ 33
    kind_atom = rw atom_head (kind_front 33 p (size_of t) w (structural_hash t) (encode w t ++ r))

    pub atom_front : is_atom (atom_bytes w p t ++ r) ≡ true
    unfolding is_atom atom_length
    atom_front =
        let len = length-append (atom_bytes w p t) r in
        simp (
          le-leb 16 (length (atom_bytes w p t ++ r)) (omega (arith, length_atom)),
          eq-eqb _ _ kind_atom,
          number_atom,
          le-leb (16 + 16 * size_of t) (length (atom_bytes w p t ++ r)) (omega (arith, length_atom)),
        )

    pub tree_span_atom : tree_span (atom_bytes w p t ++ r) ≡ encode w t
    unfolding tree_span
    tree_span_atom =
        rw (number_atom, atom_head, drop_front 33 p (size_of t) w (structural_hash t) (encode w t ++ r))
        (take_at (encode w t) r (16 * size_of t) (omega (arith, length_encode w t)))

    pub after_atom_atom : after_atom (atom_bytes w p t ++ r) ≡ r
    unfolding after_atom atom_length
    after_atom_atom = rw number_atom (drop_at (atom_bytes w p t) r (16 + 16 * size_of t) length_atom)

-- ---- a term at the front

module _ (w i c : ℕ) (r : List ℕ) where
  pub term_front : is_term (term_bytes w i c ++ r) ≡ true
  unfolding is_term term_bytes
  term_front =
      simp (
        le-leb 16 (length (record_bytes 34 0 i w c ++ r)) (omega (arith, length_front 34 0 i w c r)),
        kind_front 34 0 i w c r,
      )

  pub term_not_atom : is_atom (term_bytes w i c ++ r) ≡ false
  unfolding is_atom term_bytes
  term_not_atom = simp (kind_front 34 0 i w c r, and-false)

  pub provenance_term : provenance (term_bytes w i c ++ r) ≡ 0
  unfolding term_bytes
  provenance_term = provenance_front 34 0 i w c r

  pub number_term : front_number (term_bytes w i c ++ r) ≡ i
  unfolding term_bytes
  number_term = number_front 34 0 i w c r

  pub width_term : front_width (term_bytes w i c ++ r) ≡ w
  unfolding term_bytes
  width_term = width_front 34 0 i w c r

  pub spare_term : front_spare (term_bytes w i c ++ r) ≡ 0
  unfolding term_bytes
  spare_term = spare_front 34 0 i w c r

  pub word_term : c < 2 ^ 64 → front_word (term_bytes w i c ++ r) ≡ c
  unfolding term_bytes
  word_term = word_front 34 0 i w c r

  pub drop_term : drop 16 (term_bytes w i c ++ r) ≡ r
  unfolding term_bytes
  drop_term = drop_front 34 0 i w c r

  pub has_term_front : has_term i (term_bytes w i c ++ r) ≡ true
  unfolding has_term
  has_term_front = simp (term_front, eq-eqb _ _ number_term)

  pub has_term_other : (j : ℕ) → (i ≡ j → ⊥) → has_term j (term_bytes w i c ++ r) ≡ false
  unfolding has_term
  has_term_other j h = simp (number_term, ne_eqb i j h, and-false)

  pub coeff_front : c < 2 ^ 64 → coeff_at i (term_bytes w i c ++ r) ≡ c
  unfolding coeff_at
  coeff_front h = simp (has_term_front, word_term h)

  pub after_term_front : after_term i (term_bytes w i c ++ r) ≡ r
  unfolding after_term
  after_term_front = simp has_term_front drop_term
