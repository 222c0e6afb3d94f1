-- What the words of a valid form's partition say (specs/Columns.antt): each place is in exactly one class, the atoms'
-- bits stand in the profile words, and the words fit the result slice. The whole slice, of len words, is
-- `written_of len (partitions_outcome f)`.
use mathlib.Core.Path.{◌≡◌, ap, sym, ◌∙◌}
use Prim.Native.Nat.{ℕ, zero, suc, ◌+◌, ◌*◌, ◌^◌, ◌≤◌, ◌<◌}
use native.Mathlib.Omega.{arith}
use native.Mathlib.Nat.{lt_of_lt_of_le, mul-le-mul_left, zero-add}
use native.Mathlib.Decide.{dec_lt}
use mathlib.Core.List.{List, [], ◌∷◌}
use mathlib.Core.Bool.{true, false, not, ◌&&◌}
use lib.ListN.{length, get_or}
use lib.Seq.{ext_get_or}
use lib.Pow.{pow_mono}
use borrow.Author.Tests.{not-true}
use Rattle.arith.specs.Bit.{bit_at}
use Rattle.arith.proofs.BitLaws.{bit_lt, bit_past}
use Rattle.base.specs.Lists.{eq_list}
use Rattle.record.specs.Tree.{Tree}
use Rattle.base.proofs.BoolLaws.{false_true, and_true}
use Rattle.base.proofs.ListsLaws.{eq_list_self}
use Rattle.expr_refusal.specs.Refusal.{is_expr}
use Rattle.expr_utils.specs.Utils.{has_var_dep, has_arith}
use Rattle.expr.specs.Value.{value}
use Rattle.expr.specs.Vars.{support}
use Rattle.truth.specs.Truth.{row_number}
use Rattle.truth.proofs.BitwiseLaws.{Bitwise, bitwise_of_no_shift}
use Rattle.truth.proofs.BitOfLaws.{bit_value}
use Rattle.truth.proofs.TruthLaws.{table_lt, table_row, occurs_support, row_of_lt, row_of_bit}
use Rattle.semilinear.specs.Form.{Row, Form, is_atom_tree, rows_ok, valid_form}
use Rattle.base.specs.Outcome.{written_of}
use Rattle.semilinear.proofs.FormLaws.{rows_cons, form_parts}
use Rattle.partition_laws.specs.Partition.{is_opaque, opaque_word, profile_word}
use Rattle.partition_laws.specs.Partition.{PartitionClass, classes_of, class_words, partitions_outcome}
use Rattle.partition_laws.specs.Classes.{HasWords}
use Rattle.partition_laws.specs.Columns.{row_tree, atom_tree, mask_at, word_at, HoldsPlace, InOneClass, HoldsBelow}
use Rattle.partition_laws.specs.Columns.{IsRow, Columns}
use Rattle.partition_laws.proofs.PartitionLaws.{class_at, holders, each_at, each_map}
use Rattle.partition_laws.proofs.PartitionLaws.{classes_holders, holder_of}
use Rattle.partition_laws.proofs.OrderLaws.{Before, Unlike, classes_before, classes_unlike}
use Rattle.partition_laws.proofs.ProfileLaws.{tabled, profile_at, profile_lt}
use Rattle.partition_laws.proofs.ProfileLaws.{profile_word_tabled, profile_word_opaque}
use Rattle.partition_laws.proofs.ProfileLaws.{class_words_at, class_words_lt, get_or_padded}
use Rattle.partition_laws.proofs.ClassesLaws.{classes_none, classes_some, classes_either, count, atoms, IsClass}
use Rattle.partition_laws.proofs.ClassesLaws.{classes_ok, classes_words, columns_count, columns_length}

-- ---- valid forms

-- the tree of an atom of valid rows
good_at : (w : ℕ) (rows : List Row) → rows_ok w rows ≡ true → (i : ℕ) → i < length rows
    → is_atom_tree (row_tree rows i) ≡ true
unfolding row_tree
good_at w [] e i h = absurd (omega arith)
good_at w (x ∷ l) e zero h = (rows_cons w x l e).0.atom
good_at w (x ∷ l) e (suc i) h = good_at w l (rows_cons w x l e).1 i (omega arith)

bitwise_atom : (t : Tree) → is_atom_tree t ≡ true → is_opaque t ≡ false → Bitwise t
unfolding is_atom_tree
bitwise_atom t e o =
    let p = and_true (is_expr t) (has_var_dep t && not (has_arith t)) e in
    let q = and_true (has_var_dep t) (not (has_arith t)) p.1 in
    bitwise_of_no_shift t p.0 (not-true _ q.1) (tabled t o).no_shift

module _ (f : Form) (ok : valid_form f ≡ true) where
  -- the words fit the result slice of 16,448 words of 64 bits
  pub columns_fit : length (class_words (classes_of f)) ≤ 16448
  columns_fit =
      let v = form_parts f ok in
      let wide : count f * (atoms f + 1) ≤ count f * 257 = mul-le-mul_left (count f) (omega (arith, v.atoms_le)) in
      omega (arith, columns_length f, columns_count f, v.width_le)

  pub columns_lt : (j : ℕ) → get_or (class_words (classes_of f)) j 0 < 2 ^ 64
  columns_lt =
      class_words_lt (atoms f) (classes_of f)
      (each_map (IsClass f) _ (λ x c. (mask_word x c, profile_words x c)) (classes_of f) (classes_ok f))
    where
      mask_word : (x : PartitionClass) → IsClass f x → x.mask < 2 ^ 64
      mask_word x c = lt_of_lt_of_le c.low (pow_mono (form_parts f ok).width_le)

      profile_words : (x : PartitionClass) → IsClass f x → (j : ℕ) → get_or x.profile j 0 < 2 ^ 64
      profile_words x c j =
          rw (c.own c.some c.some_there)
          (profile_lt f.bitwidth c.some 0 f.rows (omega (arith, (form_parts f ok).atoms_le)) j)

  module _ (len : ℕ) where
    -- the whole result slice
    abbrev out : List ℕ
    out = written_of len (partitions_outcome f)

    abbrev HoldsHere : ℕ → ℕ → Type 0
    HoldsHere = HoldsPlace f out (count f)

    out_at : (j : ℕ) → get_or out j 0 ≡ get_or (class_words (classes_of f)) j 0
    unfolding written_of partitions_outcome
    out_at j = get_or_padded len (class_words (classes_of f)) j

    mask_at_lem : (k : ℕ) → k < count f → mask_at f out k ≡ (class_at (classes_of f) k).mask
    mask_at_lem k h =
        let e : k * (atoms f + 1) ≡ k * (atoms f + 1) + 0 = omega arith in
        out_at (k * (atoms f + 1))
        ∙ ap (λ (j : ℕ). get_or (class_words (classes_of f)) j 0) e
        ∙ class_words_at (atoms f) (classes_of f) (classes_words f) k h 0 (omega arith)

    word_at_lem : (k i : ℕ) → k < count f → i < atoms f → word_at f out k i ≡ get_or (class_at (classes_of f) k).profile i 0
    word_at_lem k i h hi =
        let e : k * (atoms f + 1) + 1 + i ≡ k * (atoms f + 1) + suc i = omega arith in
        out_at (k * (atoms f + 1) + 1 + i)
        ∙ ap (λ (j : ℕ). get_or (class_words (classes_of f)) j 0) e
        ∙ class_words_at (atoms f) (classes_of f) (classes_words f) k h (suc i) (omega arith)

    class_at_lem : (k : ℕ) → k < count f → IsClass f (class_at (classes_of f) k)
    class_at_lem k h = each_at (IsClass f) (classes_of f) (classes_ok f) k h

    -- a bit of a class's mask, and of the word written for it
    holds_in : (k p : ℕ) → HoldsHere k p → bit_at (class_at (classes_of f) k).mask p ≡ 1
    holds_in k p h = ap (λ (m : ℕ). bit_at m p) (sym (mask_at_lem k h.below)) ∙ h.there

    in_holds : (k p : ℕ) → k < count f → bit_at (class_at (classes_of f) k).mask p ≡ 1 → HoldsHere k p
    in_holds k p l b = record { below = l; there = ap (λ (m : ℕ). bit_at m p) (mask_at_lem k l) ∙ b }

    -- each class holds a place
    some_place : (k : ℕ) (l : k < count f) → HoldsHere k (class_at_lem k l).some
    some_place k l = in_holds k (class_at_lem k l).some l (class_at_lem k l).some_there

    pub columns_mask_lt : (k : ℕ) → k < count f → mask_at f out k < 2 ^ f.bitwidth
    columns_mask_lt k h = rw (mask_at_lem k h) (class_at_lem k h).low

    -- where there are atoms, each place is in exactly one class
    pub columns_once : 0 < length f.rows → (p : ℕ) → p < f.bitwidth → InOneClass f out (count f) p
    columns_once some p hp =
        let one : holders p (classes_of f) ≡ 1 =
        ap (holders p) (classes_some f some) ∙ classes_holders f.bitwidth f.rows f.bitwidth p hp in
        let i = holder_of p (classes_of f) one in
        record {
          class = i.at;
          holds = in_holds i.at p i.below i.there;
          only = λ k h. i.only k h.below (holds_in k p h);
        }

    -- each place of a class has a lower one in every class before it
    pub columns_rising : (k j : ℕ) → k < j → (q : ℕ) → HoldsHere j q → HoldsBelow f out (count f) k q
    columns_rising k j h q held =
        let before =
        classes_either f (λ l. j < length l → Before (class_at l k) (class_at l j)) (λ l. absurd (omega arith))
        (classes_before f.bitwidth f.rows f.bitwidth k j h) in
        let l = before held.below q (holds_in j q held) in
        let low : k < count f = omega (arith, held.below) in
        record { place = l.place; less = l.less; holds = in_holds k l.place low l.there }

    -- no two classes have the same profile words
    later_unlike : (k j : ℕ) → k < j → j < count f
        → ((i : ℕ) → i < length f.rows → word_at f out k i ≡ word_at f out j i) → ⊥
    later_unlike k j h l e =
        let unlike =
        classes_either f (λ l. j < length l → Unlike (class_at l k) (class_at l j)) (λ l. absurd (omega arith))
        (classes_unlike f.bitwidth f.rows f.bitwidth k j h) in
        let x : List ℕ = (class_at (classes_of f) k).profile in
        let y : List ℕ = (class_at (classes_of f) j).profile in
        let low : k < count f = omega arith in
        let nx : length x ≡ atoms f = each_at (HasWords (atoms f)) (classes_of f) (classes_words f) k low in
        let ny : length y ≡ atoms f = each_at (HasWords (atoms f)) (classes_of f) (classes_words f) j l in
        let same : x ≡ y =
        ext_get_or 0 x y (nx ∙ sym ny)
        (λ i hi.
        let inside : i < atoms f = omega arith in
        sym (word_at_lem k i low inside) ∙ e i inside ∙ word_at_lem j i l inside) in
        false_true (sym (unlike l) ∙ ap (eq_list x) (sym same) ∙ eq_list_self x)

    pub columns_distinct : (k j : ℕ) → k < count f → j < count f
        → ((i : ℕ) → i < length f.rows → word_at f out k i ≡ word_at f out j i) → k ≡ j
    columns_distinct k j hk hj e = go (dec_lt k j) (dec_lt j k)
      where
        go : Dec (k < j) → Dec (j < k) → k ≡ j
        go (yes h) d = absurd (later_unlike k j h hj e)
        go (no n) (yes h) = absurd (later_unlike j k h hk (λ i hi. sym (e i hi)))
        go (no n) (no m) = omega arith

    -- a place that a class holds is one of the form's
    pub columns_place_lt : (k p : ℕ) → HoldsHere k p → p < f.bitwidth
    columns_place_lt k p h = go (dec_lt p f.bitwidth)
      where
        go : Dec (p < f.bitwidth) → p < f.bitwidth
        go (yes l) = l
        go (no l) =
            let z = bit_past (mask_at f out k) f.bitwidth p (columns_mask_lt k h.below) (omega arith) in
            absurd (omega (arith, h.there, z))

    pub columns_inhabited : (k : ℕ) → k < count f → HoldsBelow f out (count f) k f.bitwidth
    columns_inhabited k l =
        let h = some_place k l in
        record { place = (class_at_lem k l).some; less = columns_place_lt k (class_at_lem k l).some h; holds = h }

    -- the profile words of a class are those of each place that it holds
    pub columns_word : (k p : ℕ) → HoldsHere k p → (i : ℕ) → i < length f.rows
        → word_at f out k i ≡ profile_word f.bitwidth p i (atom_tree f i)
    columns_word k p h i hi =
        word_at_lem k i h.below hi
        ∙ ap (λ (l : List ℕ). get_or l i 0) ((class_at_lem k h.below).own p (holds_in k p h))
        ∙ profile_at f.bitwidth p 0 f.rows i hi
        ∙ ap (λ (n : ℕ). profile_word f.bitwidth p n (atom_tree f i)) (zero-add i)

    -- an atom's bit at a place of class k is the bit of its profile word there at the row of the assignment
    pub columns_bit : (i : ℕ) → i < length f.rows → is_opaque (atom_tree f i) ≡ false
        → (k p : ℕ) → HoldsPlace f out (count f) k p
        → (vars : List ℕ) (row : ℕ) → IsRow (atom_tree f i) p vars row
        → bit_at (value f.bitwidth vars (atom_tree f i)) p ≡ bit_at (word_at f out k i) row
    columns_bit i hi tab k p h vars row r =
        let t : Tree = atom_tree f i in
        let b : Bitwise t = bitwise_atom t (good_at f.bitwidth f.rows (form_parts f ok).rows_ok_lem i hi) tab in
        let bits : ℕ → ℕ = λ v. bit_at (get_or vars v 0) p in
        bit_value f.bitwidth p (columns_place_lt k p h) vars t b
        ∙ sym
        (table_row f.bitwidth p (support t) (length (support t)) t bits row r.low r.bits
        (occurs_support t b.expr))
        ∙ ap (λ (n : ℕ). bit_at n row) (sym (columns_word k p h i hi ∙ profile_word_tabled f.bitwidth p i t tab))

    pub columns_word_lt : (i : ℕ) → i < length f.rows → is_opaque (atom_tree f i) ≡ false
        → (k : ℕ) → k < count f → word_at f out k i < 2 ^ (2 ^ length (support (atom_tree f i)))
    columns_word_lt i hi tab k l =
        let t : Tree = atom_tree f i in
        let p : ℕ = (class_at_lem k l).some in
        rw (columns_word k p (some_place k l) i hi ∙ profile_word_tabled f.bitwidth p i t tab)
        (table_lt f.bitwidth p (support t) t (length (support t)))

    pub columns_opaque : (i : ℕ) → i < length f.rows → is_opaque (atom_tree f i) ≡ true
        → (k : ℕ) → k < count f → word_at f out k i ≡ opaque_word i
    columns_opaque i hi op k l =
        let p : ℕ = (class_at_lem k l).some in
        columns_word k p (some_place k l) i hi ∙ profile_word_opaque f.bitwidth p i (atom_tree f i) op

    -- all that document 01 says of the words
    pub columns : Columns f out (count f)
    columns =
        record {
          none = λ e. ap length (classes_none f e);
          once = columns_once;
          inhabited = columns_inhabited;
          mask_lt = columns_mask_lt;
          count_le = columns_count f;
          rising = columns_rising;
          distinct = columns_distinct;
          bit = columns_bit;
          word_lt = columns_word_lt;
          opaque = columns_opaque;
        }

-- every assignment has its row
pub row_is : (t : Tree) (p : ℕ) (vars : List ℕ) → IsRow t p vars (row_number (λ v. bit_at (get_or vars v 0) p) (support t))
row_is t p vars =
    let bits : ℕ → ℕ = λ v. bit_at (get_or vars v 0) p in
    let small : (v : ℕ) → bits v < 2 = λ v. bit_lt (get_or vars v 0) p in
    record { low = row_of_lt bits small (support t); bits = row_of_bit bits small (support t) }
