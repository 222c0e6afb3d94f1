-- What the two searches of specs/Index.antt mean: together they find the row that a tree shares
-- (normalizer_laws/specs/Register.antt), first by its hash and its bytes, then by its key.
use mathlib.Core.Path.{◌≡◌, refl, ap, ap₂, sym, ◌∙◌}
use Prim.Native.Nat.{ℕ, zero, suc, ◌+◌, ◌-◌, ◌≤◌, ◌<◌}
use native.Mathlib.Omega.{arith}
use native.Mathlib.Decide.{ℕ_discrete}
use mathlib.Core.List.{List, [], ◌∷◌, ◌++◌, map}
use mathlib.Core.Bool.{Bool, true, false, ◌&&◌}
use lib.ListN.{length, get_or, take, length-take}
use lib.Seq.{get_or-take}
use lib.Dec.{eqb}
use borrow.Author.Tests.{eq-eqb}
use Rattle.std.specs.Prelude.{Option, None, Some, IfSome, cond}
use Rattle.std.specs.List.{position, position_from}
use Rattle.std.proofs.lemmas.Iterator.Adapters.{position_from-zero}
use Rattle.base.specs.Choice.{when}
use Rattle.base.specs.Lists.{eq_list}
use Rattle.record.specs.Tree.{Tree, IsBytes}
use Rattle.record.specs.Decode.{decode}
use Rattle.record.proofs.BytesLaws.{bytes_take, bytes_drop}
use Rattle.expr_refusal.specs.Refusal.{tree_refusal}
use Rattle.expr.specs.Vars.{same_vars}
use Rattle.expr.specs.Hash.{structural_hash}
use Rattle.expr.proofs.AcceptLaws.{accept_encode}
use Rattle.truth.specs.Key.{is_pure, same_table, not_pure, key_of}
use Rattle.truth.proofs.KeyLaws.{not_pure_same, not_pure_key, pure_key, same_table_key}
use Rattle.semilinear.specs.Form.{Row, eq_tree}
use Rattle.normalizer_laws.specs.Register.{same_slot, newest_row, first_row, has_tree}
use Rattle.normalizer_laws.specs.Register.{shared_row}
use Rattle.ways.specs.Spans.{span_of}
use Rattle.register.specs.declared.index.Entry.{Entry}
use Rattle.register.specs.Index.{no_entry, entry_at, entry_span, entry_tree, entry_row, index_rows, EntryOk}
use Rattle.register.specs.Index.{last_f, only_if, slot_at, newest_slot, row_by_hash, row_by_key}
use Rattle.register.proofs.IndexLaws.{length_rows_in, rows_map}
use Rattle.register.proofs.SlotLaws.{last_lt, newest_lt}

-- ---- the newest row and the first row by their numbers

-- a number that was found, or n
unfoldable pub or_n : ℕ → Option ℕ → ℕ
or_n n None = n
or_n n (Some j) = j

or_when : (n k : ℕ) (b : Bool) (x : Option ℕ)
    → or_n n (when {A = Option ℕ} b (λ _. Some k) (λ _. x)) ≡ when b (λ _. k) (λ _. or_n n x)
unfolding or_n
or_when n k true x = refl
or_when n k false x = refl

last_ext : (p q : ℕ → Bool) (n : ℕ) → ((j : ℕ) → j < n → p j ≡ q j) → last_f n p ≡ last_f n q
unfolding last_f
last_ext p q zero same = refl
last_ext p q (suc n) same =
    ap₂ (λ (b : Bool) (k : Option ℕ). when {A = Option ℕ} b (λ _. Some n) (λ _. k)) (same n (omega arith))
    (last_ext p q n (λ j h. same j (omega arith)))

newest_more : (test : Row → Bool) (i k : ℕ) (l : List Row) (x : Row) (none : ℕ) → i + length l ≡ k
    → newest_row test i (l ++ (x ∷ [])) none ≡ when (test x) (λ _. k) (λ _. newest_row test i l none)
unfolding newest_row
newest_more test i k [] x none e =
    let f : i ≡ k = omega arith in
    ap (λ (m : ℕ). when (test x) (λ _. m) (λ _. none)) f
newest_more test i k (y ∷ l) x none e =
    newest_more test (i + 1) k l x (when (test y) (λ _. i) (λ _. none)) (omega arith)

-- no row passes the test
first_none : (test : Row → Bool) (a : ℕ) (l : List Row) → ((x : Row) → test x ≡ false) → first_row test a l ≡ a + length l
unfolding first_row
first_none test a [] h = omega arith
first_none test a (x ∷ l) h = rw (h x) (first_none test (a + 1) l h ∙ omega arith)

-- the first of rows, by the keys of the entries that they are of
first_step : (a k n m : ℕ) (b : Bool) (x : Option ℕ) → k ≡ or_n m x → m ≡ n
    → when b (λ _. a) (λ _. k) ≡ or_n n (cond b (Some a) x)
unfolding or_n
first_step a k n m true x h e = refl
first_step a k n m false x h e = h ∙ ap (λ (i : ℕ). or_n i x) e

first_map : (test : Row → Bool) (out key : List ℕ) (a : ℕ) (l : List Entry)
    → ((j : ℕ) → j < length l → test (entry_row out (entry_at l j)) ≡ eq_list (entry_at l j).key key)
    → first_row test a (map (entry_row out) l) ≡ or_n (a + length l) (position_from (λ e. eq_list e.key key) a l)
unfolding first_row or_n
first_map test out key a [] same = omega arith
first_map test out key a (x ∷ l) same =
    rw (same 0 (omega arith))
    (first_step a _ (a + length (x ∷ l)) (a + 1 + length l) (eq_list x.key key) _
    (first_map test out key (a + 1) l (λ j h. same (suc j) (omega arith))) (omega arith))

from_lt : {A : Type 0} (p : A → Bool) (a : ℕ) (l : List A) → IfSome (position_from p a l) (λ j. j < a + length l)
from_lt p a [] = tt
from_lt p a (x ∷ l) = go (p x) (position_from p (a + 1) l) (from_lt p (a + 1) l)
  where
    go : (b : Bool) (y : Option ℕ) → IfSome y (λ j. j < a + 1 + length l)
        → IfSome (cond b (Some a) y) (λ j. j < a + length (x ∷ l))
    go true y h = omega arith
    go false None h = tt
    go false (Some j) h = omega (arith, h)

pub key_lt : (n : ℕ) (key : List ℕ) (index : List Entry) → n ≤ length index → {j : ℕ}
    → row_by_key key (take n index) ≡ Some j → j < n
unfolding row_by_key
key_lt n key index room {j} = go (eqb (get_or key 0 0) not_pure)
  where
    p : Entry → Bool
    p e = eq_list e.key key

    go : (b : Bool) → when {A = Option ℕ} b (λ _. None) (λ _. position p (take n index)) ≡ Some j → j < n
    go true e = absurd (cc e)
    go false e =
        let found : position_from p 0 (take n index) ≡ Some j = sym (position_from-zero p (take n index)) ∙ e in
        let low : j < 0 + length (take n index) = rw found at (from_lt p 0 (take n index)) in
        omega (arith, low, length-take n index)

-- ---- a number that is kept where it passes a test

only_some : (p : ℕ → Bool) (x : Option ℕ) {j : ℕ} → only_if p x ≡ Some j → (x ≡ Some j) × (p j ≡ true)
unfolding only_if or_n
only_some p None e = absurd (cc e)
only_some p (Some k) {j} e = go (p k) refl e
  where
    go : (b : Bool) → p k ≡ b → when {A = Option ℕ} b (λ _. Some k) (λ _. None) ≡ Some j
        → (Some k ≡ Some j) × (p j ≡ true)
    go true h f = let same : k ≡ j = ap (or_n 0) f in (f, rw same at h)
    go false h f = absurd (cc f)

only_none : (p : ℕ → Bool) {k : ℕ} → only_if p (Some k) ≡ None → p k ≡ false
unfolding only_if
only_none p {k} = go (p k)
  where
    go : (b : Bool) → when {A = Option ℕ} b (λ _. Some k) (λ _. None) ≡ None → b ≡ false
    go true f = absurd (cc f)
    go false f = refl

pub shared_lt : (n hash : ℕ) (t : List ℕ) (index : List Entry) (out : List ℕ) {j : ℕ}
    → row_by_hash n hash t index out ≡ Some j → j < n
unfolding row_by_hash newest_slot
shared_lt n hash t index out e =
    let slot = only_some _ _ e in
    rw slot.0 at (last_lt (λ i. slot_at hash (decode t) out (entry_at index i)) n)

-- ---- rows by number

has_tree_front : (w : ℕ) (t : Tree) (j : ℕ) (l : List Row) (x : Row) → j < length l
    → has_tree w t j (l ++ (x ∷ [])) ≡ has_tree w t j l
unfolding has_tree
has_tree_front w t j [] x h = absurd (omega arith)
has_tree_front w t zero (y ∷ l) x h = refl
has_tree_front w t (suc j) (y ∷ l) x h = has_tree_front w t j l x (omega arith)

has_tree_end : (w : ℕ) (t : Tree) (j : ℕ) (l : List Row) (x : Row) → j ≡ length l
    → has_tree w t j (l ++ (x ∷ [])) ≡ eq_tree w x.tree t
unfolding has_tree
has_tree_end w t zero [] x h = refl
has_tree_end w t (suc j) [] x h = absurd (omega arith)
has_tree_end w t zero (y ∷ l) x h = absurd (omega arith)
has_tree_end w t (suc j) (y ∷ l) x h = has_tree_end w t j l x (omega arith)

module _ (index : List Entry) (out : List ℕ) where
  newest_rows : (test : Row → Bool) (n none : ℕ)
      → newest_row test 0 (index_rows index out n) none
      ≡ or_n none (last_f n (λ j. test (entry_row out (entry_at index j))))
  unfolding newest_row index_rows last_f or_n
  newest_rows test zero none = refl
  newest_rows test (suc n) none =
      let x : Row = entry_row out (entry_at index n) in
      newest_more test 0 n (index_rows index out n) x none (omega (arith, length_rows_in index out n))
      ∙ ap (λ (k : ℕ). when (test x) (λ _. n) (λ _. k)) (newest_rows test n none)
      ∙ sym (or_when none n (test x) _)

  module _ (w : ℕ) (t : Tree) where
    -- row j has the tree of entry j
    has_tree_in : (n j : ℕ) → j < n
        → has_tree w t j (index_rows index out n) ≡ eq_tree w (entry_tree out (entry_at index j)) t
    unfolding index_rows entry_row
    has_tree_in zero j h = absurd (omega arith)
    has_tree_in (suc n) j h = go (ℕ_discrete j n) (has_tree_in n)
      where
        x : Row
        x = entry_row out (entry_at index n)

        go : Dec (j ≡ n)
            → ((i : ℕ) → i < n
            → has_tree w t i (index_rows index out n) ≡ eq_tree w (entry_tree out (entry_at index i)) t)
            → has_tree w t j (index_rows index out n ++ (x ∷ [])) ≡ eq_tree w (entry_tree out (entry_at index j)) t
        go (yes e) below =
            rw e (has_tree_end w t n (index_rows index out n) x (sym (length_rows_in index out n)))
        go (no d) below =
            has_tree_front w t j (index_rows index out n) x (omega (arith, d, length_rows_in index out n))
            ∙ below j (omega (arith, d))

has_tree_past : (w : ℕ) (t : Tree) (j : ℕ) (l : List Row) → length l ≤ j → has_tree w t j l ≡ false
unfolding has_tree
has_tree_past w t j [] h = refl
has_tree_past w t zero (x ∷ l) h = absurd (omega arith)
has_tree_past w t (suc j) (x ∷ l) h = has_tree_past w t j l (omega arith)

bytes_span : (l : List ℕ) (s e : ℕ) → IsBytes l → IsBytes (span_of l s e)
unfolding span_of
bytes_span l s e h = bytes_take (e - s) _ (bytes_drop s l h)

-- ---- the row that the tree of the bytes t shares

module _ (w : ℕ) (index : List Entry) (out : List ℕ) (top n : ℕ)
    (entries : (j : ℕ) → j < n → EntryOk w out top (entry_at index j)) (ho : IsBytes out) (t : List ℕ) (ht : IsBytes t)
    (ok : tree_refusal w t ≡ 0) where
  abbrev rows : List Row
  rows = index_rows index out n

  abbrev newest : Option ℕ
  newest = newest_slot n (structural_hash (decode t)) (decode t) index out

  abbrev found : Option ℕ
  found = row_by_hash n (structural_hash (decode t)) t index out

  newest_is : newest_row (λ x. same_slot x.tree (decode t)) 0 rows (length rows) ≡ or_n n newest
  unfolding newest_slot slot_at same_slot entry_row
  newest_is =
      ap (newest_row (λ x. same_slot x.tree (decode t)) 0 rows) (length_rows_in index out n)
      ∙ newest_rows index out (λ x. same_slot x.tree (decode t)) n n
      ∙ ap (or_n n)
      (last_ext _ _ n
      (λ j h.
      ap
      (λ (k : ℕ). eqb k (structural_hash (decode t)) && same_vars (entry_tree out (entry_at index j)) (decode t))
      (sym (entries j h).hash)))

  -- the trees are equal where the bytes are
  eq_bytes : (j : ℕ) → j < n
      → eq_tree w (entry_tree out (entry_at index j)) (decode t) ≡ eq_list (entry_span out (entry_at index j)) t
  unfolding eq_tree entry_span
  eq_bytes j h =
      ap₂ eq_list
      (accept_encode w (entry_span out (entry_at index j)) (bytes_span out _ _ ho) (entries j h).tree)
      (accept_encode w t ht ok)

  shared_has : (b : Bool) → has_tree w (decode t) (or_n n newest) rows ≡ b
      → shared_row w (decode t) rows
      ≡ when b (λ _. or_n n newest) (λ _. first_row (λ x. same_table x.tree (decode t)) 0 rows)
  unfolding shared_row
  shared_has b e = rw (newest_is, e) refl

  -- found by its hash
  pub shared_by_hash : {j : ℕ} → found ≡ Some j → shared_row w (decode t) rows ≡ j
  unfolding row_by_hash or_n
  shared_by_hash {j} e =
      let slot = only_some _ _ e in
      let low : j < n = shared_lt n (structural_hash (decode t)) t index out e in
      let is : or_n n newest ≡ j = ap (or_n n) slot.0 in
      shared_has true
      (ap (λ (k : ℕ). has_tree w (decode t) k rows) is
      ∙ has_tree_in index out w (decode t) n j low
      ∙ eq_bytes j low
      ∙ slot.1)
      ∙ is

  -- not found by its hash: no atom has the slot, or the newest that has it has another tree
  not_has : found ≡ None → has_tree w (decode t) (or_n n newest) rows ≡ false
  unfolding row_by_hash or_n
  not_has e = go newest refl
    where
      p : ℕ → Bool
      p j = eq_list (entry_span out (entry_at index j)) t

      go : (x : Option ℕ) → newest ≡ x → has_tree w (decode t) (or_n n newest) rows ≡ false
      go None f =
          ap (λ (y : Option ℕ). has_tree w (decode t) (or_n n y) rows) f
          ∙ has_tree_past w (decode t) n rows (omega (arith, length_rows_in index out n))
      go (Some k) f =
          let low : k < n = newest_lt n (structural_hash (decode t)) t index out k f in
          ap (λ (y : Option ℕ). has_tree w (decode t) (or_n n y) rows) f
          ∙ has_tree_in index out w (decode t) n k low
          ∙ eq_bytes k low
          ∙ only_none p (sym (ap (only_if p) f) ∙ e)

  -- not found by its hash: the search by its key finds the row
  pub shared_by_key : n ≤ length index → found ≡ None
      → shared_row w (decode t) rows ≡ or_n n (row_by_key (key_of (decode t)) (take n index))
  unfolding row_by_key or_n entry_row
  shared_by_key room e = shared_has false (not_has e) ∙ go (is_pure (decode t)) refl
    where
      k : List ℕ
      k = key_of (decode t)

      test : Row → Bool
      test x = same_table x.tree (decode t)

      count : length (take n index) ≡ n
      count = omega (arith, length-take n index)

      go : (b : Bool) → is_pure (decode t) ≡ b → first_row test 0 rows ≡ or_n n (row_by_key k (take n index))
      go false p =
          let gone : row_by_key k (take n index) ≡ None =
          simp (eq-eqb (get_or k 0 0) not_pure (not_pure_key (decode t) p)) in
          let all : 0 + length rows ≡ n = omega (arith, length_rows_in index out n) in
          first_none test 0 rows (λ x. not_pure_same x.tree (decode t) p)
          ∙ all
          ∙ ap (or_n n) (sym gone)
      go true p =
          let at : (j : ℕ) → j < n → entry_at (take n index) j ≡ entry_at index j =
          λ j h. get_or-take n index j no_entry h in
          let pure : row_by_key k (take n index) ≡ position (λ e. eq_list e.key k) (take n index) =
          simp (pure_key (decode t) p) in
          let from : row_by_key k (take n index) ≡ position_from (λ e. eq_list e.key k) 0 (take n index) =
          pure ∙ position_from-zero (λ (e : Entry). eq_list e.key k) (take n index) in
          ap (first_row test 0) (rows_map index out n room)
          ∙ first_map test out k 0 (take n index)
          (λ j h.
          let low : j < n = omega (arith, count) in
          rw (at j low)
          (same_table_key (entry_tree out (entry_at index j)) (decode t) p
          ∙ ap (λ (x : List ℕ). eq_list x k) (sym (entries j low).key)))
          ∙ ap₂ or_n (omega (arith, count)) (sym from)
