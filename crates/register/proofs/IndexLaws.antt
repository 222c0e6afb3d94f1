-- Laws of the view of the atom table (specs/Index.antt): its length, one row more, a coefficient added, and that rows
-- and entries stay where entries and bytes before them do.
use mathlib.Core.Path.{◌≡◌, refl, ap, sym, ◌∙◌}
use Prim.Native.Nat.{ℕ, zero, suc, ◌+◌, ◌≤◌, ◌<◌}
use native.Mathlib.Omega.{arith}
use native.Mathlib.Numerals.{add-one}
use native.Mathlib.Decide.{ℕ_discrete}
use mathlib.Core.List.{List, [], ◌∷◌, ◌++◌, map}
use lib.ListN.{length, take, set, length-append}
use lib.Seq.{get_or-set_same, get_or-set_other}
use Rattle.std.proofs.lemmas.List.{take_more}
use Rattle.arith.specs.Width.{mod_add}
use Rattle.expr_refusal.proofs.RefusalLaws.{sized_accepted}
use Rattle.semilinear.specs.Form.{Row}
use Rattle.normalizer_laws.specs.Register.{add_row}
use Rattle.register.specs.declared.index.Entry.{Entry}
use Rattle.register.specs.Index.{no_entry, entry_at, entry_span, entry_row, index_rows, grown, EntryOk, Searchable}
use Rattle.ways.proofs.PartLaws.{span_same}

-- ---- one row more

pub rows_in_more : (index : List Entry) (out : List ℕ) (n : ℕ)
    → index_rows index out (n + 1) ≡ index_rows index out n ++ (entry_row out (entry_at index n) ∷ [])
unfolding index_rows
rows_in_more index out n = rw add-one refl

pub length_rows_in : (index : List Entry) (out : List ℕ) (n : ℕ) → length (index_rows index out n) ≡ n
unfolding index_rows
length_rows_in index out zero = refl
length_rows_in index out (suc n) =
    length-append (index_rows index out n) (entry_row out (entry_at index n) ∷ [])
    ∙ rw (length_rows_in index out n) (omega arith)

-- the rows one by one
map_append : {A B : Type 0} (f : A → B) (l m : List A) → map f (l ++ m) ≡ map f l ++ map f m
map_append f [] m = refl
map_append f (x ∷ l) m = ap (λ (k : List _). f x ∷ k) (map_append f l m)

pub rows_map : (index : List Entry) (out : List ℕ) (n : ℕ) → n ≤ length index
    → index_rows index out n ≡ map (entry_row out) (take n index)
unfolding index_rows
rows_map index out zero h = refl
rows_map index out (suc n) h =
    let last : take (n + 1) index ≡ take n index ++ (entry_at index n ∷ []) =
    take_more index n no_entry (omega arith) in
    rw (← add-one n, rows_map index out n (omega arith), last, map_append (entry_row out) (take n index) (entry_at index n ∷ [])) refl

-- the same rows one by one are the same rows
pub rows_in_ext : (index : List Entry) (out : List ℕ) (index' : List Entry) (out' : List ℕ) (n : ℕ)
    → ((j : ℕ) → j < n → entry_row out' (entry_at index' j) ≡ entry_row out (entry_at index j))
    → index_rows index' out' n ≡ index_rows index out n
unfolding index_rows
rows_in_ext index out index' out' zero same = refl
rows_in_ext index out index' out' (suc n) same =
    rw (rows_in_ext index out index' out' n (λ j h. same j (omega arith)), same n (omega arith)) refl

-- ---- entries

-- an entry stands before every later top
pub entry_later : (w : ℕ) (out : List ℕ) (top top' : ℕ) (e : Entry) → top ≤ top' → EntryOk w out top e
    → EntryOk w out top' e
entry_later w out top top' e h ok =
    record { rising = ok.rising; inside = omega (arith, ok.inside); tree = ok.tree; hash = ok.hash; key = ok.key }

-- the bytes below `top` are as they were
module _ (out out' : List ℕ) (top : ℕ) (ho : take top out' ≡ take top out) (e : Entry) (rising : e.start ≤ e.end)
    (inside : e.end ≤ top) where
  span_kept : entry_span out' e ≡ entry_span out e
  unfolding entry_span
  span_kept = span_same out out' top ho e.start e.end rising inside

  pub row_kept : entry_row out' e ≡ entry_row out e
  unfolding entry_row
  row_kept = rw span_kept refl

pub entry_kept : (out out' : List ℕ) (top : ℕ) → take top out' ≡ take top out → (w : ℕ) (e : Entry)
    → EntryOk w out top e → EntryOk w out' top e
entry_kept out out' top ho w e ok =
    let s = span_kept out out' top ho e ok.rising ok.inside in
    record {
      rising = ok.rising;
      inside = ok.inside;
      tree = rw s ok.tree;
      hash = rw s ok.hash;
      key = rw s ok.key;
    }

-- ---- a coefficient

-- another coefficient of an entry
pub entry_grown : (w c : ℕ) (out : List ℕ) (top : ℕ) (e : Entry) → EntryOk w out top e → EntryOk w out top (grown w c e)
unfolding grown entry_span
entry_grown w c out top e ok =
    record { rising = ok.rising; inside = ok.inside; tree = ok.tree; hash = ok.hash; key = ok.key }

pub entry_set_kept : (w c : ℕ) (out : List ℕ) (top : ℕ) (index : List Entry) (b k : ℕ) → b < length index
    → EntryOk w out top (entry_at index k) → EntryOk w out top (entry_at (set index b (grown w c (entry_at index b))) k)
entry_set_kept w c out top index b k low ok = go (ℕ_discrete k b)
  where
    new : Entry
    new = grown w c (entry_at index b)

    go : Dec (k ≡ b) → EntryOk w out top (entry_at (set index b new) k)
    go (yes e) = rw (e, get_or-set_same index b new no_entry low) (entry_grown w c out top _ (rw e at ok))
    go (no d) = rw (get_or-set_other index b k new no_entry d) ok

module _ (w : ℕ) (new : Row) where
  -- a row whose coefficient has grown
  abbrev more : Row → Row
  more x = record { provenance = x.provenance; tree = x.tree; coeff = mod_add x.coeff new.coeff w }

  add_row_front : (b : ℕ) (l : List Row) (x : Row) → b < length l
      → add_row w new b (l ++ (x ∷ [])) ≡ add_row w new b l ++ (x ∷ [])
  unfolding add_row
  add_row_front b [] x h = absurd (omega arith)
  add_row_front zero (y ∷ l) x h = refl
  add_row_front (suc b) (y ∷ l) x h = ap (λ (m : List Row). y ∷ m) (add_row_front b l x (omega arith))

  add_row_end : (b : ℕ) (l : List Row) (x : Row) → b ≡ length l → add_row w new b (l ++ (x ∷ [])) ≡ l ++ (more x ∷ [])
  unfolding add_row
  add_row_end zero [] x h = refl
  add_row_end (suc b) [] x h = absurd (omega arith)
  add_row_end zero (y ∷ l) x h = absurd (omega arith)
  add_row_end (suc b) (y ∷ l) x h = ap (λ (m : List Row). y ∷ m) (add_row_end b l x (omega arith))

  module _ (index : List Entry) (out : List ℕ) (b : ℕ) where
    abbrev added : List Entry
    added = set index b (grown w new.coeff (entry_at index b))

    row_other : (j : ℕ) → (j ≡ b → ⊥) → entry_row out (entry_at added j) ≡ entry_row out (entry_at index j)
    row_other j d =
        ap (entry_row out) (get_or-set_other index b j (grown w new.coeff (entry_at index b)) no_entry d)

    row_here : b < length index → entry_row out (entry_at added b) ≡ more (entry_row out (entry_at index b))
    unfolding grown entry_row entry_span
    row_here h =
        ap (entry_row out) (get_or-set_same index b (grown w new.coeff (entry_at index b)) no_entry h)

    pub rows_in_add : (n : ℕ) → b < n → n ≤ length index
        → index_rows added out n ≡ add_row w new b (index_rows index out n)
    unfolding index_rows
    rows_in_add zero h room = absurd (omega arith)
    rows_in_add (suc n) h room = go (ℕ_discrete b n) (rows_in_add n)
      where
        rows : List Row
        rows = index_rows index out n

        x : Row
        x = entry_row out (entry_at index n)

        go : Dec (b ≡ n) → (b < n → n ≤ length index → index_rows added out n ≡ add_row w new b rows)
            → index_rows added out n ++ (entry_row out (entry_at added n) ∷ []) ≡ add_row w new b (rows ++ (x ∷ []))
        go (yes e) below =
            let last : entry_row out (entry_at added n) ≡ more x =
            rw (← e) (row_here (omega arith)) in
            let before : index_rows added out n ≡ rows =
            rows_in_ext index out added out n (λ j k. row_other j (λ f. absurd (omega arith))) in
            rw (before, last) (sym (add_row_end b rows x (omega (arith, e, length_rows_in index out n))))
        go (no d) below =
            rw (below (omega (arith, d)) (omega arith), row_other n (λ e. d (sym e)))
            (sym (add_row_front b rows x (omega (arith, d, length_rows_in index out n))))

-- ---- searching

-- entries that stand in the slice may be searched
pub searchable : (w : ℕ) (index : List Entry) (out : List ℕ) (top n : ℕ)
    → ((j : ℕ) → j < n → EntryOk w out top (entry_at index j)) → top ≤ length out → n ≤ length index
    → Searchable index out n
searchable w index out top n entries h room =
    record {
      room = room;
      entries = λ j l.
          record {
            rising = (entries j l).rising;
            inside = omega (arith, (entries j l).inside);
            tree = sized_accepted w (entry_span out (entry_at index j)) (entries j l).tree;
          };
    }
