-- Laws of moving a profile on by one place (specs/Profile.antt): what holds after the words of some atoms, and that the
-- moved profile of the place before is that of the place.
use mathlib.Core.Path.{◌≡◌, refl, ap, sym, ◌∙◌}
use Prim.Native.Nat.{ℕ, zero, suc, ◌+◌, ◌≤◌, ◌<◌}
use native.Mathlib.Omega.{arith}
use native.Mathlib.Decide.{ℕ_discrete}
use mathlib.Core.List.{List, [], ◌∷◌}
use mathlib.Core.Bool.{true, false}
use lib.ListN.{length, get_or, set, length-set}
use lib.Seq.{get_or-set_same, get_or-set_other}
use borrow.Author.Tests.{eq-eqb, ne_eqb}
use Rattle.arith.specs.Bit.{bit_at}
use Rattle.record.specs.Tree.{Tree}
use Rattle.record.specs.Tree.Tree.{Constant}
use Rattle.record.specs.Decode.{decode}
use Rattle.semilinear.specs.Items.{is_atom, tree_span, after_atom}
use Rattle.semilinear.specs.DecodeForm.{after_term, row_at, rows_of}
use Rattle.semilinear.proofs.ItemsLaws.{fold_atom, fold_done, atoms_ind, rows_atom, rows_end}
use Rattle.partition_laws.specs.Partition.{profile_word}
use Rattle.partition_laws.specs.Columns.{row_tree}
use Rattle.profile.specs.Edges.{atom_edges}
use Rattle.profile.specs.Index.{atom_trees, tree_of}
use Rattle.profile.specs.Profile.{moved_word, WordsMoved}

module _ (w p i : ℕ) (t : Tree) (x : ℕ) where
  pub moved_edge : bit_at (atom_edges t) p ≡ 1 → moved_word w p i t x ≡ profile_word w p i t
  unfolding moved_word
  moved_edge e = simp (eq-eqb (bit_at (atom_edges t) p) 1 e)

  pub moved_still : (bit_at (atom_edges t) p ≡ 1 → ⊥) → moved_word w p i t x ≡ x
  unfolding moved_word
  moved_still d = simp (ne_eqb (bit_at (atom_edges t) p) 1 d)

-- ---- the words of the first i atoms were moved

pub record Moving (f : List ℕ) (w p : ℕ) (before after : List ℕ) (i : ℕ) : Type 0 where
  pub long : length after ≡ length before
  pub done : (j : ℕ) → j < i → get_or after j 0 ≡ moved_word w p j (tree_of f j) (get_or before j 0)
  pub left : (j : ℕ) → i ≤ j → get_or after j 0 ≡ get_or before j 0

module _ (f : List ℕ) (w p : ℕ) (before : List ℕ) where
  pub moving_none : Moving f w p before before 0
  moving_none = record { long = refl; done = λ j h. absurd (omega arith); left = λ j h. refl }

  pub moving_all : (after : List ℕ) (i : ℕ) → length before ≤ i → Moving f w p before after i
      → WordsMoved f w p before after
  moving_all after i h m = record { long = m.long; word = λ j l. m.done j (omega arith) }

  module _ (after : List ℕ) (i : ℕ) (hi : i < length before) (m : Moving f w p before after i) where
    pub moving_still : (bit_at (atom_edges (tree_of f i)) p ≡ 1 → ⊥) → {after' : List ℕ} → after' ≡ after
        → Moving f w p before after' (i + 1)
    moving_still d {after'} e =
        rw e record { long = m.long; done = λ j l. go j l (ℕ_discrete j i); left = λ j l. m.left j (omega arith) }
      where
        go : (j : ℕ) → j < i + 1 → Dec (j ≡ i) → get_or after j 0 ≡ moved_word w p j (tree_of f j) (get_or before j 0)
        go j l (yes q) =
            rw q (m.left i (omega arith) ∙ sym (moved_still w p i (tree_of f i) (get_or before i 0) d))
        go j l (no q) = m.done j (omega arith)

    pub moving_edge : bit_at (atom_edges (tree_of f i)) p ≡ 1 → {x : ℕ} → x ≡ profile_word w p i (tree_of f i)
        → {after' : List ℕ} → after' ≡ set after i x → Moving f w p before after' (i + 1)
    moving_edge b {x} hx {after'} e =
        rw e
        record {
          long = length-set after i x ∙ m.long;
          done = λ j l. go j l (ℕ_discrete j i);
          left = λ j l. get_or-set_other after i j x 0 (omega arith) ∙ m.left j (omega arith);
        }
      where
        go : (j : ℕ) → j < i + 1 → Dec (j ≡ i)
            → get_or (set after i x) j 0 ≡ moved_word w p j (tree_of f j) (get_or before j 0)
        go j l (yes q) =
            rw q
            (get_or-set_same after i x 0 (omega (arith, m.long))
            ∙ hx
            ∙ sym (moved_edge w p i (tree_of f i) (get_or before i 0) b))
        go j l (no q) = get_or-set_other after i j x 0 q ∙ m.done j (omega arith)

-- ---- the trees of a form's rows

abbrev Same : List ℕ → Type 0
Same r =
    (i : ℕ) (q : List ℕ)
    → (length (rows_of i r q) ≡ length (atom_trees r)) × ((j : ℕ) → row_tree (rows_of i r q) j ≡ tree_of r j)

rows_none : (r : List ℕ) → is_atom r ≡ false → Same r
unfolding row_tree
rows_none r e i q = rw (rows_end i r q e, fold_done (λ x. []) (λ x l. decode (tree_span x) ∷ l) r e) (refl, λ j. refl)

rows_more : (r : List ℕ) → is_atom r ≡ true → Same (after_atom r) → Same r
unfolding row_tree row_at
rows_more r e below i q =
    let b = below (i + 1) (after_term i q) in
    rw (rows_atom i r q e, fold_atom (λ x. []) (λ x l. decode (tree_span x) ∷ l) r e) (ap suc b.0, at b.1)
  where
    at : ((j : ℕ) → row_tree (rows_of (i + 1) (after_atom r) (after_term i q)) j ≡ tree_of (after_atom r) j) → (j : ℕ)
        → row_tree (row_at i r q ∷ rows_of (i + 1) (after_atom r) (after_term i q)) j
        ≡ get_or (decode (tree_span r) ∷ atom_trees (after_atom r)) j (Constant 0)
    at b zero = refl
    at b (suc j) = b j

rows_same : (r : List ℕ) → Same r
rows_same = atoms_ind Same rows_none rows_more

module _ (f q : List ℕ) where
  pub rows_length : length (rows_of 0 f q) ≡ length (atom_trees f)
  rows_length = (rows_same f 0 q).0

  pub rows_tree : (j : ℕ) → row_tree (rows_of 0 f q) j ≡ tree_of f j
  rows_tree = (rows_same f 0 q).1
