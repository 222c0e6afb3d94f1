-- Laws of the search for a tree by hash and bytes (specs/Search.antt): what holds after some atoms, and that it finds the
-- number of the first row with the tree.
use mathlib.Core.Path.{◌≡◌, refl, ap, sym, ◌∙◌}
use Prim.Native.Nat.{ℕ, ◌+◌, ◌^◌, ◌≤◌, ◌<◌}
use native.Mathlib.Omega.{arith}
use mathlib.Core.List.{List, [], ◌∷◌, ◌++◌}
use mathlib.Core.Bool.{Bool, true, false, ◌&&◌, and-false}
use lib.ListN.{length, drop, length-drop}
use lib.Seq.{drop-drop}
use lib.Dec.{eqb}
use borrow.Author.Tests.{eq-eqb, ne_eqb}
use Rattle.base.specs.Lists.{eq_list}
use Rattle.record.specs.Tree.{Tree, encode}
use Rattle.record.specs.Decode.{decode}
use Rattle.base.proofs.ListsLaws.{eq_of_eq_list}
use Rattle.expr.specs.Hash.{structural_hash}
use Rattle.semilinear.specs.Form.{Row, eq_tree, atom_bytes, atoms_bytes}
use Rattle.std.specs.Prelude.{Some, None}
use Rattle.semilinear.specs.Items.{front_word, atom_length, is_atom, tree_span, after_atom, atom_count}
use Rattle.semilinear.proofs.ItemsLaws.{atom_room, fold_atom, fold_done}
use Rattle.semilinear.proofs.FrontLaws.{atom_front, word_atom, tree_span_atom, after_atom_atom}
use Rattle.made.specs.Made.{Basis}
use Rattle.structure_laws.specs.RecoverStructure.{row_with}
use Rattle.bare.specs.Search.{atom_has, atom_with, IsAtomWith}
use Rattle.bare.proofs.HashBytesLaws.{same_hash}

-- ---- the test of one atom

module _ (hash : ℕ) (t r : List ℕ) {v : ℕ} (e : v ≡ front_word r) where
  pub tree_other : (v ≡ hash → ⊥) → eqb v hash ≡ atom_has hash t r
  unfolding atom_has
  tree_other n = ne_eqb v hash n ∙ sym (simp (ne_eqb (front_word r) hash (λ z. n (e ∙ z))))

  pub tree_same : v ≡ hash → {s : List ℕ} {b : Bool} → s ≡ tree_span r → b ≡ eq_list s t → b ≡ atom_has hash t r
  unfolding atom_has
  tree_same h es eb =
      eb ∙ ap (λ (s : List ℕ). eq_list s t) es ∙ sym (simp (eq-eqb (front_word r) hash (sym e ∙ h)))

-- ---- the walk over the atoms

module _ (hash : ℕ) (t : List ℕ) where
  with_none : (r : List ℕ) → is_atom r ≡ false → atom_with hash t r ≡ 0
  with_none r e = fold_done _ _ r e

  with_here : (r : List ℕ) → is_atom r ≡ true → atom_has hash t r ≡ true → atom_with hash t r ≡ 0
  with_here r e s = fold_atom _ _ r e ∙ simp s

  with_next : (r : List ℕ) → is_atom r ≡ true → atom_has hash t r ≡ false
      → atom_with hash t r ≡ 1 + atom_with hash t (after_atom r)
  with_next r e s = fold_atom _ _ r e ∙ simp s

  -- i atoms of the bytes f passed, to the place `at`, and the tree not found
  pub record Searched (f : List ℕ) (at i : ℕ) : Type 0 where
    pub inside : at ≤ length f
    pub bytes : i ≤ at
    pub rest : atom_with hash t f ≡ i + atom_with hash t (drop at f)
    pub count : atom_count f ≡ i + atom_count (drop at f)

  pub passed_none : (f : List ℕ) → Searched f 0 0
  passed_none f = record { inside = omega arith; bytes = omega arith; rest = omega arith; count = omega arith }

  module _ (f : List ℕ) (at i : ℕ) (h : Searched f at i) {r : List ℕ} (er : r ≡ drop at f) where
    pub passed_end : is_atom r ≡ false → IsAtomWith hash t f None
    passed_end e =
        let none : atom_count r ≡ 0 = fold_done _ _ r e in
        omega (arith, h.rest, ap (atom_with hash t) er, with_none r e, h.count, ap atom_count er, none)

    module _ (ea : is_atom r ≡ true) where
      count_next : atom_count r ≡ 1 + atom_count (after_atom r)
      count_next = fold_atom _ _ r ea

      pub passed_found : atom_has hash t r ≡ true → IsAtomWith hash t f (Some i)
      passed_found s = (
        omega (arith, h.rest, ap (atom_with hash t) er, with_here r ea s),
        omega (arith, h.count, ap atom_count er, count_next),
      )

      pub atom_inside : at + atom_length r ≤ length f
      unfolding atom_length
      atom_inside = omega (arith, (atom_room r ea).fits, ap length er, length-drop at f, h.inside)

      after_at : after_atom r ≡ drop (at + atom_length r) f
      unfolding after_atom
      after_at = ap (drop (atom_length r)) er ∙ drop-drop (atom_length r) at f

      pub passed_next : atom_has hash t r ≡ false → Searched f (at + atom_length r) (i + 1)
      unfolding atom_length
      passed_next s =
          record {
            inside = atom_inside;
            bytes = omega (arith, h.bytes);
            rest = omega (arith, h.rest, ap (atom_with hash t) er, with_next r ea s, ap (atom_with hash t) after_at);
            count = omega (arith, h.count, ap atom_count er, count_next, ap atom_count after_at);
          }

-- ---- the rows

row_here_lem : (w : ℕ) (t : Tree) (i : ℕ) (x : Row) (l : List Row) → eq_tree w x.tree t ≡ true
    → row_with w t i (x ∷ l) ≡ i
unfolding row_with
row_here_lem w t i x l e = simp e

row_next : (w : ℕ) (t : Tree) (i : ℕ) (x : Row) (l : List Row) → eq_tree w x.tree t ≡ false
    → row_with w t i (x ∷ l) ≡ row_with w t (i + 1) l
unfolding row_with
row_next w t i x l e = simp e

module _ (w hash : ℕ) (b : List ℕ) (basis : Basis w hash b) (word : hash < 2 ^ 64) where
  bytes_tree : (t : Tree) → eq_list (encode w t) b ≡ eq_tree w t (decode b)
  unfolding eq_tree
  bytes_tree t = ap (eq_list (encode w t)) (sym basis.same)

  module _ (x : Row) (l : List Row) where
    abbrev front : List ℕ
    front = atom_bytes w x.provenance x.tree ++ atoms_bytes w l

    span_bytes : eq_list (tree_span front) b ≡ eq_tree w x.tree (decode b)
    span_bytes =
        ap (λ (s : List ℕ). eq_list s b) (tree_span_atom w x.provenance x.tree (atoms_bytes w l))
        ∙ bytes_tree x.tree

    -- equal trees have equal hashes
    hash_front : eq_tree w x.tree (decode b) ≡ true → front_word front ≡ hash
    hash_front e =
        let bytes : encode w x.tree ≡ b = eq_of_eq_list (encode w x.tree) b (bytes_tree x.tree ∙ e) in
        let same : structural_hash x.tree ≡ hash =
        same_hash w x.tree (decode b) (bytes ∙ sym basis.same) ∙ sym basis.hashed in
        word_atom w x.provenance x.tree (atoms_bytes w l) (omega (arith, same, word)) ∙ same

    span_tree : atom_has hash b front ≡ eq_tree w x.tree (decode b)
    unfolding atom_has
    span_tree = go (eq_tree w x.tree (decode b)) refl
      where
        go : (s : Bool) → eq_tree w x.tree (decode b) ≡ s
            → eqb (front_word front) hash && eq_list (tree_span front) b ≡ eq_tree w x.tree (decode b)
        go true e = simp (eq-eqb (front_word front) hash (hash_front e), span_bytes)
        go false e = simp (span_bytes, e, and-false)

    with_row : (i : ℕ) → i + 1 + atom_with hash b (atoms_bytes w l) ≡ row_with w (decode b) (i + 1) l
        → i + atom_with hash b front ≡ row_with w (decode b) i (x ∷ l)
    with_row i below = go (eq_tree w x.tree (decode b)) refl
      where
        atom : is_atom front ≡ true
        atom = atom_front w x.provenance x.tree (atoms_bytes w l)

        after : after_atom front ≡ atoms_bytes w l
        after = after_atom_atom w x.provenance x.tree (atoms_bytes w l)

        go : (s : Bool) → eq_tree w x.tree (decode b) ≡ s → i + atom_with hash b front ≡ row_with w (decode b) i (x ∷ l)
        go true e = omega (arith, with_here hash b front atom (span_tree ∙ e), row_here_lem w (decode b) i x l e)
        go false e =
            omega (
              arith,
              with_next hash b front atom (span_tree ∙ e),
              ap (atom_with hash b) after,
              below,
              row_next w (decode b) i x l e,
            )

  none_front : is_atom [] ≡ false
  unfolding is_atom
  none_front = refl

  -- the bytes of the rows' atoms hold the tree where the rows do
  with_rows : (l : List Row) (i : ℕ) → i + atom_with hash b (atoms_bytes w l) ≡ row_with w (decode b) i l
  unfolding atoms_bytes row_with
  with_rows [] i = omega (arith, with_none hash b [] none_front)
  with_rows (x ∷ l) i = with_row x l i (with_rows l (i + 1))

  -- as many as the rows
  pub count_atoms : (l : List Row) → atom_count (atoms_bytes w l) ≡ length l
  unfolding atoms_bytes
  count_atoms [] = fold_done _ _ [] none_front
  count_atoms (x ∷ l) =
      let r : List ℕ = atom_bytes w x.provenance x.tree ++ atoms_bytes w l in
      let next : atom_count r ≡ 1 + atom_count (after_atom r) =
      fold_atom _ _ r (atom_front w x.provenance x.tree (atoms_bytes w l)) in
      omega (arith, next, ap atom_count (after_atom_atom w x.provenance x.tree (atoms_bytes w l)), count_atoms l)

  pub row_found : (l : List Row) → atom_with hash b (atoms_bytes w l) ≡ row_with w (decode b) 0 l
  row_found l = omega (arith, with_rows l 0)
