-- Laws of specs/Items.antt and specs/DecodeForm.antt: an atom at the front has room, the equations of the recursions
-- over atoms, and the term at the front.
use mathlib.Core.Path.{◌≡◌, refl, ◌∙◌}
use Prim.Native.Nat.{ℕ, zero, suc, ◌+◌, ◌-◌, ◌*◌, ◌≤◌, ◌<◌}
use native.Mathlib.Omega.{arith}
use native.Mathlib.Nat.{le_refl}
use mathlib.Core.List.{List, [], ◌∷◌}
use mathlib.Core.Bool.{Bool, true, false, ◌&&◌}
use lib.ListN.{length, drop, length-take, length-drop}
use lib.Dec.{eqb, leb}
use borrow.Author.Tests.{leb-true, eqb-true}
use Rattle.base.specs.Choice.{when}
use Rattle.base.proofs.BoolLaws.{and_true}
use Rattle.semilinear.specs.Items.{front_kind, front_number, atom_length, is_atom, tree_span, after_atom, atoms_f}
use Rattle.semilinear.specs.Items.{fold_atoms, is_term}
use Rattle.semilinear.specs.DecodeForm.{has_term, after_term, row_at, rows_f, rows_of}

-- what it says that an atom stands at the front
pub record Room (r : List ℕ) : Type 0 where
  pub big : 16 ≤ length r
  pub head : front_kind r ≡ 33
  pub fits : 16 + 16 * front_number r ≤ length r

pub atom_room : (r : List ℕ) → is_atom r ≡ true → Room r
unfolding is_atom atom_length
atom_room r e =
    let p = and_true (leb 16 (length r)) (eqb (front_kind r) 33 && leb (16 + 16 * front_number r) (length r)) e in
    let q = and_true (eqb (front_kind r) 33) (leb (16 + 16 * front_number r) (length r)) p.1 in
    record { big = leb-true 16 (length r) p.0; head = eqb-true _ _ q.0; fits = leb-true _ _ q.1 }

pub length_after_atom : (r : List ℕ) → length (after_atom r) ≡ length r - (16 + 16 * front_number r)
unfolding after_atom atom_length
length_after_atom r = length-drop (16 + 16 * front_number r) r

pub after_shorter : (r : List ℕ) → is_atom r ≡ true → length (after_atom r) < length r
after_shorter r e = let h = atom_room r e in omega (arith, length_after_atom r, h.big)

pub length_tree_span : (r : List ℕ) → is_atom r ≡ true → length (tree_span r) ≡ 16 * front_number r
unfolding tree_span
length_tree_span r e =
    let h = atom_room r e in
    simp (length-take, length-drop) (omega (arith, h.fits))

-- ---- recursion over the atoms at the front

module _ {A : Type 0} (done : List ℕ → A) (atom : List ℕ → A → A) where
  -- any count that reaches the length gives the same
  atoms_f_enough : (m n : ℕ) (r : List ℕ) → length r ≤ m → length r ≤ n → atoms_f done atom m r ≡ atoms_f done atom n r
  unfolding atoms_f
  atoms_f_enough zero zero r p q = refl
  atoms_f_enough zero (suc n) r p q = none (is_atom r) refl
    where
      none : (b : Bool) → is_atom r ≡ b
          → done r ≡ when (is_atom r) (λ _. atom r (atoms_f done atom n (after_atom r))) (λ _. done r)
      none true e = absurd (omega (arith, (atom_room r e).big))
      none false e = simp e
  atoms_f_enough (suc m) zero r p q = none (is_atom r) refl
    where
      none : (b : Bool) → is_atom r ≡ b
          → when (is_atom r) (λ _. atom r (atoms_f done atom m (after_atom r))) (λ _. done r) ≡ done r
      none true e = absurd (omega (arith, (atom_room r e).big))
      none false e = simp e
  atoms_f_enough (suc m) (suc n) r p q =
      go (is_atom r) refl
      (λ e. atoms_f_enough m n (after_atom r) (omega (arith, after_shorter r e)) (omega (arith, after_shorter r e)))
    where
      go : (b : Bool) → is_atom r ≡ b
          → (is_atom r ≡ true → atoms_f done atom m (after_atom r) ≡ atoms_f done atom n (after_atom r))
          → when (is_atom r) (λ _. atom r (atoms_f done atom m (after_atom r))) (λ _. done r)
          ≡ when (is_atom r) (λ _. atom r (atoms_f done atom n (after_atom r))) (λ _. done r)
      go true e below = simp (e, below e)
      go false e below = simp e

  pub fold_atom : (r : List ℕ) → is_atom r ≡ true
      → fold_atoms done atom r ≡ atom r (fold_atoms done atom (after_atom r))
  unfolding fold_atoms atoms_f
  fold_atom r e =
      atoms_f_enough (length r) (suc (length r)) r (le_refl _) (omega arith)
      ∙ simp (
        e,
        atoms_f_enough (length r) (length (after_atom r)) (after_atom r) (omega (arith, after_shorter r e)) (le_refl _),
      )

  pub fold_done : (r : List ℕ) → is_atom r ≡ false → fold_atoms done atom r ≡ done r
  unfolding fold_atoms atoms_f
  fold_done r e = atoms_f_enough (length r) (suc (length r)) r (le_refl _) (omega arith) ∙ simp e

-- induction over the atoms at the front, with the same two cases
module _ (P : List ℕ → Type 0) (done : (r : List ℕ) → is_atom r ≡ false → P r)
    (atom : (r : List ℕ) → is_atom r ≡ true → P (after_atom r) → P r) where
  ind_at : (n : ℕ) (r : List ℕ) → length r ≤ suc n → ((s : List ℕ) → length s ≤ n → P s)
      → (b : Bool) → is_atom r ≡ b → P r
  ind_at n r h below true e = atom r e (below (after_atom r) (omega (arith, after_shorter r e)))
  ind_at n r h below false e = done r e

  ind_none : (r : List ℕ) → length r ≤ zero → (b : Bool) → is_atom r ≡ b → P r
  ind_none r h true e = absurd (omega (arith, (atom_room r e).big))
  ind_none r h false e = done r e

  ind_to : (n : ℕ) (r : List ℕ) → length r ≤ n → P r
  ind_to zero r h = ind_none r h (is_atom r) refl
  ind_to (suc n) r h = ind_at n r h (ind_to n) (is_atom r) refl

  pub atoms_ind : (r : List ℕ) → P r
  atoms_ind r = ind_to (length r) r (le_refl _)

-- ---- the rows

rows_f_enough : (m n i : ℕ) (r q : List ℕ) → length r ≤ m → length r ≤ n → rows_f m i r q ≡ rows_f n i r q
unfolding rows_f
rows_f_enough zero zero i r q h k = refl
rows_f_enough zero (suc n) i r q h k = none (is_atom r) refl
  where
    none : (b : Bool) → is_atom r ≡ b
        → [] ≡ when (is_atom r) (λ _. row_at i r q ∷ rows_f n (i + 1) (after_atom r) (after_term i q)) (λ _. [])
    none true e = absurd (omega (arith, (atom_room r e).big))
    none false e = simp e
rows_f_enough (suc m) zero i r q h k = none (is_atom r) refl
  where
    none : (b : Bool) → is_atom r ≡ b
        → when (is_atom r) (λ _. row_at i r q ∷ rows_f m (i + 1) (after_atom r) (after_term i q)) (λ _. []) ≡ []
    none true e = absurd (omega (arith, (atom_room r e).big))
    none false e = simp e
rows_f_enough (suc m) (suc n) i r q h k =
    go (is_atom r) refl
    (λ e. rows_f_enough m n (i + 1) (after_atom r) (after_term i q) (omega (arith, after_shorter r e))
    (omega (arith, after_shorter r e)))
  where
    go : (b : Bool) → is_atom r ≡ b
        → (is_atom r ≡ true
        → rows_f m (i + 1) (after_atom r) (after_term i q) ≡ rows_f n (i + 1) (after_atom r) (after_term i q))
        → when (is_atom r) (λ _. row_at i r q ∷ rows_f m (i + 1) (after_atom r) (after_term i q)) (λ _. [])
        ≡ when (is_atom r) (λ _. row_at i r q ∷ rows_f n (i + 1) (after_atom r) (after_term i q)) (λ _. [])
    go true e below = simp (e, below e)
    go false e below = simp e

pub rows_atom : (i : ℕ) (r q : List ℕ) → is_atom r ≡ true
    → rows_of i r q ≡ row_at i r q ∷ rows_of (i + 1) (after_atom r) (after_term i q)
unfolding rows_of rows_f
rows_atom i r q e =
    rows_f_enough (length r) (suc (length r)) i r q (le_refl _) (omega arith)
    ∙ simp (
      e,
      rows_f_enough (length r) (length (after_atom r)) (i + 1) (after_atom r) (after_term i q)
          (omega (arith, after_shorter r e)) (le_refl _),
    )

pub rows_end : (i : ℕ) (r q : List ℕ) → is_atom r ≡ false → rows_of i r q ≡ []
unfolding rows_of rows_f
rows_end i r q e = rows_f_enough (length r) (suc (length r)) i r q (le_refl _) (omega arith) ∙ simp e

-- ---- terms

pub term_big : (q : List ℕ) → is_term q ≡ true → 16 ≤ length q
unfolding is_term
term_big q e = leb-true 16 (length q) (and_true (leb 16 (length q)) (eqb (front_kind q) 34) e).0

pub term_kind : (q : List ℕ) → is_term q ≡ true → front_kind q ≡ 34
unfolding is_term
term_kind q e = eqb-true _ _ (and_true (leb 16 (length q)) (eqb (front_kind q) 34) e).1

pub has_term_is : (i : ℕ) (q : List ℕ) → has_term i q ≡ true → (is_term q ≡ true) × (front_number q ≡ i)
unfolding has_term
has_term_is i q e =
    let p = and_true (is_term q) (eqb (front_number q) i) e in
    (p.0, eqb-true _ _ p.1)

-- the terms after atom i, by whether it has one
pub after_some : (i : ℕ) (q : List ℕ) → has_term i q ≡ true → after_term i q ≡ drop 16 q
unfolding after_term
after_some i q h = simp h

pub after_none : (i : ℕ) (q : List ℕ) → has_term i q ≡ false → after_term i q ≡ q
unfolding after_term
after_none i q h = simp h
