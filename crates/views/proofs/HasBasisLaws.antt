-- Laws of what is asked of the array (specs/Views.antt): a test by hash and bytes is equality of the bases' trees.
use mathlib.Core.Path.{◌≡◌, refl, ap, sym, ◌∙◌}
use Prim.Native.Nat.{ℕ, ◌≤◌}
use native.Mathlib.Omega.{arith}
use native.Mathlib.Decide.{ℕ_discrete}
use mathlib.Core.List.{List}
use mathlib.Core.Bool.{Bool, true, false}
use lib.ListN.{length}
use borrow.Author.Tests.{eq-eqb, ne_eqb}
use Rattle.std.specs.Prelude.{Option, Some, None, is_some}
use Rattle.base.specs.Lists.{eq_list}
use Rattle.record.specs.Tree.{Tree, encode}
use Rattle.record.specs.Decode.{decode}
use Rattle.base.proofs.ListsLaws.{eq_of_eq_list}
use Rattle.expr.specs.Hash.{structural_hash}
use Rattle.semilinear.specs.Form.{Row, eq_tree}
use Rattle.views.specs.declared.View.{View}
use Rattle.made.specs.Made.{Basis}
use Rattle.views.specs.Views.{found_at, view_at, basis_bytes, InGroup, Views, Readable, has_basis}
use Rattle.views.proofs.ViewsLaws.{found_case}

-- fewer rows
pub readable_fewer : {f : List ℕ} {views : List (Option View)} {n : ℕ} → Readable f views n → (m : ℕ) → m ≤ n → Readable f views m
readable_fewer s m h =
    record {
      room = omega (arith, s.room);
      start_le = λ i l. s.start_le i (omega arith);
      end_le = λ i l. s.end_le i (omega arith);
    }

-- the views of rows are
pub readable : {only : Tree → Bool} {w : ℕ} {f : List ℕ} {views : List (Option View)} {rows : List Row}
    → Views only w f views rows → Readable f views (length rows)
readable {only} {w} {f} {views} {rows} h =
    record {
      room = h.room;
      start_le = λ i l v s. ((h.each i l).in_group v s).start_le;
      end_le = λ i l v s. ((h.each i l).in_group v s).end_le;
    }

-- ---- the test

-- a row in no group has no basis
pub basis_ungrouped : (f : List ℕ) (found : Option View) (hash : ℕ) (b : List ℕ) → found ≡ None
    → has_basis f found hash b ≡ false
unfolding has_basis
basis_ungrouped f found hash b e = simp e

-- one that has a basis is in a group
pub basis_grouped : (f : List ℕ) (found : Option View) (hash : ℕ) (b : List ℕ) → has_basis f found hash b ≡ true
    → is_some found ≡ true
unfolding has_basis
basis_grouped f None hash b e = e
basis_grouped f (Some v) hash b e = refl

module _ (f : List ℕ) (v : View) (hash : ℕ) (b : List ℕ) where
  pub basis_other : (v.hash ≡ hash → ⊥) → has_basis f (Some v) hash b ≡ false
  unfolding has_basis
  basis_other n = simp (ne_eqb v.hash hash n)

  pub basis_same : v.hash ≡ hash → has_basis f (Some v) hash b ≡ eq_list (basis_bytes f v) b
  unfolding has_basis
  basis_same e = simp (eq-eqb v.hash hash e)

  module _ (w : ℕ) (g : InGroup w f v) (o : Basis w hash b) where
    bytes_tree : eq_tree w (decode (basis_bytes f v)) (decode b) ≡ eq_list (basis_bytes f v) b
    unfolding eq_tree
    bytes_tree = ap (λ (l : List ℕ). eq_list l (encode w (decode b))) g.basis.same ∙ ap (eq_list (basis_bytes f v))
        o.same

    -- equal trees have equal hashes
    pub tree_hash : eq_tree w (decode (basis_bytes f v)) (decode b) ≡ true → v.hash ≡ hash
    tree_hash e =
        g.basis.hashed
        ∙ ap (λ (l : List ℕ). structural_hash (decode l)) (eq_of_eq_list (basis_bytes f v) b (sym bytes_tree ∙ e))
        ∙ sym o.hashed

    pub basis_tree : has_basis f (Some v) hash b ≡ eq_tree w (decode (basis_bytes f v)) (decode b)
    basis_tree = go (ℕ_discrete v.hash hash) (eq_tree w (decode (basis_bytes f v)) (decode b)) refl
      where
        go : Dec (v.hash ≡ hash) → (x : Bool) → eq_tree w (decode (basis_bytes f v)) (decode b) ≡ x
            → has_basis f (Some v) hash b ≡ eq_tree w (decode (basis_bytes f v)) (decode b)
        go (yes e) x p = basis_same e ∙ sym bytes_tree
        go (no m) true p = absurd (m (tree_hash p))
        go (no m) false p = basis_other m ∙ sym p

-- a row with another hash has another basis
pub other_hash : (f : List ℕ) (views : List (Option View)) (x hash : ℕ) (b : List ℕ) → ((view_at views x).hash ≡ hash → ⊥)
    → has_basis f (found_at views x) hash b ≡ false
other_hash f views x hash b n =
    found_case views x (λ z. basis_ungrouped f (found_at views x) hash b z)
    (λ s. rw s (basis_other f (view_at views x) hash b n))
