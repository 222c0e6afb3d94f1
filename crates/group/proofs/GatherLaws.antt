-- Laws of the group that the words give (specs/Gathered.antt): a turn of the loop, how many entries there are, and that
-- it is the group of the basis (specs/Group.antt).
use mathlib.Core.Path.{◌≡◌, refl, ap, sym, ◌∙◌}
use Prim.Native.Nat.{ℕ, ◌+◌, ◌≤◌, ◌<◌}
use native.Mathlib.Omega.{arith}
use native.Mathlib.Decide.{ℕ_discrete}
use mathlib.Core.List.{List, ◌∷◌}
use mathlib.Core.Bool.{Bool, true, false}
use lib.ListN.{length, get_or}
use Rattle.base.specs.Loop.{for_in}
use Rattle.record.specs.Tree.{Tree}
use Rattle.record.specs.Decode.{decode}
use Rattle.base.proofs.LoopLaws.{for_ind}
use Rattle.semilinear.specs.Form.{Row, eq_tree}
use Rattle.group.specs.declared.Group.{Group}
use Rattle.group.specs.Group.{Entry, at, empty_group, push_entry, group_of}
use Rattle.made.specs.Made.{Basis}
use Rattle.std.specs.Prelude.{Option, Some, None}
use Rattle.views.specs.declared.View.{View}
use Rattle.views.specs.Views.{found_at, view_at, basis_bytes, blank_row, Views, has_basis}
use Rattle.group.specs.Gathered.{gather_at, gathered}
use Rattle.group.proofs.EntryLaws.{Sized, sized_push, sized_empty, at_push, at_push_other}
use Rattle.group.proofs.TotalLaws.{len_push}
use Rattle.group.proofs.GroupOfLaws.{group_no_basis, group_same, group_other}
use Rattle.views.proofs.ViewsLaws.{found_case, row_no_basis, row_masked}
use Rattle.views.proofs.HasBasisLaws.{basis_ungrouped, basis_tree}
use Rattle.views.proofs.FirstRowsLaws.{rows_loop}

module _ (f : List ℕ) (views : List (Option View)) (hash : ℕ) (b : List ℕ) where
  module _ (i : ℕ) (g : Group) where
    pub gather_same : has_basis f (found_at views i) hash b ≡ false → gather_at f views hash b i g ≡ g
    unfolding gather_at
    gather_same e = simp e

    pub gather_push : has_basis f (found_at views i) hash b ≡ true
        → gather_at f views hash b i g ≡ push_entry g (view_at views i).coeff (view_at views i).mask i
    unfolding gather_at
    gather_push e = simp e

    gather_len : g.len ≤ i → (gather_at f views hash b i g).len ≤ i + 1
    unfolding push_entry
    gather_len h = go (has_basis f (found_at views i) hash b) refl
      where
        go : (x : Bool) → has_basis f (found_at views i) hash b ≡ x → (gather_at f views hash b i g).len ≤ i + 1
        go true e = rw (gather_push e) (omega arith)
        go false e = rw (gather_same e) (omega arith)

  -- at most one entry for each row
  gathered_few : (n : ℕ) → (for_in (gather_at f views hash b) 0 n empty_group).len ≤ n
  unfolding empty_group
  gathered_few n =
      for_ind (λ (k : ℕ) (g : Group). g.len ≤ k) (gather_at f views hash b) 0 empty_group n (omega arith)
      (λ i g a u h. gather_len i g h) (omega arith)

  pub few_entries : (n : ℕ) {g : Group} → g ≡ for_in (gather_at f views hash b) 0 n empty_group → g.len ≤ n
  few_entries n e = rw e (gathered_few n)

  pub len_gathered : (n : ℕ) → (gathered f views hash b n).len ≤ n
  unfolding gathered
  len_gathered n = gathered_few n

  -- the atom of each entry is the number of a row
  record Numbered (i : ℕ) (g : Group) : Type 0 where
    sized : Sized g
    few : g.len ≤ i
    below : (k : ℕ) → k < g.len → (at g k).atom < i

  numbered_push : (i c m : ℕ) (g : Group) → i < 256 → Numbered i g → Numbered (i + 1) (push_entry g c m i)
  numbered_push i c m g lt h =
      record {
        sized = sized_push g c m i h.sized room;
        few = omega (arith, h.few, len_push g c m i);
        below = λ k lk. go k (ℕ_discrete k g.len) (omega (arith, lk, len_push g c m i));
      }
    where
      room : g.len < 256
      room = omega (arith, h.few)

      go : (k : ℕ) → Dec (k ≡ g.len) → k < g.len + 1 → (at (push_entry g c m i) k).atom < i + 1
      go k (yes e) lk =
          let new : (at (push_entry g c m i) k).atom ≡ i =
          ap (λ (n : ℕ). (at (push_entry g c m i) n).atom) e
          ∙ ap (λ (x : Entry). x.atom) (at_push g c m i h.sized room) in
          omega (arith, new)
      go k (no e) lk =
          let old : (at (push_entry g c m i) k).atom ≡ (at g k).atom =
          ap (λ (x : Entry). x.atom) (at_push_other g c m i k e) in
          omega (arith, old, h.below k (omega arith))

  gather_numbered : (i : ℕ) (g : Group) → i < 256 → Numbered i g → Numbered (i + 1) (gather_at f views hash b i g)
  gather_numbered i g lt h = go (has_basis f (found_at views i) hash b) refl
    where
      go : (x : Bool) → has_basis f (found_at views i) hash b ≡ x → Numbered (i + 1) (gather_at f views hash b i g)
      go true e = rw (gather_push i g e) (numbered_push i (view_at views i).coeff (view_at views i).mask g lt h)
      go false e =
          rw (gather_same i g e) record {
            sized = h.sized;
            few = omega (arith, h.few);
            below = λ k lk. omega (arith, h.below k lk);
          }

  pub gathered_atoms : (n : ℕ) → n ≤ 256 → (k : ℕ) → k < (gathered f views hash b n).len
      → (at (gathered f views hash b n) k).atom < n
  unfolding gathered empty_group
  gathered_atoms n most =
      (for_ind Numbered (gather_at f views hash b) 0 empty_group n (omega arith)
      (λ i g a u h. gather_numbered i g (omega arith) h)
      (record { sized = sized_empty; few = omega arith; below = λ k lk. absurd (omega (arith, lk)) })).below

  -- the group of the basis
  module _ (only : Tree → Bool) (w : ℕ) (rows : List Row) (h : Views only w f views rows) (o : Basis w hash b) where
    turn : (k : ℕ) (g : Group) → k < length rows → (l : List Row)
        → group_of only w (decode b) k (get_or rows k blank_row ∷ l) g
        ≡ group_of only w (decode b) (k + 1) l (gather_at f views hash b k g)
    turn k g lt l =
        found_case views k none
        (λ s. some s (eq_tree w (decode (basis_bytes f (view_at views k))) (decode b)) refl)
      where
        x : Row
        x = get_or rows k blank_row

        none : found_at views k ≡ None
            → group_of only w (decode b) k (get_or rows k blank_row ∷ l) g
            ≡ group_of only w (decode b) (k + 1) l (gather_at f views hash b k g)
        none z =
            group_no_basis only w (decode b) k x l g (row_no_basis only w f x (h.each k lt) z)
            ∙ ap (group_of only w (decode b) (k + 1) l)
            (sym (gather_same k g (basis_ungrouped f (found_at views k) hash b z)))

        same : found_at views k ≡ Some (view_at views k)
            → has_basis f (found_at views k) hash b ≡ eq_tree w (decode (basis_bytes f (view_at views k))) (decode b)
        same s =
            ap (λ (v : Option View). has_basis f v hash b) s
            ∙ basis_tree f (view_at views k) hash b w ((h.each k lt).in_group _ s) o

        some : found_at views k ≡ Some (view_at views k) → (y : Bool)
            → eq_tree w (decode (basis_bytes f (view_at views k))) (decode b) ≡ y
            → group_of only w (decode b) k (get_or rows k blank_row ∷ l) g
            ≡ group_of only w (decode b) (k + 1) l (gather_at f views hash b k g)
        some s true e =
            group_same only w (decode b) k x l g (row_masked only w f x (h.each k lt) s) e
            ∙ ap (λ (c : ℕ). group_of only w (decode b) (k + 1) l (push_entry g c (view_at views k).mask k))
            (sym ((h.each k lt).coeff _ s))
            ∙ ap (group_of only w (decode b) (k + 1) l) (sym (gather_push k g (same s ∙ e)))
        some s false e =
            group_other only w (decode b) k x l g (row_masked only w f x (h.each k lt) s) e
            ∙ ap (group_of only w (decode b) (k + 1) l) (sym (gather_same k g (same s ∙ e)))

    pub gather_group : gathered f views hash b (length rows) ≡ group_of only w (decode b) 0 rows empty_group
    unfolding gathered group_of
    gather_group =
        sym
        (rows_loop rows (group_of only w (decode b)) (gather_at f views hash b) (λ (k : ℕ) (g : Group). Unit {0})
        (λ k g lt q. tt) (λ k g lt q l. turn k g lt l) empty_group tt)
