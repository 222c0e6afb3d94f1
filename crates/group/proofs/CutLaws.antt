-- Laws of the cut of masks (specs/Steps.antt) as the code does it: the two ways through a turn, the whole loop, and that
-- nothing changes where no mask is cut.
use Rattle.made.specs.declared.Made.{Made}
use mathlib.Core.Path.{◌≡◌, refl, ap, sym, subst, ◌∙◌}
use Prim.Native.Nat.{ℕ, ◌<◌}
use native.Mathlib.Omega.{arith}
use mathlib.Core.List.{List}
use mathlib.Core.Bool.{Bool, true, false, not, ◌&&◌}
use lib.ListN.{length, get_or}
use lib.Dec.{eqb}
use borrow.Author.Tests.{eq-eqb, ne_eqb}
use Rattle.arith.specs.Effective.{reduce_mask}
use Rattle.base.specs.Choice.{when}
use Rattle.record.specs.Tree.{Tree}
use Rattle.base.proofs.LoopLaws.{for_same}
use Rattle.group.specs.declared.Group.{Group}
use Rattle.semilinear.specs.Form.{Row}
use Rattle.base.specs.Loop.{for_in}
use Rattle.group.specs.Group.{Entry, at, put_entry, is_live, work}
use Rattle.made.specs.Rows.{create_masked}
use Rattle.group.specs.Steps.{remasked, cut_at, cut_masks}
use Rattle.made.specs.Made.{Room, Held, Grew}
use Rattle.group.specs.Made.{Stands, Stepped}
use Rattle.entries.specs.Tests.{cut_of}
use Rattle.group.proofs.SteppedLaws.{later_none, stepped_of, stepped_as}

-- the mask of an entry as the code cuts it
abbrev pub cut_entry : ℕ → Group → ℕ → ℕ
cut_entry w g i = cut_of (at g i) w

-- the definition's test is the code's
module _ (w : ℕ) (e : Entry) where
  abbrev reduced : ℕ
  reduced = reduce_mask e.coeff e.mask w

  test_same : cut_of e w ≡ e.mask → (is_live e && not (eqb reduced e.mask)) ≡ false
  unfolding cut_of
  test_same = go (is_live e)
    where
      go : (b : Bool) → when b (λ _. reduced) (λ _. e.mask) ≡ e.mask → (b && not (eqb reduced e.mask)) ≡ false
      go false h = refl
      go true h = simp (eq-eqb reduced e.mask h)

  test_cut : (cut_of e w ≡ e.mask → ⊥) → ((is_live e && not (eqb reduced e.mask)) ≡ true) × (reduced ≡ cut_of e w)
  unfolding cut_of
  test_cut = go (is_live e)
    where
      go : (b : Bool) → (when b (λ _. reduced) (λ _. e.mask) ≡ e.mask → ⊥)
          → ((b && not (eqb reduced e.mask)) ≡ true) × (reduced ≡ when b (λ _. reduced) (λ _. e.mask))
      go false h = absurd (h refl)
      go true h = (simp (ne_eqb reduced e.mask h), refl)

-- the group after a cut
abbrev pub cut_group : ℕ → Group → ℕ → ℕ → Group
cut_group i g m n = put_entry g i (remasked (at g i) m n)

module _ (w : ℕ) (t : Tree) (i : ℕ) (g : Group) (l : List Row) where
  cut_at_same : cut_entry w g i ≡ (at g i).mask → cut_at w t i (work g l) ≡ work g l
  unfolding cut_at work
  cut_at_same h = simp (test_same w (at g i) h)

  cut_at_cut : (cut_entry w g i ≡ (at g i).mask → ⊥)
      → cut_at w t i (work g l)
      ≡ work (cut_group i g (cut_entry w g i) (length l)) (create_masked w t (cut_entry w g i) l)
  unfolding cut_at work
  cut_at_cut h =
      let p = test_cut w (at g i) h in
      let made : cut_at w t i (work g l)
      ≡ work (cut_group i g (reduced w (at g i)) (length l)) (create_masked w t (reduced w (at g i)) l) =
      simp p.0 in
      made ∙ ap (λ (k : ℕ). work (cut_group i g k (length l)) (create_masked w t k l)) p.1

-- ---- a turn

-- the ways through a turn of the code; the equations are what the code knows where they meet
module _ {w : ℕ} (t : Tree) (i : ℕ) {g r : Group} {m : ℕ} {made : Made} {out : List ℕ} {made' : Made} {out' : List ℕ} (e : m ≡ cut_entry w g i) where
  pub turn_same : m ≡ (at g i).mask → Room made out → made' ≡ made → out' ≡ out → r ≡ g
      → Stepped w 1 (cut_at w t i) g made out r made' out'
  unfolding work
  turn_same h room em eo er =
      rw (em, eo, er)
      (stepped_of room later_none refl refl
      (λ l held.
      subst (Stands w g made out) (sym (cut_at_same w t i g l (sym e ∙ h))) (record { same = refl; held = held })))

  pub turn_cut : (m ≡ (at g i).mask → ⊥) → {made'' : Made} {out'' : List ℕ}
      → Grew w 1 (create_masked w t m) made out made'' out'' → made' ≡ made'' → out' ≡ out''
      → r ≡ cut_group i g m made.rows → Stepped w 1 (cut_at w t i) g made out r made' out'
  unfolding work put_entry
  turn_cut h {made''} {out''} grew em eo er =
      rw (em, eo)
      (stepped_of grew.room grew.later grew.long (ap (λ (k : Group). k.len) er)
      (λ l held.
      subst (Stands w r made'' out'') (sym (cut_at_cut w t i g l (λ d. h (e ∙ d))))
      (record {
        same = er ∙ ap (λ (n : ℕ). cut_group i g m n) held.rows ∙ ap (λ (k : ℕ). cut_group i g k (length l)) e;
        held = subst (λ (c : ℕ). Held w made'' out'' (create_masked w t c l)) e (grew.held l held);
      })))

-- ---- the loop

-- the loop over the group's length is the step
pub cut_loop : {w n : ℕ} (t : Tree) {g r : Group} {made : Made} {out : List ℕ} {made' : Made} {out' : List ℕ}
    → Stepped w n (for_in (cut_at w t) 0 g.len) g made out r made' out'
    → Stepped w n (cut_masks w t) g made out r made' out'
unfolding cut_masks
cut_loop {w} t {g} p =
    stepped_as (omega arith) (λ x e. ap (λ (k : Group). for_in (cut_at w t) 0 k.len x) e) p

-- no mask is cut: the step changes nothing
pub cut_none : {w n : ℕ} (t : Tree) {g : Group} {made : Made} {out : List ℕ}
    → ((i : ℕ) → i < g.len → cut_entry w g i ≡ (at g i).mask) → Room made out
    → Stepped w n (cut_masks w t) g made out g made out
unfolding cut_masks work
cut_none {w} t {g} {made} {out} h room =
    stepped_of room later_none refl refl
    (λ l held.
    subst (Stands w g made out)
    (sym (for_same (cut_at w t) 0 g.len (work g l) (λ i _ u. cut_at_same w t i g l (h i u))))
    (record { same = refl; held = held }))
