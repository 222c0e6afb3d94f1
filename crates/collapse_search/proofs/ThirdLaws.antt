-- Laws of the search for the third entry of a collapse along the links (specs/Links.antt).
use mathlib.Core.Path.{◌≡◌, refl, ap, sym, ◌∙◌}
use Prim.Native.Nat.{ℕ, ◌+◌, ◌≤◌, ◌<◌}
use native.Mathlib.Omega.{arith}
use mathlib.Core.List.{List}
use mathlib.Core.Bool.{Bool, true, false, not, ◌&&◌}
use lib.ListN.{get_or}
use lib.Bits.{bit_and}
use lib.Dec.{eqb}
use borrow.Author.Tests.{eq-eqb, eqb-true}
use Rattle.arith.specs.Width.{mod_add}
use Rattle.base.specs.Loop.{first_in}
use Rattle.base.proofs.BoolLaws.{and_true}
use Rattle.base.proofs.LoopLaws.{first_from, first_le, first_true, first_next, first_here, first_end}
use Rattle.group.specs.declared.Group.{Group}
use Rattle.group.specs.Group.{at, is_live}
use Rattle.group.specs.Collapse.{third_fits, find_third}
use Rattle.collapse_search.specs.Links.{fold_of, apart_of, apart_at, link_fits, Linked, rest_of, third_in}
use Rattle.group.proofs.SearchLaws.{first_implied}
use Rattle.collapse_search.proofs.LinksLaws.{fold_below}

-- the definition's tests in the code's order
rest_order : (a b e y : Bool) → (not a && (not b && (e && y))) ≡ (e && (y && (not a && not b)))
rest_order true b false y = refl
rest_order true b true false = refl
rest_order true b true true = refl
rest_order false true false y = refl
rest_order false true true false = refl
rest_order false true true true = refl
rest_order false false false y = refl
rest_order false false true false = refl
rest_order false false true true = refl

module _ (w : ℕ) (g : Group) (i j : ℕ) where
  -- the mask of i, and the sum of the coefficients
  abbrev mask_of : ℕ → ℕ
  mask_of k = (at g k).mask

  abbrev sum : ℕ
  sum = mod_add (at g i).coeff (at g j).coeff w

  -- a third entry is linked at the fold of the sum
  third_linked : (k : ℕ) → third_fits w g i j k ≡ true → link_fits g (mask_of i) (fold_of sum) k ≡ true
  unfolding third_fits link_fits apart_of
  third_linked k t =
      let p = and_true (not (eqb k i)) _ t in
      let q = and_true (not (eqb k j)) _ p.1 in
      let r = and_true (is_live (at g k)) _ q.1 in
      let s = and_true (eqb (at g k).coeff sum) _ r.1 in
      let u = and_true (eqb (bit_and (mask_of i) (mask_of k)) 0) _ s.1 in
      simp (r.0, u.0, eq-eqb (fold_of (at g k).coeff) (fold_of sum) (ap fold_of (eqb-true _ _ s.0)))

  pub third_apart : (k : ℕ) → third_fits w g i j k ≡ true → apart_at g (mask_of i) k ≡ true
  unfolding link_fits
  third_apart k t = (and_true (apart_at g (mask_of i) k) _ (third_linked k t)).0

  -- what is left to ask of a linked entry
  third_rest : (k : ℕ) → apart_at g (mask_of i) k ≡ true
      → third_fits w g i j k ≡ rest_of k i j (at g k) sum (mask_of j)
  unfolding third_fits apart_of rest_of
  third_rest k e =
      let p = and_true (eqb (bit_and (mask_of i) (mask_of k)) 0) (is_live (at g k)) e in
      rw (p.0, p.1)
      (rest_order (eqb k i) (eqb k j) (eqb (at g k).coeff sum) (eqb (bit_and (mask_of j) (mask_of k)) 0))

  pub third_dead : is_live (at g j) ≡ false → g.len ≡ third_in w g i j
  unfolding third_in
  third_dead e = sym (simp e)

  third_live : is_live (at g j) ≡ true → third_in w g i j ≡ find_third w g i j
  unfolding third_in
  third_live e = simp e

-- the search for a third entry has come to k, along the links of the fold h
pub record Chased (w : ℕ) (g : Group) (i j h k : ℕ) : Type 0 where
  pub within : k ≤ g.len
  pub rest : third_in w g i j ≡ first_in (third_fits w g i j) k g.len
  pub sum_fold : h ≡ fold_of (mod_add (at g i).coeff (at g j).coeff w)
  pub linked : k < g.len → link_fits g (at g i).mask h k ≡ true

module _ (w : ℕ) (g : Group) (i j : ℕ) {first next : List ℕ} (p : Linked g (at g i).mask 0 first next) where
  -- the search from a on goes on at the first linked entry
  chase_from : {h k : ℕ} (a : ℕ) → a ≤ g.len → h ≡ fold_of (sum w g i j)
      → third_in w g i j ≡ first_in (third_fits w g i j) a g.len
      → k ≡ first_in (link_fits g (mask_of w g i j i) h) a g.len → Chased w g i j h k
  chase_from {h} {k} a le f e q =
      let links = link_fits g (mask_of w g i j i) h in
      let skip = first_implied (third_fits w g i j) links a g.len le
      (λ x _ _ t. rw f (third_linked w g i j x t)) in
      record {
        within = rw q (first_le links a g.len le);
        rest = e ∙ skip ∙ ap (λ (x : ℕ). first_in (third_fits w g i j) x g.len) (sym q);
        sum_fold = f;
        linked = λ l. ap links q ∙ first_true links a g.len (rw (← q) l);
      }

  pub chase_start : {c h k : ℕ} → is_live (at g j) ≡ true → c ≡ sum w g i j → h ≡ fold_of c → k ≡ get_or first h 0
      → Chased w g i j h k
  unfolding find_third
  chase_start {c} {h} live e f q =
      let f' = f ∙ ap fold_of e in
      chase_from 0 (omega arith) f' (third_live w g i j live)
      (q ∙ p.heads h (fold_below c f))

  module _ {h k : ℕ} (s : Chased w g i j h k) (l : k < g.len) where
    -- what the link says
    parts : (apart_at g (mask_of w g i j i) k ≡ true) × (eqb (fold_of (at g k).coeff) h ≡ true)
    unfolding link_fits
    parts = and_true (apart_at g (mask_of w g i j i) k) _ (s.linked l)

    next_is : get_or next k 0 ≡ first_in (link_fits g (mask_of w g i j i) h) (k + 1) g.len
    next_is =
        p.links k (omega arith) l parts.0
        ∙ ap (λ (y : ℕ). first_in (link_fits g (mask_of w g i j i) y) (k + 1) g.len) (eqb-true _ h parts.1)

    pub chase_le : get_or next k 0 ≤ g.len
    chase_le = omega (arith, next_is, first_le (link_fits g (mask_of w g i j i) h) (k + 1) g.len (omega arith))

    pub chase_less : k < get_or next k 0
    chase_less = omega (arith, next_is, first_from (link_fits g (mask_of w g i j i) h) (k + 1) g.len)

    module _ {b : Bool} {c : ℕ} (e : c ≡ sum w g i j)
        (t : b ≡ rest_of k i j (at g k) c (at g j).mask) where
      fits_is : third_fits w g i j k ≡ b
      fits_is =
          third_rest w g i j k parts.0
          ∙ ap (λ (x : ℕ). rest_of k i j (at g k) x (at g j).mask) (sym e)
          ∙ sym t

      pub chase_here : b ≡ true → k ≡ third_in w g i j
      chase_here d = sym (s.rest ∙ first_here (third_fits w g i j) k g.len l (fits_is ∙ d))

      pub chase_next : b ≡ false → {x : ℕ} → x ≡ get_or next k 0 → Chased w g i j h x
      chase_next d q =
          chase_from (k + 1) (omega arith) s.sum_fold
          (s.rest ∙ first_next (third_fits w g i j) k g.len l (fits_is ∙ d))
          (q ∙ next_is)

pub chase_end : {w i j h k : ℕ} (g : Group) → Chased w g i j h k → g.len ≤ k → g.len ≡ third_in w g i j
chase_end {w} {i} {j} {h} {k} g s l =
    let e = s.rest ∙ first_end (third_fits w g i j) k g.len l in
    omega (arith, e, s.within)
