-- Laws of the links between entries (specs/Links.antt): how they are put, from the last entry down.
use mathlib.Core.Path.{◌≡◌, ap, sym, subst, ◌∙◌}
use Prim.Native.Nat.{ℕ, ◌+◌, ◌/◌, ◌^◌, ◌≤◌, ◌<◌}
use native.Mathlib.Omega.{arith}
use native.Mathlib.Decide.{ℕ_discrete}
use mathlib.Core.List.{List}
use mathlib.Core.Bool.{true, false}
use lib.ListN.{length, get_or, set, replicate, get_or-replicate}
use lib.Seq.{get_or-set_same, get_or-set_other}
use lib.Bits.{bit_and, bit_xor, and_mask}
use borrow.Author.Tests.{eq-eqb, ne_eqb}
use Rattle.base.specs.Loop.{first_in}
use Rattle.base.proofs.BoolLaws.{false_true}
use Rattle.base.proofs.LoopLaws.{first_le, first_next, first_here, first_end}
use Rattle.group.specs.declared.Group.{Group}
use Rattle.group.specs.Group.{at}
use Rattle.collapse_search.specs.Links.{fold_of, apart_at, link_fits, Linked}

fold_lt : (c : ℕ) → fold_of c < 1024
unfolding fold_of
fold_lt c =
    let a : ℕ = bit_xor c (c / 2 ^ 35) in
    let b : ℕ = bit_xor a (a / 2 ^ 19) in
    low (bit_xor b (b / 2 ^ 10))
  where
    low : (n : ℕ) → bit_and n 1023 < 1024
    low n = omega (arith, and_mask n 10)

pub fold_below : {h : ℕ} (c : ℕ) → h ≡ fold_of c → h < 1024
fold_below c e = rw e (fold_lt c)

-- ---- the links are put

module _ (g : Group) (m : ℕ) where
  link_none : (h k : ℕ) → apart_at g m k ≡ false → link_fits g m h k ≡ false
  unfolding link_fits
  link_none h k e = simp e

  link_here : (h k : ℕ) → apart_at g m k ≡ true → h ≡ fold_of (at g k).coeff → link_fits g m h k ≡ true
  unfolding link_fits
  link_here h k e f = simp (e, eq-eqb (fold_of (at g k).coeff) h (sym f))

  link_other : (h k : ℕ) → (fold_of (at g k).coeff ≡ h → ⊥) → apart_at g m k ≡ true → link_fits g m h k ≡ false
  unfolding link_fits
  link_other h k f e = simp (e, ne_eqb (fold_of (at g k).coeff) h f)

  pub linked_none : {a : ℕ} → a ≡ g.len → {first next : List ℕ} → first ≡ replicate 1024 g.len
      → Linked g m a first next
  linked_none {a} end e =
      record {
        heads = λ h l.
            ap (λ (s : List ℕ). get_or s h 0) e
            ∙ get_or-replicate 1024 h g.len 0 l
            ∙ sym (first_end (link_fits g m h) a g.len (omega arith) ∙ end);
        links = λ k l u. absurd (omega arith);
      }

  -- one entry more
  module _ (k : ℕ) (l : k < g.len) {a : ℕ} (ea : a ≡ k + 1) {first next : List ℕ} (pa : Linked g m a first next) where
    p : Linked g m (k + 1) first next
    p = subst (λ (x : ℕ). Linked g m x first next) ea pa

    pub linked_skip : apart_at g m k ≡ false → Linked g m k first next
    linked_skip e =
        record {
          heads = λ h u.
              p.heads h u ∙ sym (first_next (link_fits g m h) k g.len l (link_none h k e));
          links = λ x le u a. go x le u a (ℕ_discrete x k);
        }
      where
        go : (x : ℕ) → k ≤ x → x < g.len → apart_at g m x ≡ true → Dec (x ≡ k)
            → get_or next x 0 ≡ first_in (link_fits g m (fold_of (at g x).coeff)) (x + 1) g.len
        go x le u a (yes q) = false_true (sym e ∙ ap (apart_at g m) (sym q) ∙ a)
        go x le u a (no q) = p.links x (omega arith) u a

    pub linked_put : {h : ℕ} → h ≡ fold_of (at g k).coeff → apart_at g m k ≡ true → length first ≡ 1024
        → k < length next → Linked g m k (set first h k) (set next k (get_or first h 0))
    linked_put {h} f e lf ln =
        record {
          heads = λ x u. head x u (ℕ_discrete x h);
          links = λ x le u a. link x le u a (ℕ_discrete x k);
        }
      where
        lh : h < 1024
        lh = fold_below (at g k).coeff f

        head : (x : ℕ) → x < 1024 → Dec (x ≡ h) → get_or (set first h k) x 0 ≡ first_in (link_fits g m x) k g.len
        head x u (yes q) =
            ap (get_d_of (set first h k)) q
            ∙ get_or-set_same first h k 0 (omega arith)
            ∙ sym (first_here (link_fits g m x) k g.len l (link_here x k e (q ∙ f)))
          where
            get_d_of : List ℕ → ℕ → ℕ
            get_d_of s y = get_or s y 0
        head x u (no q) =
            get_or-set_other first h x k 0 q
            ∙ p.heads x u
            ∙ sym (first_next (link_fits g m x) k g.len l (link_other x k (λ z. q (sym z ∙ sym f)) e))

        link : (x : ℕ) → k ≤ x → x < g.len → apart_at g m x ≡ true → Dec (x ≡ k)
            → get_or (set next k (get_or first h 0)) x 0
            ≡ first_in (link_fits g m (fold_of (at g x).coeff)) (x + 1) g.len
        link x le u a (yes q) =
            rw q
            (get_or-set_same next k (get_or first h 0) 0 ln
            ∙ p.heads h lh
            ∙ ap (λ (y : ℕ). first_in (link_fits g m y) (k + 1) g.len) f)
        link x le u a (no q) = get_or-set_other next k x (get_or first h 0) 0 q ∙ p.links x (omega arith) u a

-- a head is an entry, or none
pub head_le : {g : Group} {m : ℕ} {first next : List ℕ} → Linked g m 0 first next → (h : ℕ) → h < 1024
    → get_or first h 0 ≤ g.len
head_le {g} {m} p h l = omega (arith, p.heads h l, first_le (link_fits g m h) 0 g.len (omega arith))
