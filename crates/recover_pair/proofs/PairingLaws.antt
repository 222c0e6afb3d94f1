-- Laws of `recover_pair`, `recover_at` and `recover_group` (structure_laws/specs/RecoverStructure.antt) by the tests that
-- the code makes: each of them is one step, or none.
use mathlib.Core.Path.{◌≡◌, refl, ap, ap₂, sym, subst, ◌∙◌}
use mathlib.Core.Logic.{◌≢◌}
use Prim.Native.Nat.{ℕ, zero, suc, ◌+◌, ◌-◌, ◌/◌, ◌%◌, ◌^◌, ◌≤◌, ◌<◌}
use native.Mathlib.Omega.{arith}
use mathlib.Core.List.{List}
use mathlib.Core.Bool.{Bool, true, false, not, ◌&&◌}
use lib.ListN.{length}
use lib.Count.{ones, ones_in, ones_step}
use lib.Dec.{eqb, leb}
use borrow.Author.Tests.{eq-eqb, ne_eqb, lt-ltb, le-ltb}
use Rattle.arith.specs.Width.{mod_add, mod_sub}
use Rattle.record.specs.Tree.{Tree}
use Rattle.base.proofs.LoopLaws.{when_both, first_from, for_same}
use Rattle.group.specs.declared.Group.{Group}
use Rattle.group.specs.Group.{Entry, used, at}
use Rattle.group.proofs.EntryLaws.{used_at, length_used}
use Rattle.base.specs.Loop.{first_in}
use Rattle.base.proofs.SearchLaws.{first_as}
use Rattle.structure_laws.specs.RecoverStructure.{Recovery, recover_xor, eliminate_mask, count_ones, recover_pair}
use Rattle.structure_laws.specs.RecoverStructure.{as_gathered, looks, is_partner, partner_of, recover_at, recover_group}
use Rattle.pairing.specs.Recovering.{partner_fits, partner_in, NoPartner}

-- ---- the ones of a word, as the code counts them

word_ones : (d n : ℕ) → n < 2 ^ d → ones_in d n ≡ ones n
unfolding ones_in ones
word_ones zero n h = let z : n ≡ 0 = omega (arith, h) in sym (ap ones z)
word_ones (suc d) n h =
    let half : n / 2 < 2 ^ d = omega (arith, h) in
    ap (λ (k : ℕ). n % 2 + k) (word_ones d (n / 2) half) ∙ sym (ones_step n)

pub counts_fewer : (m p : ℕ) → m < 2 ^ 64 → p < 2 ^ 64 → leb (ones m) (ones p) ≡ leb (count_ones m) (count_ones p)
counts_fewer m p hm hp = ap₂ leb (sym (word_ones 64 m hm)) (sym (word_ones 64 p hp))

-- ---- the pair

module _ (w : ℕ) (t : Tree) (i j : ℕ) (x : Recovery) where
  abbrev c : Group → ℕ
  c g = (at g i).coeff

  abbrev d : Group → ℕ
  d g = (at g j).coeff

  xor_first : mod_add (c x.group) (d x.group) w ≡ 0
      → leb (count_ones (at x.group i).mask) (count_ones (at x.group j).mask) ≡ true
      → recover_xor w t i j x ≡ recover_pair w t i j x
  unfolding recover_pair
  xor_first z le = sym (simp (eq-eqb _ _ z, le))

  xor_second : mod_add (c x.group) (d x.group) w ≡ 0
      → leb (count_ones (at x.group i).mask) (count_ones (at x.group j).mask) ≡ false
      → recover_xor w t j i x ≡ recover_pair w t i j x
  unfolding recover_pair
  xor_second z lt = sym (simp (eq-eqb _ _ z, lt))

  pair_same : (mod_add (c x.group) (d x.group) w ≡ 0 → ⊥) → mod_sub (c x.group) (d x.group) w ≡ 0
      → x ≡ recover_pair w t i j x
  unfolding recover_pair
  pair_same n z = sym (simp (ne_eqb _ _ n, eq-eqb _ _ z))

  pair_apart : (mod_add (c x.group) (d x.group) w ≡ 0 → ⊥)
      → (mod_sub (c x.group) (d x.group) w ≡ 0 → ⊥)
      → eliminate_mask w t (mod_sub (c x.group) (d x.group) w) i j x ≡ recover_pair w t i j x
  unfolding recover_pair
  pair_apart n m = sym (simp (ne_eqb _ _ n, ne_eqb _ _ m))

-- the same of the group that the code has
module _ (w : ℕ) (t : Tree) (i j : ℕ) (g : Group) {s : ℕ} (es : s ≡ mod_add (at g i).coeff (at g j).coeff w)
  where
    module _ {fewer : Bool} (ef : fewer ≡ leb (count_ones (at g i).mask) (count_ones (at g j).mask)) where
      pub pair_xor : s ≡ 0 → fewer ≡ true → (x : Recovery) → g ≡ x.group
          → recover_xor w t i j x ≡ recover_pair w t i j x
      pair_xor z le x e =
          xor_first w t i j x
          (subst (λ (k : Group). mod_add (at k i).coeff (at k j).coeff w ≡ 0) e (sym es ∙ z))
          (subst (λ (k : Group). leb (count_ones (at k i).mask) (count_ones (at k j).mask) ≡ true) e
          (sym ef ∙ le))

      pub pair_xor_back : s ≡ 0 → fewer ≡ false → (x : Recovery) → g ≡ x.group
          → recover_xor w t j i x ≡ recover_pair w t i j x
      pair_xor_back z lt x e =
          xor_second w t i j x
          (subst (λ (k : Group). mod_add (at k i).coeff (at k j).coeff w ≡ 0) e (sym es ∙ z))
          (subst (λ (k : Group). leb (count_ones (at k i).mask) (count_ones (at k j).mask) ≡ false) e
          (sym ef ∙ lt))

    module _ (n : s ≡ 0 → ⊥) {d : ℕ} (ed : d ≡ mod_sub (at g i).coeff (at g j).coeff w) where
      not_opposite : (k : Group) → g ≡ k → mod_add (at k i).coeff (at k j).coeff w ≡ 0 → ⊥
      not_opposite k e =
          subst (λ (h : Group). mod_add (at h i).coeff (at h j).coeff w ≡ 0 → ⊥) e (λ z. n (es ∙ z))

      pub pair_none : d ≡ 0 → (x : Recovery) → g ≡ x.group → x ≡ recover_pair w t i j x
      pair_none z x e =
          pair_same w t i j x (not_opposite x.group e)
          (subst (λ (k : Group). mod_sub (at k i).coeff (at k j).coeff w ≡ 0) e (sym ed ∙ z))

      pub pair_eliminate : (d ≡ 0 → ⊥) → (x : Recovery) → g ≡ x.group
          → eliminate_mask w t d i j x ≡ recover_pair w t i j x
      pair_eliminate m x e =
          ap (λ (k : ℕ). eliminate_mask w t k i j x)
          (ed ∙ ap (λ (k : Group). mod_sub (at k i).coeff (at k j).coeff w) e)
          ∙ pair_apart w t i j x (not_opposite x.group e)
          (subst (λ (h : Group). mod_sub (at h i).coeff (at h j).coeff w ≡ 0 → ⊥) e (λ z. m (ed ∙ z)))

-- ---- an entry

-- a partner is another entry
pub partner_other : (i m : ℕ) (es : List Entry) {j : ℕ} → j ≡ partner_in m es (i + 1) → j ≢ i
partner_other i m es e z =
    absurd (omega (arith, e, z, first_from (partner_fits m es) (i + 1) (length es)))

-- what is found among the entries that are taken is found in the group
partner_is : (w m : ℕ) (g : Group) (i : ℕ) → m ≡ 2 ^ w - 1 - (at g i).mask
    → partner_in m (used g) (i + 1) ≡ partner_of w g i
unfolding partner_of is_partner partner_fits
partner_is w m g i em =
    ap (first_in (partner_fits m (used g)) (i + 1)) (length_used g)
    ∙ first_as (partner_fits m (used g)) (is_partner m g) (i + 1) g.len
    (λ j _ l. ap (λ (e : Entry). as_gathered e.mark && eqb e.mask m) (used_at g j l))
    ∙ ap (λ (k : ℕ). first_in (is_partner k g) (i + 1) g.len) em

module _ (w : ℕ) (t : Tree) (i : ℕ) where
  mark_same : (x : Recovery) → looks (at x.group i).mark ≡ false → x ≡ recover_at w t i x
  unfolding recover_at
  mark_same x e = sym (simp e)

  alone_same : (x : Recovery) → x.group.len ≤ partner_of w x.group i → x ≡ recover_at w t i x
  unfolding recover_at
  alone_same x le =
      sym (simp (le-ltb (partner_of w x.group i) x.group.len le)
      (when_both (λ (r : Recovery). r ≡ x) (not (looks (at x.group i).mark)) x x (λ _. refl) (λ _. refl)))

  pair_found : (x : Recovery) → looks (at x.group i).mark ≡ true → partner_of w x.group i < x.group.len
      → recover_pair w t i (partner_of w x.group i) x ≡ recover_at w t i x
  unfolding recover_at
  pair_found x n lt = sym (simp (n, lt-ltb (partner_of w x.group i) x.group.len lt))

  module _ (g : Group) where
    pub at_mark : looks (at g i).mark ≡ false → (x : Recovery) → g ≡ x.group → x ≡ recover_at w t i x
    at_mark z x e = mark_same x (subst (λ (k : Group). looks (at k i).mark ≡ false) e z)

    module _ {f m : ℕ} (ef : f ≡ 2 ^ w - 1) (em : m ≡ f - (at g i).mask) where
      partner : partner_in m (used g) (i + 1) ≡ partner_of w g i
      partner = partner_is w m g i (em ∙ ap (λ (k : ℕ). k - (at g i).mask) ef)

      pub at_alone : g.len ≤ partner_in m (used g) (i + 1) → (x : Recovery) → g ≡ x.group → x ≡ recover_at w t i x
      at_alone le x e =
          alone_same x (subst (λ (k : Group). k.len ≤ partner_of w k i) e (omega (arith, le, partner)))

      pub at_pair : looks (at g i).mark ≡ true → {j : ℕ} → j ≡ partner_in m (used g) (i + 1) → j < g.len
          → (x : Recovery) → g ≡ x.group → recover_pair w t i j x ≡ recover_at w t i x
      at_pair k {j} ej lt x e =
          ap (λ (a : ℕ). recover_pair w t i a x) (ej ∙ partner ∙ ap (λ (h : Group). partner_of w h i) e)
          ∙ pair_found x (subst (λ (h : Group). looks (at h i).mark ≡ true) e k)
          (subst (λ (h : Group). partner_of w h i < h.len) e (omega (arith, ej, partner, lt)))

-- ---- a group without partners

pub group_alone : (w : ℕ) (t : Tree) (g : Group) {f : ℕ} → f ≡ 2 ^ w - 1
    → NoPartner f (used g) → (x : Recovery) → g ≡ x.group → x ≡ recover_group w t x
unfolding recover_group
group_alone w t g {f} ef none x e =
    sym
    (for_same (recover_at w t) 0 x.group.len x
    (λ i _ u.
    let lt : i < g.len = omega (arith, u, ap (λ (k : Group). k.len) e) in
    sym
    (at_alone w t i g ef (ap (λ (a : Entry). f - a.mask) (used_at g i lt))
    (omega (arith, none i (omega (arith, lt, length_used g)), length_used g)) x e)))
