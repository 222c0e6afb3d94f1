-- Laws of the stages of refining (specs/Stages.antt): each is its steps in turn, and is the identity where its test says
-- that no step changes anything.
use Rattle.made.specs.declared.Made.{Made}
use mathlib.Core.Path.{◌≡◌, refl, ap, ap₂, sym, subst, ◌∙◌}
use mathlib.Core.Bool.{false}
use Prim.Native.Nat.{ℕ, ◌+◌, ◌<◌}
use native.Mathlib.Omega.{arith}
use mathlib.Core.List.{List}
use lib.ListN.{length}
use Rattle.record.specs.Tree.{Tree}
use Rattle.group.specs.declared.Group.{Group}
use Rattle.group.specs.Group.{Entry, used, Work, work, on_group}
use Rattle.group.specs.Steps.{cut_masks, drop_zero, bucket_merge, pair_merge, to_minus_one}
use Rattle.made.specs.Made.{Room}
use Rattle.group.specs.Made.{Stepped}
use Rattle.group.specs.Stages.{cut_and_drop, merge_all}
use Rattle.entries.specs.Tests.{cut_of, drops_of, becomes_minus_one, pair_of, NoSingle, NoMerge}
use Rattle.group.proofs.EntryLaws.{used_at, length_used}
use Rattle.group.proofs.SteppedLaws.{stepped_none, stepped_as, stepped_then, stepped_group}
use Rattle.group.proofs.CutLaws.{cut_none}
use Rattle.group.proofs.DropLaws.{drop_none, len_drop_zero}
use Rattle.group.proofs.MinusOneLaws.{becomes_minus_one_at, minus_one_none, len_to_minus_one}
use Rattle.group.proofs.PairLaws.{NoPair, pair_none, bucket_none}

pub len_minus_one : (w : ℕ) (q : Group) {p : Group} → p ≡ to_minus_one w q → p.len ≡ q.len
len_minus_one w q e = ap (λ (k : Group). k.len) e ∙ len_to_minus_one w q

-- where nothing joins, the joins change nothing
merge_same : {w : ℕ} (t : Tree) {g : Group} → NoMerge w (used g) → (x : Work)
    → g ≡ x.group → x ≡ merge_all w t x
unfolding merge_all on_group work
merge_same {w} t {g} h x e =
    let n : length (used g) ≡ g.len = length_used g in
    let no_pair : NoPair w x.group =
    subst (NoPair w) e
    (λ i j l u.
    ap₂ (λ (a b : Entry). pair_of a b w) (sym (used_at g i (omega arith))) (sym (used_at g j u))
    ∙ h.no_pair i j l (omega arith)) in
    let no_minus_one : (k : ℕ) → k < x.group.len → becomes_minus_one_at w x.group k ≡ false =
    subst (λ (r : Group). (k : ℕ) → k < r.len → becomes_minus_one_at w r k ≡ false) e
    (λ k u. ap (λ (a : Entry). becomes_minus_one a w) (sym (used_at g k u)) ∙ h.no_minus_one k (omega arith)) in
    let pairs : pair_merge w t x ≡ x = pair_none w t x no_pair in
    let first : pair_merge w t (bucket_merge w t x) ≡ x =
    ap (pair_merge w t) (bucket_none w t x no_pair) ∙ pairs in
    let minus : on_group (to_minus_one w) x ≡ x =
    ap (λ (k : Group). work k x.rows) (sym (minus_one_none w x.group no_minus_one)) in
    sym (ap (λ (y : Work). pair_merge w t (on_group (to_minus_one w) y)) first ∙ ap (pair_merge w t) minus ∙ pairs)

module _ {w : ℕ} (t : Tree) {g : Group} {made : Made} {out : List ℕ} where
  -- ---- one entry at a time

  pub cut_and_drop_lem : {n : ℕ} {r q : Group} {made' : Made} {out' : List ℕ} → Stepped w n (cut_masks w t) g made out r made' out'
      → q ≡ drop_zero w r → Stepped w n (cut_and_drop w t) g made out q made' out'
  unfolding cut_and_drop
  cut_and_drop_lem {r = r} p e =
      stepped_as (omega arith) (λ x _. refl)
      (stepped_then p (stepped_group (drop_zero w) p.room e (len_drop_zero w r)))

  pub single_none : {n : ℕ} → NoSingle w (used g) → Room made out
      → Stepped w n (cut_and_drop w t) g made out g made out
  single_none h room =
      let n : length (used g) ≡ g.len = length_used g in
      cut_and_drop_lem
      (cut_none t
      (λ k u.
      subst (λ (e : Entry). cut_of e w ≡ e.mask) (used_at g k u) (h.no_cut k (omega arith)))
      room)
      (drop_none w g (λ k u. ap (λ (e : Entry). drops_of e w) (sym (used_at g k u)) ∙ h.no_drop k (omega arith)))

  -- ---- two entries at a time

  pub merge_all_lem : {n m k : ℕ} {r q p s : Group} {m1 : Made} {o1 : List ℕ} {m2 : Made} {o2 : List ℕ}
      {m3 : Made} {o3 : List ℕ}
      → Stepped w n (bucket_merge w t) g made out r m1 o1 → Stepped w m (pair_merge w t) r m1 o1 q m2 o2
      → p ≡ to_minus_one w q → Stepped w k (pair_merge w t) p m2 o2 s m3 o3
      → Stepped w (n + m + k) (merge_all w t) g made out s m3 o3
  unfolding merge_all
  merge_all_lem {q = q} a b e c =
      stepped_as (omega arith) (λ x _. refl)
      (stepped_then (stepped_then (stepped_then a b) (stepped_group (to_minus_one w) b.room e (len_to_minus_one w q))) c)

  pub merge_none : {n : ℕ} → NoMerge w (used g) → Room made out
      → Stepped w n (merge_all w t) g made out g made out
  merge_none h room = stepped_as (omega arith) (merge_same t h) (stepped_none room)
